-- `explain::of_row` meets its contract: what is printed is the text of the input that came.
use Rattle.std.proofs.Common.{refl}
use Rattle.scope.specs.Lines.{capture_of}
use Rattle.explain_text.proofs.Captures.{good-small}
use Rattle.plan.proofs.Ways.{known_good}
use Rattle.explain.proofs.of_row.Goals as goal

pub read_capture-requires : goal.read_capture-requires
read_capture-requires c = record { small = good-small _ (known_good _ c.args.good.is_good); zeros = refl }

pub printed-requires : goal.printed-requires
printed-requires c =
    let w = c.in_ok-kept.ensures in
    (record { seen = capture_of w.input; keeps = w.keeps }, c.requires)

pub returns : goal.returns
returns c =
    let w = c.in_ok-kept.ensures in
    record { input = w.input; came = w.came; shows = c.printed.ensures (capture_of w.input) w.keeps }
