-- `explain_text::said_of` meets its contract: the input is one piece.
use mathlib.Core.Path.{refl}
use Rattle.scope.specs.Lines.{capture_of}
use Rattle.explain_text.proofs.Captures.{good-small, input-kept}
use Rattle.plan.proofs.Ways.{known_good}
use Rattle.explain_text.proofs.said_of.Goals as goal

pub feed-reading-requires : goal.feed-reading-requires
feed-reading-requires c =
    let begun = c.begin.ensures in
    record { small = good-small _ (known_good _ c.args.good.is_good); size = refl; fits = begun.fits; line = begun.line }

pub say-requires : goal.say-requires
say-requires c =
    record {
      seen = capture_of c.args.input.now;
      keeps = input-kept _ c.args.input.now _ _ _ c.begin.ensures c.feed-reading.ensures _ c.finish.ensures;
    }

pub returns : goal.returns
returns c =
    c.say.ensures (capture_of c.args.input.now)
    (input-kept _ c.args.input.now _ _ _ c.begin.ensures c.feed-reading.ensures _
    c.finish.ensures)
