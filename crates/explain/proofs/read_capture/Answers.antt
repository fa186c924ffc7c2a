-- `explain::read_capture` meets its contract: what came in all turns is read.
use Rattle.std.proofs.Common.{ap, length, rules}
use Rattle.explain.proofs.Program.{going-first, going_more, going-whole}
use Rattle.explain.proofs.read_capture.Goals as goal

pub loop-turn-init : goal.loop-turn-init
loop-turn-init c =
    (search rules, going-first _ _ _ _ c.requires (ap length c.requires.zeros) c.begin-reading.ensures)

pub returns-then-n-eq0 : goal.returns-then-n-eq0
returns-then-n-eq0 c =
    going-whole _ _ _ _ _ _ c.loop-turn.invariant.1 c.in_ok-n.ensures _ c.if-n-eq0.true c.finish.ensures

pub feed-reading-requires : goal.feed-reading-requires
feed-reading-requires c =
    let g = c.loop-turn.invariant.1 in
    record { small = c.requires.small; size = g.size; fits = g.fits; line = g.line }

pub loop-turn-preserved : goal.loop-turn-preserved
loop-turn-preserved c =
    (search rules, going_more _ _ _ _ _ _ c.loop-turn.invariant.1 c.in_ok-n.ensures _ _ c.feed-reading.ensures)
