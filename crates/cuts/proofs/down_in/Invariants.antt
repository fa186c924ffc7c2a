-- `cuts::down_in` meets its contract. The loop's invariant: `down` tells of the first j pairs. Assumes nothing.
use Rattle.cuts.proofs.Downs.{Told}
use Rattle.cuts.proofs.down_in.Given as goal

abbrev pub invariant-loop-j : goal.invariant-loop-j
invariant-loop-j l = Told l.others l.cuts l.slot l.j l.down
