use Rattle.strips.proofs.Paths.{Marking}
use Rattle.strips.proofs.mark_path.Given as goal

abbrev pub invariant-loop-k : goal.invariant-loop-k
invariant-loop-k l = Marking l.row l.i l.n l.m l.initial.ways l.ways l.k
