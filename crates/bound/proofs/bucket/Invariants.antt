use Rattle.std.proofs.Common.{length}
use Rattle.bound.specs.Fronts.{Bucketed}
use Rattle.bound.proofs.bucket.Given as goal

abbrev pub invariant-loop-touched : goal.invariant-loop-touched
invariant-loop-touched l = Bucketed l.touches l.strips (length l.yielded) l.row
