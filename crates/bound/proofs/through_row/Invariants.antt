use Rattle.std.proofs.Common.{ℕ, ◌<◌}
use Rattle.bound.specs.Sets.{set_in, Through}
use Rattle.bound.proofs.through_row.Given as goal

abbrev pub invariant-loop-e : goal.invariant-loop-e
invariant-loop-e l = (d : ℕ) → d < l.e → Through l.seconds d (set_in l.sets l.s d)
