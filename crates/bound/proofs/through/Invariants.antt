use Rattle.std.proofs.Common.{◌≡◌, ℕ, ◌<◌, true}
use Rattle.sets.specs.Sets.{has}
use Rattle.bound.specs.Seconds.{second_in}
use Rattle.bound.proofs.through.Given as goal

abbrev pub invariant-loop-m : goal.invariant-loop-m
invariant-loop-m l = (j : ℕ) → j < l.m → 0 < second_in l.seconds l.e j → has l.set j ≡ true
