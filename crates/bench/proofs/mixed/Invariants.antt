-- `bench::mixed` is safe. Assumes nothing.
use Rattle.std.proofs.Common.{◌<◌}
use Rattle.bench.proofs.mixed.Given as goal

abbrev pub invariant-loop-n : goal.invariant-loop-n
invariant-loop-n l = l.all < 1000003
