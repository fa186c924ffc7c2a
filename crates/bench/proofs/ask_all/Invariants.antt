-- `bench::ask_all` is safe. Assumes nothing.
use Rattle.std.proofs.Common.{◌<◌}
use Rattle.bench.proofs.ask_all.Given as goal

abbrev pub invariant-loop-turn : goal.invariant-loop-turn
invariant-loop-turn l = l.sum < 65536
