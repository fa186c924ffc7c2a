-- `probe::run` is safe and ends: no turn leaves the buffer.
use Rattle.std.proofs.Common.{length}
use Rattle.probe.specs.Stands.{Stands}
use Rattle.probe.proofs.run.Given as goal

abbrev pub invariant-loop-turn : goal.invariant-loop-turn
invariant-loop-turn l = Stands (length l.input) l.p
