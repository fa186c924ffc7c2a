-- `Tries::first` meets its contract: what is still to look at gives what the whole gives. Assumes nothing.
use Rattle.step.proofs.Tried.{Left}
use Rattle.step.proofs.Tries.first.Given as goal

abbrev pub invariant-loop-t : goal.invariant-loop-t
invariant-loop-t l = Left l.self l.link l.t-index
