-- `rules::message_starts` meets its contract. The invariant `Noting`: the messages passed are noted. Assumes nothing.
use Rattle.rules.proofs.Laws.{Noting}
use Rattle.rules.proofs.message_starts.Given as goal

abbrev pub invariant-loop-m : goal.invariant-loop-m
invariant-loop-m l = Noting l.row l.m l.at l.starts
