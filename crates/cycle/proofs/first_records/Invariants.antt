-- `cycle::first_records` meets its contract. The loop's invariant: the first m messages stand at their first places. Assumes nothing.
use Rattle.cycle.proofs.Start.{Starting}
use Rattle.cycle.proofs.first_records.Given as goal

abbrev pub invariant-loop-m : goal.invariant-loop-m
invariant-loop-m l = Starting l.row l.n l.m l.at l.ps
