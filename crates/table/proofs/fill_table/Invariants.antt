-- `table::fill_table` meets its contract. The invariant `Below`: the table holds the messages passed. Assumes nothing.
use Rattle.table.specs.Table.{Below}
use Rattle.table.proofs.fill_table.Given as goal

abbrev pub invariant-loop-m : goal.invariant-loop-m
invariant-loop-m l = Below l.row l.m l.at l.table
