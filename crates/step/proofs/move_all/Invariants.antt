-- `step::move_all` meets its contract. The loop's invariant: the first m messages have moved. Assumes nothing.
use Rattle.step.specs.Slot.{down_now}
use Rattle.table.specs.Table.{entry_at}
use Rattle.step.proofs.Moving.{Moving}
use Rattle.step.proofs.move_all.Given as goal

abbrev pub invariant-loop-m : goal.invariant-loop-m
invariant-loop-m l =
    Moving l.row (down_now l.down) (entry_at l.table) l.i.0 l.n l.initial.ps l.initial.tried l.m l.ps l.tried
