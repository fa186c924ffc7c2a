-- `step::go_all` meets its contract. The loop's invariant: the first k messages have moved, their events are told, and they are as seen. Assumes
-- nothing.
use Rattle.step.specs.Slot.{down_now}
use Rattle.table.specs.Table.{entry_at}
use Rattle.step.proofs.Seen.{Watching}
use Rattle.step.proofs.go_all.Given as goal

abbrev pub invariant-loop-k : goal.invariant-loop-k
invariant-loop-k l =
    Watching l.row (down_now l.down) (entry_at l.table) l.i.0 l.n l.initial.qs l.initial.tried l.initial.out l.seen l.k l.qs l.tried l.out
