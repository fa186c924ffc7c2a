use Prim.Native.Nat.{◌+◌, ◌-◌}
use lib.ListN.{length}
use Rattle.whole_shelf.proofs.Laying.{Laying}
use Rattle.whole_shelf.proofs.sheet.Given as goal

abbrev pub invariant-loop-from : goal.invariant-loop-from
invariant-loop-from l =
    Laying l.input l.initial.out l.out l.tally l.next l.from l.done

abbrev pub decreases-loop-from : goal.decreases-loop-from
decreases-loop-from l =
    length l.input + 1 - l.from
