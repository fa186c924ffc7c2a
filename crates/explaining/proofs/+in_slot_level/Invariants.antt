use Prim.Native.Nat.{◌+◌, ◌*◌}
use Rattle.explaining.proofs.Levels.{Looking, Climbing}
use Rattle.explaining.proofs.+in_slot_level.Given as goal

abbrev pub invariant-in_slot-loop-i : goal.invariant-in_slot-loop-i
invariant-in_slot-loop-i l = Looking l.row l.crossed l.z l.p l.n l.s l.e l.i

abbrev pub invariant-level-loop-s : goal.invariant-level-loop-s
invariant-level-loop-s l = Climbing l.row l.crossed l.z l.p l.n l.s l.e l.qs

abbrev pub decreases-in_slot : goal.decreases-in_slot
decreases-in_slot l = 2 * l.n

abbrev pub decreases-level : goal.decreases-level
decreases-level l = 2 * l.n + 1
