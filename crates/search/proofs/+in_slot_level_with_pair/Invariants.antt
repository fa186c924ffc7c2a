use Prim.Native.Nat.{◌+◌, ◌-◌, ◌*◌}
use Rattle.search.proofs.Levels.{Looking, Climbing}
use Rattle.search.proofs.+in_slot_level_with_pair.Given as goal

abbrev pub invariant-in_slot-loop-i : goal.invariant-in_slot-loop-i
invariant-in_slot-loop-i l = Looking l.row l.board l.a l.walk.picked l.n l.s l.e l.i l.rest

abbrev pub decreases-in_slot-loop-i : goal.decreases-in_slot-loop-i
decreases-in_slot-loop-i l = l.links - l.i

abbrev pub invariant-level-loop-s : goal.invariant-level-loop-s
invariant-level-loop-s l = Climbing l.row l.board l.a l.walk.picked l.n l.s l.e l.standing l.left

abbrev pub decreases-in_slot : goal.decreases-in_slot
decreases-in_slot l = 3 * l.n + 1

abbrev pub decreases-level : goal.decreases-level
decreases-level l = 3 * l.n + 2

abbrev pub decreases-with_pair : goal.decreases-with_pair
decreases-with_pair l = 3 * l.n
