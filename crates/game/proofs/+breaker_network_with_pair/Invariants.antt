use Prim.Native.Nat.{◌+◌, ◌-◌, ◌*◌}
use Rattle.game.proofs.Turns.{Breaking}
use Rattle.game.proofs.+breaker_network_with_pair.Given as goal

abbrev pub invariant-breaker-loop-i : goal.invariant-breaker-loop-i
invariant-breaker-loop-i l =
    Breaking l.row l.board l.p l.n l.s l.e l.least l.best l.i

abbrev pub decreases-breaker-loop-i : goal.decreases-breaker-loop-i
decreases-breaker-loop-i l =
    l.links - l.i

-- the slots left, then the links unchosen, then whether one is being picked
abbrev pub decreases-breaker : goal.decreases-breaker
decreases-breaker l = (l.board.now.sizes.timeout - l.s) * 132 + 2 * (l.board.now.sizes.links - l.e) + 1

abbrev pub decreases-with_pair : goal.decreases-with_pair
decreases-with_pair l = (l.board.now.sizes.timeout - l.s) * 132 + 2 * (l.board.now.sizes.links - l.e)

abbrev pub decreases-network : goal.decreases-network
decreases-network l = (l.board.now.sizes.timeout - l.s) * 132
