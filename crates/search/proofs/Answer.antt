-- The verdict from searches for each number of pairs.
use Prim.Native.Nat.{ℕ, ◌+◌, ◌<◌}
use native.Mathlib.Omega.{arith}
use mathlib.Core.List.{[]}
use Rattle.scope.specs.Plan.{Plan}
use Rattle.scope.specs.Verdict.{Fails, Resistant}
use Rattle.order.specs.Search.{NoneOf}
use Rattle.order.proofs.First.{no_list}

pub all-leave : (plan : Plan) (k l : ℕ) → ((i : ℕ) → i < k + 1 → NoneOf plan (Fails plan l) [] i) → Resistant plan k l
unfolding Resistant
all-leave plan k l all cuts good few = omega (arith, no_list plan (Fails plan l) k all cuts few good)
