-- Laws of what all messages do in a slot: how many moves there are, and how many numbers their events take.
use Prim.Native.Nat.{ℕ, suc, ◌+◌, ◌*◌}
use mathlib.Core.Path.{◌≡◌, refl, ap}
use mathlib.Core.Bool.{Bool}
use mathlib.Core.List.{List, [], ◌∷◌}
use native.Mathlib.Omega.{arith}
use lib.ListN.{length}
use Rattle.scope.specs.Slot as S
use Rattle.scope.specs.Cycle.{moves, numbers}

module _ (rank : ℕ → ℕ) (down : ℕ → Bool) (owner : ℕ → ℕ) (i : ℕ) (tried : List ℕ) where
  pub moves-length : (m : ℕ) (ps : List S.Position) → length (moves rank down owner i tried m ps) ≡ length ps
  unfolding moves
  moves-length m [] = refl
  moves-length m (p ∷ ps) = ap suc (moves-length (m + 1) ps)

pub numbers-length : (ms : List S.Moved) → length (numbers ms) ≡ 2 * length ms
unfolding numbers
numbers-length [] = refl
numbers-length (m ∷ ms) = omega (arith, numbers-length ms)
