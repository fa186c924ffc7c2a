-- What one message does in a slot, out of what all of them do: its turn, and then its act on what the others try.
use Prim.Native.Nat.{ℕ, zero, suc, ◌+◌}
use native.Mathlib.Omega.{arith}
use mathlib.Core.Path.{◌≡◌, refl, ◌∙◌, ap}
use mathlib.Core.Bool.{Bool}
use mathlib.Core.List.{List, [], ◌∷◌, map}
use lib.ListN.{get_or, get_or-map}
use lib.Dec.{ltb}
use Rattle.scope.specs.Slot.{Position, on_first, Moved, moved, turn, tries, next_second, act}
use Rattle.scope.specs.Cycle.{foremost, moves, slot, nexts}
use Rattle.laws.specs.Message.{position_of, moved_of, move_in}

-- what message m does from position p, with the links tried and the table's entries in this slot
abbrev pub acts : (ℕ → ℕ) → (ℕ → Bool) → (ℕ → ℕ) → ℕ → List ℕ → ℕ → Position → Moved
acts rank down owner i tried m p =
    act down i (owner (next_second p)) (ltb (rank (foremost rank (next_second p) m 0 tried)) (rank m)) (foremost rank (next_second p) m 0 tried) p

-- what all messages try in a slot
abbrev pub tried_in : (ℕ → Bool) → List Position → List ℕ
tried_in down ps = map (tries down) (map (turn down) ps)

moves-at : (rank : ℕ → ℕ) (down : ℕ → Bool) (owner : ℕ → ℕ) (i : ℕ) (tried : List ℕ) (k : ℕ) (ps : List Position) (m : ℕ) →
    moved_of m (moves rank down owner i tried k ps) ≡ acts rank down owner i tried (k + m) (position_of m ps)
unfolding moves
moves-at rank down owner i tried k [] m = refl
moves-at rank down owner i tried k (p ∷ ps) zero =
    let e : k ≡ k + 0 = omega arith in
    ap (λ (n : ℕ). acts rank down owner i tried n p) e
moves-at rank down owner i tried k (p ∷ ps) (suc m) =
    let e : k + 1 + m ≡ k + suc m = omega arith in
    moves-at rank down owner i tried (k + 1) ps m ∙ ap (λ (n : ℕ). acts rank down owner i tried n (position_of m ps)) e

pub move_at : (rank : ℕ → ℕ) (down : ℕ → ℕ → Bool) (owner : ℕ → ℕ → ℕ) (i : ℕ) (ps : List Position) (m : ℕ) →
    move_in rank down owner m i ps ≡ acts rank (down i) (owner i) i (tried_in (down i) ps) m (turn (down i) (position_of m ps))
unfolding slot
move_at rank down owner i ps m =
    let e : 0 + m ≡ m = omega arith in
    moves-at rank (down i) (owner i) i (tried_in (down i) ps) 0 (map (turn (down i)) ps) m ∙
    ap (λ (n : ℕ). acts rank (down i) (owner i) i (tried_in (down i) ps) n (position_of m (map (turn (down i)) ps))) e ∙
    ap (λ (p : Position). acts rank (down i) (owner i) i (tried_in (down i) ps) m p) (get_or-map (turn (down i)) ps m (on_first []))

-- where it stands after the slot
pub next-at : (ms : List Moved) (m : ℕ) → position_of m (nexts ms) ≡ (moved_of m ms).next
next-at ms m = get_or-map (λ (v : Moved). v.next) ms m (moved (on_first []) 0 0)

-- what it tries
pub tried_at : (down : ℕ → Bool) (ps : List Position) (m : ℕ) → get_or (tried_in down ps) m 0 ≡ tries down (turn down (position_of m ps))
tried_at down ps m =
    get_or-map (tries down) (map (turn down) ps) m (on_first []) ∙ ap (tries down) (get_or-map (turn down) ps m (on_first []))
