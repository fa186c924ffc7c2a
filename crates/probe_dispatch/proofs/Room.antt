-- Room for half as many numbers, or bytes, as a line has bytes is enough, and more changes nothing: each takes two bytes of it at least.
use Prim.Native.Nat.{ℕ, zero, suc, ◌+◌, ◌*◌, ◌≤◌, ◌<◌}
use mathlib.Core.Path.{◌≡◌, refl, sym, ap, ap₂}
use mathlib.Core.Bool.{Bool, true, false, cond, ◌&&◌, ◌||◌}
use mathlib.Core.List.{List, [], ◌∷◌}
use native.Mathlib.Omega.{arith}
use lib.ListN.{length}
use lib.Dec.{ltb, leb, eqb}
use borrow.Author.Tests.{le-ltb, ltb-true}
use Rattle.scope.specs.Lines.{byte_at}
use Rattle.text.specs.Reading.{size_at}
use Rattle.probe_words.specs.Words.{items, items_end, is_number, number_next, number_value, is_pair, pair_next, pair_value, is_dash, is_bytes, bytes_in}
use Rattle.std.proofs.lemmas.List.{get_or_past}
use Rattle.probe_words.proofs.Found.{number_past}
use Rattle.probe_dispatch.specs.Line.{numbers_in}

and_right : (a b : Bool) → (a && b) ≡ true → b ≡ true
and_right true b e = e
and_right false b e = ap (λ (t : Bool). cond t true b) e

pick_same : {A : Type 0} (t : Bool) (a b z : A) → (t ≡ true → a ≡ b) → cond t a z ≡ cond t b z
pick_same true a b z e = e refl
pick_same false a b z e = refl

-- things that stand one after another in a line, each of two bytes at least
module _ (value next : ℕ → ℕ) (size : ℕ) (past : (i : ℕ) → size ≤ i → next i ≤ i) (far : (i : ℕ) → i < next i → i + 2 ≤ next i) where
  no_item : (more i : ℕ) → size ≤ i → [] ≡ items value next more i
  unfolding items
  no_item zero i h = refl
  no_item (suc more) i h = sym (rw (le-ltb i (next i) (past i h)))

  no_end : (more i : ℕ) → size ≤ i → i ≡ items_end next more i
  unfolding items_end
  no_end zero i h = refl
  no_end (suc more) i h = sym (rw (le-ltb i (next i) (past i h)))

  same-items : (room room' i : ℕ) → size ≤ i + 2 * room → size ≤ i + 2 * room' → items value next room i ≡ items value next room' i
  unfolding items
  same-items zero room' i h k = no_item room' i (omega arith)
  same-items (suc room) zero i h k = sym (no_item (suc room) i (omega arith))
  same-items (suc room) (suc room') i h k =
      pick_same (ltb i (next i)) (value i ∷ items value next room (next i)) (value i ∷ items value next room' (next i)) []
      (λ e.
      let f = far i (ltb-true i (next i) e) in
      ap (λ (s : List ℕ). value i ∷ s) (same-items room room' (next i) (omega arith) (omega arith)))

  same_end : (room room' i : ℕ) → size ≤ i + 2 * room → size ≤ i + 2 * room' → items_end next room i ≡ items_end next room' i
  unfolding items_end
  same_end zero room' i h k = no_end room' i (omega arith)
  same_end (suc room) zero i h k = sym (no_end (suc room) i (omega arith))
  same_end (suc room) (suc room') i h k =
      pick_same (ltb i (next i)) (items_end next room (next i)) (items_end next room' (next i)) i
      (λ e. let f = far i (ltb-true i (next i) e) in same_end room room' (next i) (omega arith) (omega arith))

module _ (line : List ℕ) where
  number_far : (i : ℕ) (t : Bool) → is_number line i ≡ t → i < number_next line i → i + 2 ≤ number_next line i
  number_far i true e h =
      let n : number_next line i ≡ i + 1 + size_at 65535 line (i + 1) = rw e in
      let some = ltb-true 0 (size_at 65535 line (i + 1)) (and_right (eqb (byte_at line i) 32) (ltb 0 (size_at 65535 line (i + 1))) e) in
      omega arith
  number_far i false e h = let n : number_next line i ≡ i = rw e in absurd (omega arith)

  numbers_far : (i : ℕ) → i < number_next line i → i + 2 ≤ number_next line i
  numbers_far i = number_far i (is_number line i) refl

  numbers-end : (i : ℕ) → length line ≤ i → number_next line i ≤ i
  numbers-end i h = let e = number_past line i h in omega arith

  module _ (room room' from : ℕ) (h : length line ≤ from + 2 * room) (k : length line ≤ from + 2 * room') where
    pub numbers-room : numbers_in room line from ≡ numbers_in room' line from
    numbers-room =
        ap₂ (λ (e : ℕ) (s : List ℕ). cond (leb (length line) e) s [])
        (same_end (number_value line) (number_next line) (length line) numbers-end numbers_far room room' from h k)
        (same-items (number_value line) (number_next line) (length line) numbers-end numbers_far room room' from h k)

module _ (word : List ℕ) where
  pair_far : (i : ℕ) (t : Bool) → is_pair word i ≡ t → i < pair_next word i → i + 2 ≤ pair_next word i
  pair_far i true e h = let n : pair_next word i ≡ i + 2 = rw e in omega arith
  pair_far i false e h = let n : pair_next word i ≡ i = rw e in absurd (omega arith)

  pairs_far : (i : ℕ) → i < pair_next word i → i + 2 ≤ pair_next word i
  pairs_far i = pair_far i (is_pair word i) refl

  pairs_end : (i : ℕ) → length word ≤ i → pair_next word i ≤ i
  pairs_end i h = rw (get_or_past word i 0 h) (omega arith)

  module _ (room room' : ℕ) (h : length word ≤ 0 + 2 * room) (k : length word ≤ 0 + 2 * room') where
    pub bytes-room : bytes_in room word ≡ bytes_in room' word
    bytes-room = same-items (pair_value word) (pair_next word) (length word) pairs_end pairs_far room room' 0 h k

    pub are_bytes_room : is_bytes room word ≡ is_bytes room' word
    are_bytes_room =
        ap (λ (e : ℕ). is_dash word || (ltb 0 (length word) && leb (length word) e))
        (same_end (pair_value word) (pair_next word) (length word) pairs_end pairs_far room room' 0 h k)
