-- Where the event of a message in a slot stands in the row of events.
use Prim.Native.Nat.{ℕ, zero, suc, ◌+◌, ◌-◌, ◌*◌, ◌<◌}
use native.Mathlib.Omega.{arith}
use native.Mathlib.Nat.{mul_left_comm}
use mathlib.Core.Path.{◌≡◌, refl, sym, ◌∙◌, ap, ap₂}
use mathlib.Core.Bool.{Bool}
use mathlib.Core.List.{List, [], ◌∷◌, ◌++◌}
use lib.ListN.{length, get_or, get_or-append}
use lib.Seq.{get_or-append-add}
use Rattle.scope.specs.Slot.{Position, Moved}
use Rattle.scope.specs.Cycle.{slot, nexts, numbers, positions, events}
use Rattle.laws.specs.Message.{moved_of}
use Rattle.laws.specs.Replay.{EventsInRow}
use Rattle.laws.proofs.Replay.{lengths_kept, length-numbers, events_follow_lem}

pub kind_at : (ms : List Moved) (m : ℕ) → get_or (numbers ms) (2 * m) 0 ≡ (moved_of m ms).event.kind
unfolding numbers
kind_at [] m = refl
kind_at (v ∷ ms) zero = refl
kind_at (v ∷ ms) (suc m) =
    let e : 2 * suc m ≡ suc (suc (2 * m)) = omega arith in
    ap (λ (j : ℕ). get_or (numbers (v ∷ ms)) j 0) e ∙ kind_at ms m

pub number_at : (ms : List Moved) (m : ℕ) → get_or (numbers ms) (2 * m + 1) 0 ≡ (moved_of m ms).event.number
unfolding numbers
number_at [] m = refl
number_at (v ∷ ms) zero = refl
number_at (v ∷ ms) (suc m) =
    let e : 2 * suc m + 1 ≡ suc (suc (2 * m + 1)) = omega arith in
    ap (λ (j : ℕ). get_or (numbers (v ∷ ms)) j 0) e ∙ number_at ms m

-- the row's number at place r of slot i is that of the slot's own numbers
row_at : (rank : ℕ → ℕ) (down : ℕ → ℕ → Bool) (owner : ℕ → ℕ → ℕ) (n i r : ℕ) (ps : List Position) → i < n → r < 2 * length ps →
    get_or (events rank down owner 0 n ps) (i * (2 * length ps) + r) 0 ≡
    get_or (numbers (slot rank down owner i (positions rank down owner 0 i ps))) r 0
unfolding events
row_at rank down owner n i r ps h g =
    let qs = positions rank down owner 0 i ps in
    let ms = slot rank down owner i qs in
    let k = n - (i + 1) in
    let a : n ≡ i + suc k = omega arith in
    let b : 0 + i ≡ i = omega arith in
    let front = events rank down owner 0 i ps in
    let row : events rank down owner 0 n ps ≡ front ++ events rank down owner i (suc k) qs =
    ap (λ (j : ℕ). events rank down owner 0 j ps) a ∙ events_follow_lem rank down owner 0 i (suc k) ps ∙
    ap (λ (j : ℕ). front ++ events rank down owner j (suc k) qs) b in
    let size : i * (2 * length ps) ≡ length front = sym (lengths_kept.of_events rank down owner 0 i ps) in
    let wide : r < length (numbers ms) =
    omega (arith, length-numbers ms, lengths_kept.of_slot rank down owner i qs, lengths_kept.of_positions rank down owner 0 i ps) in
    ap₂ (λ (l : List ℕ) (s : ℕ). get_or l (s + r) 0) row size ∙
    get_or-append-add front (events rank down owner i (suc k) qs) r 0 ∙
    get_or-append (numbers ms) (events rank down owner (i + 1) k (nexts ms)) 0 r wide

pub events_in_row_lem : EventsInRow
events_in_row_lem rank down owner n m i ps h g =
    let l = length ps in
    let ms = slot rank down owner i (positions rank down owner 0 i ps) in
    let a : 2 * (i * l + m) ≡ i * (2 * l) + 2 * m = omega (arith, mul_left_comm 2 i l) in
    let b : 2 * (i * l + m) + 1 ≡ i * (2 * l) + (2 * m + 1) = omega (arith, mul_left_comm 2 i l) in
    record {
      kind =
          ap (λ (j : ℕ). get_or (events rank down owner 0 n ps) j 0) a ∙ row_at rank down owner n i (2 * m) ps h (omega arith) ∙ kind_at ms m;
      number =
          ap (λ (j : ℕ). get_or (events rank down owner 0 n ps) j 0) b ∙ row_at rank down owner n i (2 * m + 1) ps h (omega arith) ∙
          number_at ms m;
    }
