-- The second path of a message from a place, where the row has it: there is no such message or place, no second path there, or one.
use Prim.Native.Nat.{ℕ, ◌+◌, ◌≤◌, ◌<◌}
use native.Mathlib.Numerals.{add-one}
use mathlib.Core.Path.{◌≡◌, refl, sym, ◌∙◌, ap}
use mathlib.Core.Bool.{Bool, true, false, true≢false}
use mathlib.Core.List.{List, []}
use lib.ListN.{length, get_or, get_or-eq_default}
use lib.Dec.{ltb}
use borrow.Author.Tests.{ltb-true, ltb-false}
use Rattle.scope.specs.Plan.{Place, at, numbers_at, flagged, second_start, second_count, second_at, place_at, place_count, message_at, message_count, place_of}
use Rattle.scope.specs.Plan.{plan_of, path_of}
use Rattle.scope.specs.SecondPath.{message_index, place_index}
use Rattle.scope.specs.Spare.{no_second}
use Rattle.rows.proofs.Parts.{places_length, places_at_lem, message-count, path_at}

-- there is such a message, such a place and a second path from it
pub record There (row : List ℕ) (m p : ℕ) : Type 0 where
  pub message : m < message_count row
  pub place : p < place_count row (message_index row m)
  pub second : flagged row (place_index row m p) ≡ true

abbrev none : Place
none = record { link = 0; slot = 0; second = [] }

module _ (row : List ℕ) (m p : ℕ) where
  place-of : (ps : List Place) → path_of (plan_of row) m ≡ ps → place_of (plan_of row) m p ≡ get_or ps p none
  place-of ps e = ap (λ qs. get_or qs p none) e

  pub no_message : message_count row ≤ m → no_second (place_of (plan_of row) m p).second ≡ true
  no_message h =
      let b : length (plan_of row).messages ≤ m = rw (message-count row) h in
      ap (λ q. no_second q.second) (place-of [] (get_or-eq_default (plan_of row).messages [] b))

  pub no_place : m < message_count row → place_count row (message_index row m) ≤ p → no_second (place_of (plan_of row) m p).second ≡ true
  no_place g h =
      let ps = message_at row (message_index row m) in
      let b : length ps ≤ p = rw (places_length row (message_index row m + 1) (place_count row (message_index row m))) h in
      ap (λ q. no_second q.second) (place-of ps (path_at row m g) ∙ get_or-eq_default ps none b)

  pub place_is : m < message_count row → p < place_count row (message_index row m) → place_of (plan_of row) m p ≡ place_at row (place_index row m p)
  place_is g h =
      place-of (message_at row (message_index row m)) (path_at row m g) ∙
      places_at_lem row none (message_index row m + 1) (place_count row (message_index row m)) p h

  pub no_second_lem : m < message_count row → p < place_count row (message_index row m) → flagged row (place_index row m p) ≡ false →
      no_second (place_of (plan_of row) m p).second ≡ true
  no_second_lem g h u =
      let none-there : no_second (second_at row (place_index row m p)) ≡ true = rw u in
      ap (λ q. no_second q.second) (place_is g h) ∙ none-there

  -- what is there
  pub second_is : There row m p →
      (place_of (plan_of row) m p).second ≡ numbers_at row (second_start (place_index row m p)) (second_count row (place_index row m p))
  second_is t =
      let i = place_index row m p in
      let s : second_at row i ≡ numbers_at row (second_start i) (second_count row i) = rw t.second in
      ap (λ q. q.second) (place_is t.message t.place) ∙ s

  some-numbers : (i n : ℕ) → no_second (numbers_at row i (n + 1)) ≡ false
  unfolding numbers_at
  some-numbers i n = rw (add-one n)

  pub has-second : There row m p → no_second (place_of (plan_of row) m p).second ≡ false
  has-second t = ap no_second (second_is t) ∙ some-numbers (second_start (place_index row m p)) (at row (place_index row m p + 3))

  -- and only then
  pub there : no_second (place_of (plan_of row) m p).second ≡ false → There row m p
  there h = by_message (ltb m (message_count row)) refl
    where
      no : no_second (place_of (plan_of row) m p).second ≡ true → There row m p
      no e = absurd (true≢false (sym e ∙ h))

      by_second : m < message_count row → p < place_count row (message_index row m) → (b : Bool) → flagged row (place_index row m p) ≡ b →
          There row m p
      by_second g k true u = record { message = g; place = k; second = u }
      by_second g k false u = no (no_second_lem g k u)

      by_place : m < message_count row → (b : Bool) → ltb p (place_count row (message_index row m)) ≡ b → There row m p
      by_place g true e = by_second g (ltb-true p (place_count row (message_index row m)) e) (flagged row (place_index row m p)) refl
      by_place g false e = no (no_place g (ltb-false p (place_count row (message_index row m)) e))

      by_message : (b : Bool) → ltb m (message_count row) ≡ b → There row m p
      by_message true e = by_place (ltb-true m (message_count row) e) (ltb p (place_count row (message_index row m))) refl
      by_message false e = no (no_message (ltb-false m (message_count row) e))
