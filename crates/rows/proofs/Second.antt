-- Laws of the second path of a message from a place: as a part of the row, and as the plan has it.
use Prim.Native.Nat.{ℕ, ◌+◌, ◌≤◌, ◌<◌}
use mathlib.Core.Path.{◌≡◌, refl, sym, ◌∙◌, ap}
use mathlib.Core.Bool.{Bool, true, false, cond, true≢false}
use mathlib.Core.List.{List, []}
use native.Mathlib.Omega.{arith}
use borrow.Author.Tests.{lt-ltb, le-ltb, ltb-true, ltb-false}
use lib.ListN.{length, get_or, take, drop, get_or-eq_default}
use lib.Dec.{ltb}
use Rattle.scope.specs.Plan.{Place, numbers_at, flagged, second_start, second_count, second_at, place_at, place_count, message_at, message_count, place_of}
use Rattle.scope.specs.Plan.{plan_of, path_of}
use Rattle.scope.specs.SecondPath.{message_index, place_index, has_second}
use Rattle.rows.specs.View.{IsPlace, IsSpan, second_part}
use Rattle.rows.specs.declared.RowPlace.{RowPlace}
use Rattle.rows.specs.declared.Span.{Span}
use Rattle.rows.specs.Lies.{SecondLies, PlanLies}
use Rattle.rows.proofs.Parts.{numbers-part, places_length, places_at_lem, message-count, path_at}

abbrev none : Place
none = record { link = 0; slot = 0; second = [] }

-- a place without links of a second path has no flag, one with such links has it
module _ (row : List ℕ) (i : ℕ) (r : RowPlace) (here : IsPlace row i r) where
  by_flag : (t : Bool) → flagged row i ≡ t → (r.count ≡ 0 → t ≡ false) × ((r.count ≡ 0 → ⊥) → t ≡ true)
  by_flag true f =
      let e : r.count ≡ second_count row i = here.count ∙ rw f in
      (λ z. absurd (omega (arith, e, z)), λ _. refl)
  by_flag false f =
      let e : r.count ≡ 0 = here.count ∙ rw f in
      (λ _. refl, λ z. absurd (z e))

  pub no_links : r.count ≡ 0 → flagged row i ≡ false
  no_links = (by_flag (flagged row i) refl).0

  pub some-links : (r.count ≡ 0 → ⊥) → flagged row i ≡ true
  some-links = (by_flag (flagged row i) refl).1

  -- where its second path begins and ends
  pub links-count : flagged row i ≡ true → r.count ≡ second_count row i
  links-count f = here.count ∙ rw f

  pub links-next : flagged row i ≡ true → r.next ≡ i + (4 + second_count row i)
  links-next f = here.next ∙ rw f

  -- and its links, none where there is no second path
  pub links-are : numbers_at row r.second r.count ≡ second_at row i
  unfolding numbers_at
  links-are = rw (here.second, here.count) (by (flagged row i))
    where
      by : (t : Bool) →
          numbers_at row (second_start i) (cond t (second_count row i) 0) ≡ cond t (numbers_at row (second_start i) (second_count row i)) []
      by true = refl
      by false = refl

module _ (row : List ℕ) (m p : ℕ) where
  -- there is no such message, no such place; or the flag says whether there is a second path
  has_no_message : message_count row ≤ m → has_second row m p ≡ false
  has_no_message h = let s : ltb m (message_count row) ≡ false = le-ltb m (message_count row) h in rw s

  has_no_place : m < message_count row → place_count row (message_index row m) ≤ p → has_second row m p ≡ false
  has_no_place g h =
      let s : ltb m (message_count row) ≡ true = lt-ltb m (message_count row) g in
      let t : ltb p (place_count row (message_index row m)) ≡ false = le-ltb p (place_count row (message_index row m)) h in
      rw (s, t)

  has-flag : m < message_count row → p < place_count row (message_index row m) → has_second row m p ≡ flagged row (place_index row m p)
  has-flag g h =
      let s : ltb m (message_count row) ≡ true = lt-ltb m (message_count row) g in
      let t : ltb p (place_count row (message_index row m)) ≡ true = lt-ltb p (place_count row (message_index row m)) h in
      rw (s, t)

  part_none : has_second row m p ≡ false → [] ≡ second_part row m p
  part_none e = rw e

  part-there : has_second row m p ≡ true →
      take (second_count row (place_index row m p)) (drop (second_start (place_index row m p)) row) ≡ second_part row m p
  part-there e = rw e

  -- it lies in the row
  pub part_lies : PlanLies row → m < message_count row → p < place_count row (message_index row m) → flagged row (place_index row m p) ≡ true
      → SecondLies row (place_index row m p)
  part_lies l g h u = ((l.message m g).place p h).second u

  -- it is the second path that the plan has there
  pub part-is : PlanLies row → second_part row m p ≡ (place_of (plan_of row) m p).second
  part-is l = by_message (ltb m (message_count row)) refl
    where
      path : (ps : List Place) → path_of (plan_of row) m ≡ ps → place_of (plan_of row) m p ≡ get_or ps p none
      path ps e = ap (λ qs. get_or qs p none) e

      there : m < message_count row → p < place_count row (message_index row m) → (t : Bool) → flagged row (place_index row m p) ≡ t →
          second_part row m p ≡ second_at row (place_index row m p)
      there g h true u =
          sym (part-there (has-flag g h ∙ u)) ∙ sym (numbers-part row (place_index row m p + 4) (second_count row (place_index row m p))
          (part_lies l g h u).lies) ∙ rw u
      there g h false u = sym (part_none (has-flag g h ∙ u)) ∙ rw u

      by_place : m < message_count row → (t : Bool) → ltb p (place_count row (message_index row m)) ≡ t → second_part row m p ≡ (place_of
          (plan_of row) m p).second
      by_place g true s =
          let h : p < place_count row (message_index row m) = ltb-true p (place_count row (message_index row m)) s in
          let e : place_of (plan_of row) m p ≡ place_at row (place_index row m p) =
          path (message_at row (message_index row m)) (path_at row m g) ∙ places_at_lem row none (message_index row m + 1)
          (place_count row (message_index row m)) p h in
          there g h (flagged row (place_index row m p)) refl ∙ sym (ap (λ q. q.second) e)
      by_place g false s =
          let h : place_count row (message_index row m) ≤ p = ltb-false p (place_count row (message_index row m)) s in
          let b : length (message_at row (message_index row m)) ≤ p = rw
          (places_length row (message_index row m + 1) (place_count row (message_index row m))) h in
          let e : place_of (plan_of row) m p ≡ none =
          path (message_at row (message_index row m)) (path_at row m g) ∙ get_or-eq_default (message_at row (message_index row m)) none b in
          sym (part_none (has_no_place g h)) ∙ sym (ap (λ q. q.second) e)

      by_message : (t : Bool) → ltb m (message_count row) ≡ t → second_part row m p ≡ (place_of (plan_of row) m p).second
      by_message true s = by_place (ltb-true m (message_count row) s) (ltb p (place_count row (message_index row m))) refl
      by_message false s =
          let h : message_count row ≤ m = ltb-false m (message_count row) s in
          let b : length (plan_of row).messages ≤ m = rw (message-count row) h in
          sym (part_none (has_no_message h)) ∙ sym (ap (λ q. q.second) (path [] (get_or-eq_default (plan_of row).messages [] b)))

  -- and it lies within the row
  pub span_within : PlanLies row → (r : Span) → IsSpan row m p r → r.to ≤ length row
  span_within l r s =
      by (ltb m (message_count row)) (ltb p (place_count row (message_index row m))) (flagged row (place_index row m p)) refl refl refl s.there
    where
      by : (x y z : Bool) → ltb m (message_count row) ≡ x → ltb p (place_count row (message_index row m)) ≡ y →
          flagged row (place_index row m p) ≡ z → has_second row m p ≡ true → r.to ≤ length row
      by true true true a b c e =
          let t : r.to ≡ second_start (place_index row m p) + second_count row (place_index row m p) = s.ends ∙ rw e in
          let w = (part_lies l (ltb-true m (message_count row) a) (ltb-true p (place_count row (message_index row m)) b) c).lies in
          omega (arith, w, t)
      by true true false a b c e = absurd (true≢false (sym e ∙ rw (a, b, c)))
      by true false z a b c e = absurd (true≢false (sym e ∙ rw (a, b)))
      by false y z a b c e = absurd (true≢false (sym e ∙ rw a))
