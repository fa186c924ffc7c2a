-- Where the second path of a message from a place stands in its row, if it has links.
use Prim.Native.Nat.{ℕ, ◌+◌, ◌≤◌, ◌<◌}
use native.Mathlib.Omega.{arith}
use mathlib.Core.Path.{◌≡◌, refl, sym, ◌∙◌, ap}
use mathlib.Core.Bool.{Bool, true, false, cond, ◌&&◌}
use mathlib.Core.List.{List, [], ◌∷◌}
use lib.ListN.{length, take, drop, length-drop}
use lib.Seq.{length-take-le}
use lib.Dec.{ltb}
use borrow.Author.Tests.{ltb-true, ne_eqb}
use Rattle.scope.specs.Outcome.{Outcome, gives, refused}
use Rattle.scope.specs.Plan.{message_count, place_count, flagged, second_start, second_count}
use Rattle.scope.specs.SecondPath.{message_index, place_index, has_second}
use Rattle.scope.specs.Questions.{judge, second_path}
use Rattle.scope.proofs.Bools.{and_left, and_right}
use Rattle.rows.specs.Lies.{PlanLies}
use Rattle.rows.proofs.Walked.{walked}
use Rattle.plan.proofs.Ways.{good-row, shown-part, shown-none}
use Rattle.nuthatchet.specs.Part.{TellsPart}

empty : (xs : List ℕ) → length xs ≡ 0 → [] ≡ xs
empty [] e = refl
empty (x ∷ xs) e = absurd (omega arith)

-- a second path that is shown
pub record Shown (row : List ℕ) (m q : ℕ) : Type 0 where
  pub lies : PlanLies row
  pub message : m < message_count row
  pub place : q < place_count row (message_index row m)
  pub second : flagged row (place_index row m q) ≡ true
  pub is : take (second_count row (place_index row m q)) (drop (second_start (place_index row m q)) row) ≡ second_path row m q

module _ (row : List ℕ) (m q n : ℕ) (count : n ≡ length (second_path row m q)) where
  pub part_none : n ≡ 0 → TellsPart row m q 0 0
  part_none e = record { count = sym e ∙ count; begins = refl; part = empty (second_path row m q) (sym count ∙ e) }

  module _ (some : n ≡ 0 → ⊥) where
    has : (t : Bool) → has_second row m q ≡ t →
        cond t (take (second_count row (place_index row m q)) (drop (second_start (place_index row m q)) row)) [] ≡ second_path row m q →
        (t ≡ true) × (take (second_count row (place_index row m q)) (drop (second_start (place_index row m q)) row) ≡ second_path row m q)
    has true e s = (refl, s)
    has false e s = absurd (some (count ∙ ap length (sym s)))

    good : (o : Outcome) → judge row ≡ o → Shown row m q
    good (refused r) e = absurd (some (count ∙ ap length (sym (shown-none row m q r e))))
    good (gives k) e =
        let h = has (has_second row m q) refl (shown-part row m q k e) in
        let both = and_left (ltb m (message_count row) && ltb q (place_count row (message_index row m)))
        (flagged row (place_index row m q)) h.0 in
        record {
          lies = walked row (good-row row k e).form;
          message = ltb-true m (message_count row) (and_left (ltb m (message_count row)) (ltb q (place_count row (message_index row m))) both);
          place =
              ltb-true q (place_count row (message_index row m))
              (and_right (ltb m (message_count row)) (ltb q (place_count row (message_index row m))) both);
          second = and_right (ltb m (message_count row) && ltb q (place_count row (message_index row m)))
              (flagged row (place_index row m q)) h.0;
          is = h.1;
        }

    pub shown : Shown row m q
    shown = good (judge row) refl

    pub few : (m ≤ 65536) × (q ≤ 65536)
    few =
        let s = shown in
        let a : message_count row ≤ 32 = s.lies.messages in
        let b : place_count row (message_index row m) ≤ 16 = (s.lies.message m s.message).few in
        let c : m < message_count row = s.message in
        let d : q < place_count row (message_index row m) = s.place in
        (omega arith, omega arith)

    pub part-some : (a : ℕ) → a ≡ place_index row m q → TellsPart row m q n (a + 4)
    part-some a e =
        let s = shown in
        let lies : second_start (place_index row m q) + second_count row (place_index row m q) ≤ length row =
        (((s.lies.message m s.message).place q s.place).second s.second).lies in
        let long : second_count row (place_index row m q) ≡ n =
        sym (length-take-le (second_count row (place_index row m q)) (drop (second_start (place_index row m q)) row) (rw length-drop (omega arith)))
        ∙ ap length s.is ∙ sym count in
        record { count = count; begins = rw (ne_eqb n 0 some, e); part = rw (e, ← long) s.is }
