-- What each part of a row is, field by field, and a loop over places or messages.
use Prim.Native.Nat.{ℕ, suc, ◌+◌, ◌-◌, ◌*◌, ◌≤◌, ◌<◌}
use mathlib.Core.Path.{◌≡◌, refl, sym, ◌∙◌, ap}
use mathlib.Core.List.{List}
use native.Mathlib.Omega.{arith}
use lib.ListN.{length, get_or, drop}
use borrow.Author.Tests.{eq-eqb, ne_eqb}
use Rattle.scope.specs.declared.Field.{Field}
use Rattle.scope.specs.declared.Field.TheVariants.{Vertices, Messages, Timeout, Length, Link, Flag, SecondLength, SecondLink}
use Rattle.scope.specs.declared.Refusal.{Refusal}
use Rattle.scope.specs.Outcome.{Outcome, gives, refused, refuse, and_then}
use Rattle.scope.specs.Fields.{next_place, next_message, after_flag, edition}
use Rattle.scope.specs.Row.{walk_row}
use Rattle.scope.proofs.Outcomes.{not-both}
use Rattle.row_walk.specs.Walk.{fields_from, rest_of, Passes}
use Rattle.row_walk.proofs.Walk.{from_end, from_more, row_opens}
use Rattle.row_walk.proofs.Parts.{Steps, at, fields_pass, link_steps, second_steps, twice, twice_is, next_place_lem, next-message}

module _ (row : List ℕ) (i : ℕ) (l : i ≤ length row) (o : Outcome) where
  -- a second path
  pub count_of_second : o ≡ fields_from 4 1 i (drop i row) → Passes row SecondLength (SecondLink (get_or row i 0)) i o
  unfolding Steps
  count_of_second e = fields_pass row SecondLength (SecondLink (get_or row i 0)) i 4 1 o (omega arith) l (λ p m. (refl, refl)) e

  pub links_of_second : (n k : ℕ) → k ≡ n + 1 → o ≡ fields_from 6 k i (drop i row) → Passes row (SecondLink n) next_place i o
  links_of_second n k is e =
      let same : k ≡ suc n = omega (arith, is) in
      fields_pass row (SecondLink n) next_place i 6 (suc n) o (omega arith) l (λ p m. second_steps row n p m i)
      (e ∙ ap (λ k. fields_from 6 k i (drop i row)) same)

  -- a place
  pub held_of_place : o ≡ fields_from 6 2 i (drop i row) → Passes row Link Flag i o
  unfolding Steps
  held_of_place e = fields_pass row Link Flag i 6 2 o (omega arith) l (λ p m. (refl, (refl, refl))) e

  pub flag_of_place : o ≡ fields_from 1 1 i (drop i row) → Passes row Flag (after_flag (get_or row i 0)) i o
  unfolding Steps
  flag_of_place e = fields_pass row Flag (after_flag (get_or row i 0)) i 1 1 o (omega arith) l (λ p m. (refl, refl)) e

  -- a message
  pub count_of_message : o ≡ fields_from 4 1 i (drop i row) → Passes row (λ p m. Length m) (λ p m. Link (get_or row i 0) m) i o
  unfolding Steps
  count_of_message e = fields_pass row (λ p m. Length m) (λ p m. Link (get_or row i 0) m) i 4 1 o (omega arith) l (λ p m. (refl, refl)) e

  -- what comes before the messages
  pub messages_of_plan : (n : ℕ) → i ≡ 3 → o ≡ fields_from 5 1 i (drop i row) →
      Passes row (λ p m. Messages n) (λ p m. Timeout n (get_or row 3 0)) i o
  unfolding Steps
  messages_of_plan n third e =
      fields_pass row (λ p m. Messages n) (λ p m. Timeout n (get_or row 3 0)) i 5 1 o (omega arith) l
      (λ p m. (refl, ap (λ k. at (Timeout n (get_or row k 0))) third)) e

  pub links_of_plan : (n b k : ℕ) → k ≡ (n + 1) * 2 + 1 → o ≡ fields_from 6 k i (drop i row) →
      Passes row (λ p m. Timeout n b) (λ p m. Length b) i o
  unfolding Steps
  links_of_plan n b k is e =
      let half = twice_is n in
      let same : k ≡ suc (suc (suc (twice n))) = omega (arith, is, half) in
      fields_pass row (λ p m. Timeout n b) (λ p m. Length b) i 6 (suc (suc (suc (twice n)))) o (omega arith) l
      (λ p m. (refl, link_steps row n b (i + 1)))
      (e ∙ ap (λ k. fields_from 6 k i (drop i row)) same)

pub sizes_of_plan : (row : List ℕ) → 1 ≤ length row → (o : Outcome) → o ≡ fields_from 6 2 1 (drop 1 row) →
    Passes row (λ p m. Vertices) (λ p m. Messages (get_or row 2 0)) 1 o
unfolding Steps
sizes_of_plan row l o e = fields_pass row (λ p m. Vertices) (λ p m. Messages (get_or row 2 0)) 1 6 2 o (omega arith) l
    (λ p m. (refl, (refl, refl))) e

-- the flag says whether a second path follows
pub flag-set : (row : List ℕ) (i v : ℕ) (o : Outcome) → v ≡ 1 → Passes row SecondLength next_place i o → Passes row (after_flag v) next_place i o
flag-set row i v o e passes = record { same = λ p m. rw (eq-eqb v 1 e) (passes.same p m); inside = passes.inside }

pub flag-clear : (row : List ℕ) (i v : ℕ) → (v ≡ 1 → ⊥) → i ≤ length row → Passes row (after_flag v) next_place i (gives i)
flag-clear row i v e l =
    record { same = λ p m. rw (ne_eqb v 1 e) refl; inside = λ j same. let is : i ≡ j = cc in omega (arith, is, l) }

-- a loop over parts of a row that found nothing up to index k, where the next field is f: what is left gives the whole answer
pub record Going (row : List ℕ) (whole : Outcome) (f : Field) (k : ℕ) : Type 0 where
  pub same : whole ≡ rest_of row f k
  pub inside : k ≤ length row

module _ (row : List ℕ) (whole : Outcome) (f g : Field) (k : ℕ) (going : Going row whole f k) (o : Outcome)
    (turn : rest_of row f k ≡ and_then o (rest_of row g)) where
  pub going_next : (j : ℕ) → o ≡ gives j → j ≤ length row → Going row whole g j
  going_next j e l = record { same = going.same ∙ turn ∙ ap (λ (o : Outcome). and_then o (rest_of row g)) e; inside = l }

  pub going-bad : (r : Refusal) → o ≡ refused r → refused r ≡ whole
  going-bad r e = sym (going.same ∙ turn ∙ ap (λ (o : Outcome). and_then o (rest_of row g)) e)

-- a place more, of n at first, where k are left
module _ (row : List ℕ) (n k i at : ℕ) (some : 0 < k) (left : (m : ℕ) → Going row (rest_of row (next_place n m) i) (next_place k m) at) (o : Outcome)
    (passes : Passes row Link next_place at o) where
  turn : (m : ℕ) → rest_of row (next_place k m) at ≡ and_then o (rest_of row (next_place (k - 1) m))
  turn m = ap (λ (f : Field). rest_of row f at) (next_place_lem k some m) ∙ passes.same (k - 1) m

  pub place_more : (j : ℕ) → o ≡ gives j → (m : ℕ) → Going row (rest_of row (next_place n m) i) (next_place (k - 1) m) j
  place_more j e m = going_next row _ (next_place k m) (next_place (k - 1) m) at (left m) o (turn m) j e (passes.inside j e)

  pub place_bad : (r : Refusal) → o ≡ refused r → Passes row (λ p m. next_place n m) (λ p m. next_message m) i (refused r)
  place_bad r e =
      record {
        same = λ p m. sym (going-bad row _ (next_place k m) (next_place (k - 1) m) at (left m) o (turn m) r e);
        inside = λ j gave. not-both gave;
      }

-- and no place more
pub places_done : (row : List ℕ) (n i at : ℕ) → ((m : ℕ) → Going row (rest_of row (next_place n m) i) (next_place 0 m) at) →
    Passes row (λ p m. next_place n m) (λ p m. next_message m) i (gives at)
places_done row n i at left =
    record { same = λ p m. (left m).same; inside = λ j gave. let is : at ≡ j = cc in omega (arith, is, (left 0).inside) }

-- a message: its number of places, and these
pub places_of_message : (row : List ℕ) (v n j : ℕ) (o : Outcome) → n ≡ v + 1 → Passes row (λ p m. next_place n m) (λ p m. next_message m) j o →
    Passes row (λ p m. Link v m) (λ p m. next_message m) j o
places_of_message row v n j o is passes =
    let less : n - 1 ≡ v = omega (arith, is) in
    record {
      same = λ p m. ap (λ (f : Field). rest_of row f j) (sym (next_place_lem n (omega (arith, is)) m ∙ ap (λ p. Link p m) less)) ∙ passes.same p m;
      inside = passes.inside;
    }

-- a message more, where k are left
pub message_turn : (row : List ℕ) (k at : ℕ) (o : Outcome) → 0 < k → Passes row (λ p m. Length m) (λ p m. next_message m) at o →
    rest_of row (next_message k) at ≡ and_then o (rest_of row (next_message (k - 1)))
message_turn row k at o some passes = ap (λ (f : Field). rest_of row f at) (next-message k some) ∙ passes.same 0 (k - 1)

-- the last message
module _ (row : List ℕ) (whole : Outcome) (messages k : ℕ) (going : Going row whole (next_message messages) k) (none : messages ≡ 0) where
  last : whole ≡ rest_of row (next_message 0) k
  last = going.same ∙ ap (λ n. rest_of row (next_message n) k) none

  pub messages-more : k < length row → refuse 4 k ≡ whole
  messages-more l = sym (last ∙ from_more row (at (next_message 0)) k l refl)

  pub messages-done : length row ≤ k → gives k ≡ whole
  messages-done l = sym (last ∙ from_end row (at (next_message 0)) k l refl)

-- the whole row
module _ (row : List ℕ) (some : 0 < length row) (first : get_or row 0 0 ≡ edition) (o : Outcome)
    (head : Passes row (λ p m. Vertices) (λ p m. Length (get_or row 3 0)) 1 o) where
  pub row_head : (j n : ℕ) (after : Outcome) → o ≡ gives j → n ≡ get_or row 3 0 + 1 → after ≡ rest_of row (next_message n) j → after ≡ walk_row row
  row_head j n after e is rest =
      let begun : next_message n ≡ Length (get_or row 3 0) = next-message n (omega (arith, is)) ∙
      ap Length (let d : n - 1 ≡ get_or row 3 0 = omega (arith, is) in d) in
      rest ∙ ap (λ (f : Field). rest_of row f j) begun ∙
      sym (row_opens row some first ∙ head.same 0 0 ∙ ap (λ (o : Outcome). and_then o (rest_of row (Length (get_or row 3 0)))) e)

  pub row-bad : (r : Refusal) → o ≡ refused r → refused r ≡ walk_row row
  row-bad r e = sym (row_opens row some first ∙ head.same 0 0 ∙ ap (λ (o : Outcome). and_then o (rest_of row (Length (get_or row 3 0)))) e)
