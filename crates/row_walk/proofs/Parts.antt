-- A walk over a row part by part: fields of one width at once, and what they say of the walk field by field.
use Prim.Native.Nat.{ℕ, zero, suc, ◌+◌, ◌-◌, ◌*◌, ◌^◌, ◌≤◌, ◌<◌}
use mathlib.Core.Path.{◌≡◌, refl, sym, ◌∙◌, ap}
use mathlib.Core.Bool.{Bool, true, false}
use mathlib.Core.List.{List}
use native.Mathlib.Numerals.{add-one}
use native.Mathlib.Omega.{arith}
use lib.ListN.{length, get_or, drop, drop_of_length-le}
use lib.Dec.{ltb}
use lib.Seq.{drop-cons}
use borrow.Author.Tests.{lt-ltb, le-ltb, ltb-true, ltb-false, ne_eqb}
use Rattle.scope.specs.declared.Fields.{Fields}
use Rattle.scope.specs.declared.Field.{Field}
use Rattle.scope.specs.declared.Field.TheVariants.{From, Length, Link, SecondLink}
use Rattle.scope.specs.declared.Refusal.{Refusal}
use Rattle.scope.specs.Outcome.{Outcome, gives, refused, refuse, and_then}
use Rattle.scope.specs.Fields.{width, step, opening, next_link, next_message, next_place, next_second}
use Rattle.scope.specs.Row.{walk_from}
use Rattle.scope.proofs.Outcomes.{not-both}
use Rattle.row_walk.specs.Walk.{fields_from, rest_of, Passes}
use Rattle.row_walk.proofs.Walk.{from-short, from_large, from_step}

-- the first of some fields
module _ (row : List ℕ) (w n i : ℕ) where
  none : length row ≤ i → fields_from w (suc n) i (drop i row) ≡ refuse 2 i
  unfolding fields_from
  none l = rw (drop_of_length-le row l) refl

  large : i < length row → 2 ^ w ≤ get_or row i 0 → fields_from w (suc n) i (drop i row) ≡ refuse 3 i
  unfolding fields_from
  large l v = rw (drop-cons row i 0 l, le-ltb (get_or row i 0) (2 ^ w) v) refl

  fits : i < length row → get_or row i 0 < 2 ^ w → fields_from w (suc n) i (drop i row) ≡ fields_from w n (i + 1) (drop (i + 1) row)
  unfolding fields_from
  fits l v =
      rw (drop-cons row i 0 l, lt-ltb (get_or row i 0) (2 ^ w) v) (ap (λ (k : ℕ). fields_from w n (i + 1) (drop k row)) (sym (add-one i)))

-- a walk over n fields from index i on stands at index k
pub record OnFields (row : List ℕ) (w n i k : ℕ) : Type 0 where
  pub same : fields_from w (i + n - k) k (drop k row) ≡ fields_from w n i (drop i row)
  pub from : i ≤ k

module _ (row : List ℕ) (w n i : ℕ) where
  pub fields_first : OnFields row w n i i
  fields_first = record { same = ap (λ m. fields_from w m i (drop i row)) (let e : i + n - i ≡ n = omega arith in e); from = omega arith }

  module _ (k : ℕ) (on : OnFields row w n i k) where
    left : (m : ℕ) → m ≡ i + n - k → fields_from w m k (drop k row) ≡ fields_from w n i (drop i row)
    left m e = rw e on.same

    pub fields_large : k < length row → k < i + n → 2 ^ w ≤ get_or row k 0 → refuse 3 k ≡ fields_from w n i (drop i row)
    fields_large l few v = sym (large row w (i + n - k - 1) k l v) ∙ left (suc (i + n - k - 1)) (omega arith)

    pub fields_next : k < length row → k < i + n → get_or row k 0 < 2 ^ w → OnFields row w n i (k + 1)
    fields_next l few v =
        let from = on.from in
        record { same = sym (fits row w (i + n - (k + 1)) k l v) ∙ left (suc (i + n - (k + 1))) (omega arith); from = omega arith }

    pub fields_short : length row ≤ k → k < i + n → refuse 2 k ≡ fields_from w n i (drop i row)
    fields_short l few = sym (none row w (i + n - k - 1) k l) ∙ left (suc (i + n - k - 1)) (omega arith)

    pub fields_done : k ≡ i + n → gives k ≡ fields_from w n i (drop i row)
    unfolding fields_from
    fields_done e = left zero (omega arith)

-- n steps over fields of w bits, with the numbers of a row from index i on
unfoldable pub Steps : List ℕ → ℕ → ℕ → Fields → Fields → ℕ → Type 0
Steps row w zero s t i = s ≡ t
Steps row w (suc n) s t i = (width s ≡ w) × Steps row w n (step s (get_or row i 0)) t (i + 1)

module _ (row : List ℕ) (w : ℕ) where
  -- such fields are walked at once
  pub steps_walk : (n : ℕ) (s t : Fields) (i : ℕ) → 0 < w → Steps row w n s t i →
      walk_from s i (drop i row) ≡ and_then (fields_from w n i (drop i row)) (λ j. walk_from t j (drop j row))
  unfolding Steps fields_from
  steps_walk zero s t i some e = ap (λ (s : Fields). walk_from s i (drop i row)) e
  steps_walk (suc n) s t i some (wide, rest) = by (ltb i (length row)) refl (ltb (get_or row i 0) (2 ^ w)) refl
      (steps_walk n (step s (get_or row i 0)) t (i + 1) some rest)
    where
      after : ℕ → Outcome
      after j = walk_from t j (drop j row)

      nonzero : width s ≡ 0 → ⊥
      nonzero z = omega (arith, wide, z, some)

      by : (b : Bool) → ltb i (length row) ≡ b → (d : Bool) → ltb (get_or row i 0) (2 ^ w) ≡ d →
          walk_from (step s (get_or row i 0)) (i + 1) (drop (i + 1) row) ≡ and_then (fields_from w n (i + 1) (drop (i + 1) row)) after →
          walk_from s i (drop i row) ≡ and_then (fields_from w (suc n) i (drop i row)) after
      by false l d v next =
          from-short row s i (ltb-false i (length row) l) nonzero ∙
          sym (ap (λ (o : Outcome). and_then o after) (none row w n i (ltb-false i (length row) l)))
      by true l false v next =
          from_large row s i (ltb-true i (length row) l) nonzero (rw wide (ltb-false (get_or row i 0) (2 ^ w) v)) ∙
          sym (ap (λ (o : Outcome). and_then o after) (large row w n i (ltb-true i (length row) l) (ltb-false (get_or row i 0) (2 ^ w) v)))
      by true l true v next =
          from_step row s i (ltb-true i (length row) l) nonzero (rw wide (ltb-true (get_or row i 0) (2 ^ w) v)) ∙ next ∙
          sym (ap (λ (o : Outcome). and_then o after) (fits row w n i (ltb-true i (length row) l) (ltb-true (get_or row i 0) (2 ^ w) v)))

  -- where they end
  pub fields_end : (n i j : ℕ) → i ≤ length row → fields_from w n i (drop i row) ≡ gives j → (j ≡ i + n) × (j ≤ length row)
  unfolding fields_from
  fields_end zero i j l e = let same : i ≡ j = cc in (omega (arith, same), omega (arith, same, l))
  fields_end (suc n) i j l e = by (ltb i (length row)) refl (ltb (get_or row i 0) (2 ^ w)) refl (fields_end n (i + 1) j)
    where
      by : (b : Bool) → ltb i (length row) ≡ b → (d : Bool) → ltb (get_or row i 0) (2 ^ w) ≡ d →
          (i + 1 ≤ length row → fields_from w n (i + 1) (drop (i + 1) row) ≡ gives j → (j ≡ i + 1 + n) × (j ≤ length row)) →
          (j ≡ i + suc n) × (j ≤ length row)
      by false h d v next = not-both (sym (none row w n i (ltb-false i (length row) h)) ∙ e)
      by true h false v next = not-both (sym (large row w n i (ltb-true i (length row) h) (ltb-false (get_or row i 0) (2 ^ w) v)) ∙ e)
      by true h true v next =
          let below = ltb-true i (length row) h in
          let rest = next (omega (arith, below)) (sym (fits row w n i (ltb-true i (length row) h) (ltb-true (get_or row i 0) (2 ^ w) v)) ∙ e) in
          (omega (arith, rest.0), rest.1)

  -- a single one that is not refused is small
  pub fields_small : (i j : ℕ) → fields_from w 1 i (drop i row) ≡ gives j → get_or row i 0 < 2 ^ w
  fields_small i j e = by (ltb i (length row)) refl (ltb (get_or row i 0) (2 ^ w)) refl
    where
      by : (b : Bool) → ltb i (length row) ≡ b → (d : Bool) → ltb (get_or row i 0) (2 ^ w) ≡ d → get_or row i 0 < 2 ^ w
      by false h d v = not-both (sym (none row w 0 i (ltb-false i (length row) h)) ∙ e)
      by true h false v = not-both (sym (large row w 0 i (ltb-true i (length row) h) (ltb-false (get_or row i 0) (2 ^ w) v)) ∙ e)
      by true h true v = ltb-true (get_or row i 0) (2 ^ w) v

-- where the fields stand at f
abbrev pub at : Field → Fields
at f = record { slot = opening.slot; next = f }

-- where something more is left to come
module _ (n : ℕ) (some : 0 < n) where
  some_left : n ≡ 0 → ⊥
  some_left z = omega (arith, some, z)

  next-link : (m : ℕ) → next_link n m ≡ From (n - 1) m
  next-link m = rw (ne_eqb n 0 some_left) refl

  next-second : (p m : ℕ) → next_second n p m ≡ SecondLink (n - 1) p m
  next-second p m = rw (ne_eqb n 0 some_left) refl

  pub next_place_lem : (m : ℕ) → next_place n m ≡ Link (n - 1) m
  next_place_lem m = rw (ne_eqb n 0 some_left) refl

  pub next-message : next_message n ≡ Length (n - 1)
  next-message = rw (ne_eqb n 0 some_left) refl

-- the ends of links, and the links of a second path
pub twice : ℕ → ℕ
twice zero = 0
twice (suc n) = suc (suc (twice n))

pub link_steps : (row : List ℕ) (n m i : ℕ) → Steps row 6 (suc (suc (twice n))) (at (From n m)) (at (Length m)) i
unfolding Steps twice
link_steps row zero m i = (refl, (refl, refl))
link_steps row (suc n) m i =
    (refl, (refl, rw (next-link (suc n) (omega arith) m, (let e : suc n - 1 ≡ n = omega arith in e)) (link_steps row n m (i + 1 + 1))))

pub second_steps : (row : List ℕ) (n p m i : ℕ) → Steps row 6 (suc n) (at (SecondLink n p m)) (at (next_place p m)) i
unfolding Steps
second_steps row zero p m i = (refl, refl)
second_steps row (suc n) p m i =
    (refl, rw (next-second (suc n) (omega arith) p m, (let e : suc n - 1 ≡ n = omega arith in e)) (second_steps row n p m (i + 1)))

pub twice_is : (n : ℕ) → twice n ≡ n * 2
unfolding twice
twice_is zero = refl
twice_is (suc n) = let rest = twice_is n in omega (arith, rest)

-- one part after another, in any place and message
module _ (row : List ℕ) (f g : ℕ → ℕ → Field) (i : ℕ) where
  pub fields_pass : (w n : ℕ) (o : Outcome) → 0 < w → i ≤ length row → ((p m : ℕ) → Steps row w n (at (f p m)) (at (g p m)) i) →
      o ≡ fields_from w n i (drop i row) → Passes row f g i o
  fields_pass w n o some l steps e =
      record {
        same = λ p m. steps_walk row w n (at (f p m)) (at (g p m)) i some (steps p m) ∙
            ap (λ (o : Outcome). and_then o (rest_of row (g p m))) (sym e);
        inside = λ j gave. (fields_end row w n i j l (sym e ∙ gave)).1;
      }

  module _ (h : ℕ → ℕ → Field) (o : Outcome) (passes : Passes row f g i o) where
    pub pass-then : (j : ℕ) (after : Outcome) → o ≡ gives j → Passes row g h j after → Passes row f h i after
    pass-then j after e next =
        record {
          same = λ p m. passes.same p m ∙ ap (λ (o : Outcome). and_then o (rest_of row (g p m))) e ∙ next.same p m;
          inside = next.inside;
        }

    pub pass-bad : (r : Refusal) → o ≡ refused r → Passes row f h i (refused r)
    pass-bad r e =
        record { same = λ p m. passes.same p m ∙ ap (λ (o : Outcome). and_then o (rest_of row (g p m))) e; inside = λ j gave. not-both gave }
