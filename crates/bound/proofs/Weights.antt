-- The loops that fill the tables from their last slot: from index k on they are done.
use Rattle.std.proofs.Common.{ℕ, zero, suc, ◌+◌, ◌-◌, ◌*◌, ◌/◌, ◌%◌, ◌≤◌, ◌<◌, arith, ◌≡◌, ◌∙◌, ap, ap₂, List, length, get_or, replicate, ltb, set, Bool, true, false, refl}
use mir.Val.{bool_byte}
use borrow.Rule.Slice.PartMut.{put_mid}
use lib.ListN.{get_or-replicate}
use Rattle.scope.specs.Limits.{most_slots, most_links, plane_size}
use Rattle.table.specs.Table.{index_of, entry_at, at_index}
use Rattle.sets.specs.Sums.{sum_of, one_if}
use Rattle.losses.specs.Touch.{touched_in}
use Rattle.bound.specs.Weights.{entries_from, below, most_on_link, ForLinks}
use Rattle.std.proofs.lemmas.Grind.{common_steps}
use Rattle.sets.proofs.Sums.{sum_same, sum_first, tests_few}

module _ (table : List ℕ) (slots : ℕ) where
  from_more : (s e : ℕ) → s < slots → entries_from table slots s e ≡ one_if (ltb 0 (entry_at table s e)) + entries_from table slots (s + 1) e
  from_more s e h =
      let n : slots - s ≡ suc (slots - (s + 1)) = omega arith in
      let z : s + 0 ≡ s = omega arith in
      ap (λ (n : ℕ). touched_in (entry_at table) n s e) n ∙ sum_first (λ i. one_if (ltb 0 (entry_at table (s + i) e))) (slots - (s + 1)) ∙
      ap₂ ◌+◌ (ap (λ (i : ℕ). one_if (ltb 0 (entry_at table i e))) z)
      (sum_same (λ i. one_if (ltb 0 (entry_at table (s + suc i) e))) (λ i. one_if (ltb 0 (entry_at table (s + 1 + i) e))) (slots - (s + 1))
      (λ i l. let t : s + suc i ≡ s + 1 + i = omega arith in ap (λ (j : ℕ). one_if (ltb 0 (entry_at table j e))) t))

  -- fewer come from a later slot on
  pub entries_fall : (s e d : ℕ) → s + d ≤ slots → entries_from table slots (s + d) e ≤ entries_from table slots s e
  entries_fall s e zero h = let z : s + 0 ≡ s = omega arith in rw z (omega arith)
  entries_fall s e (suc d) h =
      let t : s + suc d ≡ s + d + 1 = omega arith in
      rw t (omega (arith, from_more (s + d) e (omega arith), entries_fall s e d (omega arith)))

  pub next-below : (k : ℕ) → slots ≤ most_slots → k < slots * most_links →
      below table slots k ≡ one_if (ltb 0 (at_index table k)) + below table slots (k + most_links)
  next-below k few h =
      let s : k / most_links + 1 ≡ (k + most_links) / most_links = omega arith in
      let e : k % most_links ≡ (k + most_links) % most_links = omega arith in
      from_more (k / most_links) (k % most_links) (omega arith) ∙
      ap (λ (n : ℕ). one_if (ltb 0 (at_index table k)) + n) (ap₂ (entries_from table slots) s e)

  below-past : (k : ℕ) → slots * most_links ≤ k → below table slots k ≡ 0
  unfolding sum_of
  below-past k h =
      let e : slots - k / most_links ≡ zero = omega arith in
      ap (λ (n : ℕ). touched_in (entry_at table) n (k / most_links) (k % most_links)) e

  -- at the index of a slot and a link
  pub below_at : (s e : ℕ) → e < most_links → below table slots (index_of s e) ≡ entries_from table slots s e
  below_at s e l =
      let slot : index_of s e / most_links ≡ s = omega arith in
      let link : index_of s e % most_links ≡ e = omega arith in
      ap₂ (entries_from table slots) slot link

  pub below-small : (k : ℕ) → below table slots k ≤ slots
  below-small k =
      let s = k / most_links in
      omega (arith, tests_few (λ i. ltb 0 (entry_at table (s + i) (k % most_links))) (slots - s))

-- a test as a number
pub counted : (b : Bool) → bool_byte b ≡ one_if b
counted true = refl
counted false = refl

-- what the weight at an index is
abbrev whole : List ℕ → List ℕ → ℕ → ℕ → ℕ
whole table links slots k = below table slots k + get_or links (k % most_links) 0

pub record Weighing (table links : List ℕ) (slots : ℕ) (weights : List ℕ) (k : ℕ) : Type 0 where
  pub is : (j : ℕ) → k ≤ j → j < (slots + 1) * most_links → get_or weights j 0 ≡ whole table links slots j

module _ (table links : List ℕ) (slots : ℕ) (few : slots ≤ most_slots) (numbers : ForLinks links) where
  pub whole-small : (k : ℕ) → whole table links slots k ≤ most_slots + most_on_link
  whole-small k = omega (arith, below-small table slots k, numbers.few (k % most_links) (omega arith))

  -- the links' numbers put behind the last slot
  pub weighing_none : (k : ℕ) (weights new : List ℕ) → k ≡ most_links → length weights ≡ plane_size → length links ≡ most_links → new ≡ links →
      Weighing table links slots (put_mid (slots * most_links) k weights new) (slots * most_links)
  weighing_none k weights new e long numbers same =
      record {
        is = λ j h m. grind (arith, common_steps, below-past table slots j h);
      }

  -- and one index less, whose weight is that of its link a slot on and its own entry's
  pub weighing_more : (k v : ℕ) (weights : List ℕ) → 0 < k → k ≤ slots * most_links → length weights ≡ plane_size → Weighing table links slots weights k →
      v ≡ get_or weights (k - 1 + most_links) 0 + one_if (ltb 0 (at_index table (k - 1))) → Weighing table links slots (set weights (k - 1) v) (k - 1)
  weighing_more k v weights some inside long g e =
      let next = next-below table slots (k - 1) few (omega arith) in
      let after = g.is (k - 1 + most_links) (omega arith) (omega arith) in
      record {
        is = λ j h m. grind (arith, common_steps, next, after, e, g.is j);
      }

-- no number for any link
pub none_of : (links : List ℕ) → links ≡ replicate most_links 0 → (e : ℕ) → e < most_links → get_or links e 0 ≡ 0
none_of links z e h = ap (λ (l : List ℕ). get_or l e 0) z ∙ get_or-replicate most_links e 0 0 h

pub no_links : (links : List ℕ) → links ≡ replicate most_links 0 → ForLinks links
no_links links z = record { few = λ e l. omega (arith, none_of links z e l) }

-- a loop over n indices, from the last one down. `Under i v`: v is enough for index i. `top` is for each from k on, and a number that is put
-- for each from its own index on.
pub record Topping (Under : ℕ → ℕ → Type 0) (n : ℕ) (most : List ℕ) (top k : ℕ) : Type 0 where
  pub all : (i : ℕ) → k ≤ i → i < n → Under i top
  pub tops : (s i : ℕ) → k ≤ s → s ≤ i → i < n → Under i (get_or most s 0)
