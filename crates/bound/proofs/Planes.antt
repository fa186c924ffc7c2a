-- The three weights one plane after another: sums over the messages of a link, parts of a list, and the planes put together.
use Rattle.std.proofs.Common.{ℕ, ◌+◌, ◌*◌, ◌/◌, ◌%◌, ◌≤◌, ◌<◌, arith, ◌≡◌, refl, sym, ◌∙◌, ap, ap₂, List, ◌++◌, length, get_or, below_more, add-one}
use borrow.Rule.Slice.PartMut.{mid_of, put_mid}
use Rattle.std.proofs.lemmas.Grind.{common_steps}
use Rattle.scope.specs.Limits.{most_slots, most_links, most_messages, plane_size, tops_size}
use Rattle.table.specs.Table.{index_of}
use Rattle.sets.specs.Sums.{sum_of}
use Rattle.bound.specs.Seconds.{second_in, on_link}
use Rattle.bound.specs.Weights.{entries_from, strips_from, most_on_link, MayAdd, Added, Weighs, WeighsAll}
use Rattle.bound.specs.Weights.{Tops}
use Rattle.bound.specs.Bounds.{weight_in, top_in}

pub sum_more : (f : ℕ → ℕ) (n : ℕ) → sum_of f (n + 1) ≡ sum_of f n + f n
unfolding sum_of
sum_more f n = ap (sum_of f) (add-one n)

-- a loop over the messages of a link, at message m
pub record Summing (seconds : List ℕ) (e sum m : ℕ) : Type 0 where
  pub is : sum ≡ sum_of (second_in seconds e) m
  pub few : sum ≤ 255 * m
  pub most : m ≤ most_messages

pub summing_none : (seconds : List ℕ) (e : ℕ) → Summing seconds e 0 0
unfolding sum_of
summing_none seconds e = record { is = refl; few = omega arith; most = omega arith }

module _ (seconds : List ℕ) (e sum m : ℕ) (g : Summing seconds e sum m) where
  pub summing_more : (v : ℕ) → m < most_messages → v < 256 → v ≡ second_in seconds e m → Summing seconds e (sum + v) (m + 1)
  summing_more v h l is =
      record { is = omega (arith, g.is, is, sum_more (second_in seconds e) m); few = omega (arith, g.few); most = omega arith }

-- the links below link e have their numbers
pub record Counting (seconds links : List ℕ) (e : ℕ) : Type 0 where
  pub few : (d : ℕ) → d < e → get_or links d 0 ≤ most_on_link
  pub is : (d : ℕ) → d < e → get_or links d 0 ≡ on_link seconds d

-- a part of a list, and a list with a part put in its place
module _ (a k : ℕ) (xs : List ℕ) where
  pub in_part : (i : ℕ) → i < k → get_or (mid_of a k xs) i 0 ≡ get_or xs (a + i) 0
  in_part i h = grind (arith, common_steps)

  module _ (ys : List ℕ) (there : a + k ≤ length xs) (long : length ys ≡ k) where
    pub put_in : (i : ℕ) → i < k → get_or (put_mid a k xs ys) (a + i) 0 ≡ get_or ys i 0
    put_in i h = grind (arith, common_steps)

    pub put-before : (i : ℕ) → i < a → get_or (put_mid a k xs ys) i 0 ≡ get_or xs i 0
    put-before i h = grind (arith, common_steps)

    pub put-long : length (put_mid a k xs ys) ≡ length xs
    put-long = grind (arith, common_steps)

-- the first j of the three have their numbers
pub record Topped (weights : List ℕ) (slots : ℕ) (most : List ℕ) (j : ℕ) : Type 0 where
  pub later : (p s i e : ℕ) → p < j → s ≤ i → i < slots → e < most_links → weight_in weights p i e ≤ top_in most p s

module _ (weights : List ℕ) (slots : ℕ) (most : List ℕ) where
  pub topped_more : length most ≡ tops_size → (j k l : ℕ) (tops : List ℕ) → slots ≤ most_slots → Topped weights slots most j → j < 3 → k ≡ plane_size → l ≡ most_slots →
      Tops (mid_of (j * plane_size) k weights) slots tops → Topped weights slots (put_mid (j * most_slots) l most tops) (j + 1)
  topped_more long j k l tops few g h ek el t =
      record {
        later =
            λ p s i e b. below_more
            (λ p. (s i e : ℕ) → s ≤ i → i < slots → e < most_links → weight_in weights p i e ≤ top_in (put_mid (j * most_slots) l most tops) p s) j
            (λ p b s i e a c d. omega (
              arith,
              g.later p s i e b a c d,
              put-before (j * most_slots) l most tops (omega arith) (t.long ∙ sym el)
                  (p * most_slots + s) (omega arith),
            ))
            (λ s i e a c d. omega (
              arith,
              t.later s i e a c d,
              in_part (j * plane_size) k weights (index_of i e) (omega arith),
              put_in (j * most_slots) l most tops (omega arith) (t.long ∙ sym el) s (omega arith),
            )) p b s i e;
      }

-- three planes, one after another
module _ (one two three : List ℕ) (a : length one ≡ plane_size) (b : length two ≡ plane_size) (k : ℕ) where
  first : k < plane_size → get_or (one ++ (two ++ three)) (0 * plane_size + k) 0 ≡ get_or one k 0
  first h = grind (arith, common_steps)

  second : k < plane_size → get_or (one ++ (two ++ three)) (1 * plane_size + k) 0 ≡ get_or two k 0
  second h = grind (arith, common_steps)

  third : get_or (one ++ (two ++ three)) (2 * plane_size + k) 0 ≡ get_or three k 0
  third = grind (arith, common_steps)

-- two of them may be added
pub may_add : (f g : ℕ → ℕ → ℕ) (others : List ℕ) (slots : ℕ) (one two both : List ℕ) → slots ≤ most_slots → Weighs f others slots one →
    Weighs g others slots two → length both ≡ plane_size → MayAdd (slots * most_links) one two both
may_add f g others slots one two both few a b long =
    record {
      touched = a.long;
      stripped = b.long;
      long = long;
      within = omega arith;
      few = λ k h.
          let s = k / most_links in
          let e = k % most_links in
          let at : k ≡ index_of s e = omega arith in
          omega (
            arith,
            ap (λ (i : ℕ). get_or one i 0) at,
            ap (λ (i : ℕ). get_or two i 0) at,
            a.few s e (omega arith) (omega arith),
            b.few s e (omega arith) (omega arith),
          );
    }

pub weighs_all : (table fragile seconds others : List ℕ) (slots : ℕ) (one two both : List ℕ) → slots ≤ most_slots →
    Weighs (entries_from table slots) others slots one → Weighs (strips_from fragile seconds slots) others slots two →
    Added one two (slots * most_links) both → WeighsAll table fragile seconds others slots (one ++ (two ++ both))
weighs_all table fragile seconds others slots one two both few a b c =
    record {
      long = grind (arith, common_steps, a.long, b.long, c.long);
      touches = λ s e hs he. first one two both a.long b.long (index_of s e) (omega arith) ∙ a.is s e hs he;
      strips = λ s e hs he. second one two both a.long b.long (index_of s e) (omega arith) ∙ b.is s e hs he;
      both = λ s e hs he.
          let k = index_of s e in
          third one two both a.long b.long k ∙ c.sum k (omega arith) ∙
          ap₂ ◌+◌ (sym (first one two both a.long b.long k (omega arith))) (sym (second one two both a.long b.long k (omega arith)));
    }
