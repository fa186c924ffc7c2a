-- What the names of cables weigh: link by link, and of a link slot by slot, the weight of the other way comes to it.
use Rattle.std.proofs.Common.{ℕ, ◌+◌, ◌*◌, ◌%◌, ◌≤◌, ◌<◌, arith, ◌≡◌, ◌∙◌, ap₂, cond, List, get_or, replicate, ltb}
use Rattle.scope.specs.Limits.{most_slots, most_links}
use Rattle.table.specs.Table.{index_of}
use Rattle.cables.specs.Others.{other_in, AreLinks}
use Rattle.bound.specs.Weights.{most_on_link, entries_from, entries_and, strips_from, with_other, ForLinks, OnLinks, WeighsFrom, Weighs}
use Rattle.bound.specs.Weights.{MayAddOthers, AddedOthers}
use Rattle.bound.proofs.Weights.{below_at, whole-small, none_of}

-- a loop over the slots of links e and o, at slot s
pub record AddingLink (e o : ℕ) (old new : List ℕ) (s : ℕ) : Type 0 where
  pub here : (i : ℕ) → i < s → get_or new (index_of i e) 0 ≡ get_or old (index_of i e) 0 + get_or old (index_of i o) 0
  pub later : (i d : ℕ) → s ≤ i → d < most_links → get_or new (index_of i d) 0 ≡ get_or old (index_of i d) 0
  pub same : (i d : ℕ) → d < most_links → (d ≡ e → ⊥) → get_or new (index_of i d) 0 ≡ get_or old (index_of i d) 0

-- a loop over the links, at link e: those from there on weigh what they did
pub record AddingOthers (others : List ℕ) (slots : ℕ) (old new : List ℕ) (e : ℕ) : Type 0 where
  pub done : (d : ℕ) → d < e → (s : ℕ) → s < slots → get_or new (index_of s d) 0 ≡ with_other others (λ f. get_or old (index_of s f) 0) d
  pub rest : (s d : ℕ) → s < slots → e ≤ d → d < most_links → get_or new (index_of s d) 0 ≡ get_or old (index_of s d) 0

-- two counts that are the same of each link
with_same : (others : List ℕ) → AreLinks others → (f g : ℕ → ℕ) → ((e : ℕ) → e < most_links → f e ≡ g e) → (e : ℕ) → e < most_links →
    with_other others f e ≡ with_other others g e
with_same others a f g same e l =
    ap₂ (λ (x y : ℕ). x + cond (ltb e (other_in others e)) y 0) (same e l) (same (other_in others e) (a.below e l))

-- one that is at most the other
pub with_less : (others : List ℕ) → AreLinks others → (f g : ℕ → ℕ) → ((e : ℕ) → e < most_links → f e ≤ g e) → (e : ℕ) → e < most_links →
    with_other others f e ≤ with_other others g e
with_less others a f g less e l = grind (arith, less e l, less (other_in others e) (a.below e l))

-- and one that is small
with_small : (others : List ℕ) → AreLinks others → (f : ℕ → ℕ) (n : ℕ) → ((e : ℕ) → e < most_links → f e ≤ n) → (e : ℕ) → e < most_links →
    with_other others f e ≤ 2 * n
with_small others a f n small e l = grind (arith, small e l, small (other_in others e) (a.below e l))

-- where no link has a number, and where each has that of the messages which have it on the second path of a robust place
module _ (table links others : List ℕ) (slots : ℕ) (weights : List ℕ) (a : AreLinks others)
    (w : Weighs (entries_and table links slots) others slots weights) where
  same_count : (g : ℕ → ℕ → ℕ) → ((s e : ℕ) → e < most_links → entries_and table links slots s e ≡ g s e) → Weighs g others slots weights
  same_count g same =
      record {
        long = w.long;
        is = λ s e t l. w.is s e t l ∙ with_same others a (entries_and table links slots s) (g s) (same s) e l;
        few = w.few;
      }

  pub weighs_alone : links ≡ replicate most_links 0 → Weighs (entries_from table slots) others slots weights
  weighs_alone none = same_count (entries_from table slots) (λ s e l. omega (arith, none_of links none e l))

  pub weighs_strips : (seconds : List ℕ) → OnLinks seconds links → Weighs (strips_from table seconds slots) others slots weights
  weighs_strips seconds o = same_count (strips_from table seconds slots) (λ s e l. omega (arith, o.is e l))

module _ (table links others : List ℕ) (slots : ℕ) (few : slots ≤ most_slots) (numbers : ForLinks links) (a : AreLinks others) (one : List ℕ)
    (w : WeighsFrom table links slots one) where
  before : (s e : ℕ) → s < slots → e < most_links → get_or one (index_of s e) 0 ≡ entries_and table links slots s e
  before s e t l =
      let link : index_of s e % most_links ≡ e = omega arith in
      w.is (index_of s e) (omega arith) ∙ ap₂ (λ (x d : ℕ). x + get_or links d 0) (below_at table slots s e l) link

  small : (s e : ℕ) → s < slots → e < most_links → get_or one (index_of s e) 0 ≤ most_slots + most_on_link
  small s e t l = omega (arith, w.is (index_of s e) (omega arith), whole-small table links slots few numbers (index_of s e))

  pub may_add_others : MayAddOthers others slots one
  may_add_others = record { long = w.long; within = few; ways = a; few = small }

  pub weighs_cables : (two : List ℕ) → AddedOthers others slots one two → Weighs (entries_and table links slots) others slots two
  weighs_cables two b =
      record {
        long = b.long;
        is =
            λ s e t l. b.is s e t l ∙
            with_same others a (λ d. get_or one (index_of s d) 0) (entries_and table links slots s) (λ d m. before s d t m) e l;
        few =
            λ s e t l. omega (
              arith,
              b.is s e t l,
              with_small others a (λ d. get_or one (index_of s d) 0) (most_slots + most_on_link) (λ d m. small s d t m) e l,
            );
      }
