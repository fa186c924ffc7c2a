-- The first list that answers, and that none does, from searches for each number of pairs. The question that is asked of a list is any.
use Prim.Native.Nat.{ℕ, ◌+◌, ◌≤◌, ◌<◌}
use native.Mathlib.Omega.{arith}
use mathlib.Core.Path.{◌≡◌, refl, ◌∙◌, ap, subst}
use mathlib.Core.Bool.{Bool, true, false, ◌&&◌, ◌||◌}
use mathlib.Core.List.{List, []}
use lib.ListN.{length}
use lib.Dec.{ltb, eqb}
use borrow.Author.Tests.{ltb-true, eqb-true}
use Rattle.scope.specs.Plan.{Plan}
use Rattle.scope.specs.Cuts.{pairs, is_cut_list}
use Rattle.scope.specs.Verdict.{earlier, goes_before, First}
use Rattle.scope.proofs.Cuts.{even}
use Rattle.order.specs.Search.{Not, NoneOf, FirstOf}
use Rattle.order.proofs.Steps.{split}

-- one number of pairs more
pub none_more : (plan : Plan) (Answers : List ℕ → Type 0) (n : ℕ) → ((i : ℕ) → i < n → NoneOf plan Answers [] i) → NoneOf plan Answers [] n →
    (i : ℕ) → i < n + 1 → NoneOf plan Answers [] i
none_more plan Answers n fewer here i l =
    split i n (fewer i) (λ no_less. let same : n ≡ i = omega arith in subst (NoneOf plan Answers []) same here)

module _ (plan : Plan) (Answers : List ℕ → Type 0) (k : ℕ) where
  pub no_list : ((i : ℕ) → i < k + 1 → NoneOf plan Answers [] i) → (cuts : List ℕ) → pairs cuts ≤ k → Not plan Answers cuts
  no_list none cuts few good = none (pairs cuts) (omega arith) cuts (even plan cuts good) good

  pub first-list : (n : ℕ) (r : List ℕ) → n ≤ k → ((i : ℕ) → i < n → NoneOf plan Answers [] i) → FirstOf plan Answers [] n r →
      First plan Answers k r
  unfolding goes_before
  first-list n r h fewer f = record { good = f.good; few = omega (arith, count); answers = f.answers; first = by }
    where
      count : pairs r ≡ n
      count = omega (arith, ap length f.is, f.long)

      not_earlier : (others : List ℕ) → is_cut_list plan others ≡ true → Answers others → pairs others ≡ n → (b : Bool) →
          earlier others r ≡ b → b ≡ false
      not_earlier others good it same false e = refl
      not_earlier others good it same true e = absurd (f.first others (omega (arith, even plan others good)) e good it)

      by : (others : List ℕ) → is_cut_list plan others ≡ true → Answers others → goes_before others r ≡ false
      by others good it = less (ltb (pairs others) (pairs r)) refl
        where
          as_many : (b : Bool) → eqb (pairs others) (pairs r) ≡ b → (b && earlier others r) ≡ false
          as_many true e = not_earlier others good it (eqb-true (pairs others) (pairs r) e ∙ count) (earlier others r) refl
          as_many false e = refl

          less : (b : Bool) → ltb (pairs others) (pairs r) ≡ b → (b || (eqb (pairs others) (pairs r) && earlier others r)) ≡ false
          less true e =
              absurd (fewer (pairs others) (omega (arith, count, ltb-true (pairs others) (pairs r) e)) others (even plan others good) good it)
          less false e = as_many (eqb (pairs others) (pairs r)) refl
