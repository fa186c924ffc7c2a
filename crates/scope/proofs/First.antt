-- The first failing list of a small plan, by computing: lists of one or two pairs are tried, and no other can come before.
use Prim.Native.Nat.{ℕ, ◌<◌, ◌≤◌}
use mathlib.Core.Path.{◌≡◌, refl}
use mathlib.Core.Bool.{Bool, true, false, not, ◌||◌, false≢true}
use mathlib.Core.List.{List, [], ◌∷◌}
use native.Mathlib.Omega.{arith}
use lib.ListN.{length}
use lib.Dec.{leb, lit<}
use borrow.Author.Tests.{leb-true, le-ltb, eq-eqb, ne_eqb, ltb-false}
use Rattle.scope.specs.Lowest.{lowest, some}
use Rattle.scope.specs.Plan.{Plan}
use Rattle.scope.specs.Cuts.{pairs, is_cut_list}
use Rattle.scope.specs.Cycle.{arrivals}
use Rattle.scope.specs.Verdict.{earlier, goes_before}
use Rattle.scope.proofs.Lowest.{seek-low}
use Rattle.scope.proofs.Bools.{not-true, not-false}
use Rattle.scope.proofs.Cuts.{slot-below, link-below, even}

-- a test holds of every number below n
unfoldable pub every : (ℕ → Bool) → ℕ → Bool
every test n = not (some (λ i. not (test i)) n)

pub at_each : (test : ℕ → Bool) (n : ℕ) → every test n ≡ true → (i : ℕ) → i < n → test i ≡ true
unfolding every
at_each test n h i l =
    let far : n ≤ lowest (λ j. not (test j)) n = ltb-false _ _ (not-true _ h) in
    not-false _ (seek-low (λ j. not (test j)) n 0 i (omega arith) (omega arith))

-- a list with more pairs does not go before
pub longer : (cuts others : List ℕ) → pairs others < pairs cuts → goes_before cuts others ≡ false
unfolding goes_before
longer cuts others h =
    rw (le-ltb (pairs cuts) (pairs others) (omega arith), ne_eqb (pairs cuts) (pairs others) (λ e. omega arith))

-- one with as many goes before where its numbers do
as_many : (cuts others : List ℕ) → pairs cuts ≡ pairs others → earlier cuts others ≡ false → goes_before cuts others ≡ false
unfolding goes_before
as_many cuts others h e = rw (le-ltb (pairs cuts) (pairs others) (omega arith), eq-eqb (pairs cuts) (pairs others) h) e

-- a list that comes before `cuts` and of which the tests say that it is no earlier, or leaves l arrivals, leaves them
unfoldable pub spared : Plan → ℕ → List ℕ → List ℕ → Bool
spared plan l cuts others = not (earlier others cuts) || leb l (arrivals plan others)

not_earlier : (plan : Plan) (l : ℕ) (cuts others : List ℕ) → spared plan l cuts others ≡ true → arrivals plan others < l →
    earlier others cuts ≡ false
unfolding spared
not_earlier plan l cuts others s f = by (earlier others cuts) (leb l (arrivals plan others)) refl s
  where
    by : (e a : Bool) → leb l (arrivals plan others) ≡ a → (not e || a) ≡ true → e ≡ false
    by false a h t = refl
    by true true h t = let enough : l ≤ arrivals plan others = leb-true _ _ h in absurd (omega arith)
    by true false h t = absurd (false≢true t)

module _ (plan : Plan) (l e t : ℕ) (links : length plan.links ≡ e) (slots : plan.timeout ≡ t) (none : l ≤ arrivals plan []) where
  -- every list of one pair, of two pairs, passes a test
  abbrev pub ones : (List ℕ → Bool) → Bool
  ones test = every (λ a. every (λ b. test (a ∷ b ∷ [])) e) t

  abbrev pub twos : (List ℕ → Bool) → Bool
  twos test = every (λ a. every (λ b. ones (λ cd. test (a ∷ b ∷ cd))) e) t

  at_one : (test : List ℕ → Bool) → ones test ≡ true → (a b : ℕ) → is_cut_list plan (a ∷ b ∷ []) ≡ true → test (a ∷ b ∷ []) ≡ true
  at_one test h a b g =
      at_each (λ y. test (a ∷ y ∷ [])) e
      (at_each (λ x. every (λ y. test (x ∷ y ∷ [])) e) t h a (rw slots at (slot-below plan (a ∷ b ∷ []) g 0 (lit< tt))))
      b (rw links at (link-below plan (a ∷ b ∷ []) g 0 (lit< tt)))

  at_two : (test : List ℕ → Bool) → twos test ≡ true → (a b c d : ℕ) → is_cut_list plan (a ∷ b ∷ c ∷ d ∷ []) ≡ true →
      test (a ∷ b ∷ c ∷ d ∷ []) ≡ true
  at_two test h a b c d g =
      at_each (λ y. test (a ∷ b ∷ c ∷ y ∷ [])) e
      (at_each (λ x. every (λ y. test (a ∷ b ∷ x ∷ y ∷ [])) e) t
      (at_each (λ y. ones (λ cd. test (a ∷ y ∷ cd))) e
      (at_each (λ x. every (λ y. ones (λ cd. test (x ∷ y ∷ cd))) e) t h a (rw slots at (slot-below plan (a ∷ b ∷ c ∷ d ∷ []) g 0 (lit< tt))))
      b (rw links at (link-below plan (a ∷ b ∷ c ∷ d ∷ []) g 0 (lit< tt))))
      c (rw slots at (slot-below plan (a ∷ b ∷ c ∷ d ∷ []) g 1 (lit< tt))))
      d (rw links at (link-below plan (a ∷ b ∷ c ∷ d ∷ []) g 1 (lit< tt)))

  -- no failing list goes before one of one pair
  pub before_one : (x y : ℕ) → ones (spared plan l (x ∷ y ∷ [])) ≡ true → (others : List ℕ) → is_cut_list plan others ≡ true →
      arrivals plan others < l →
      goes_before others (x ∷ y ∷ []) ≡ false
  before_one x y h [] g f = absurd (omega arith)
  before_one x y h (a ∷ []) g f = absurd (omega (arith, even plan (a ∷ []) g))
  before_one x y h (a ∷ b ∷ []) g f =
      as_many (a ∷ b ∷ []) (x ∷ y ∷ []) refl
      (not_earlier plan l (x ∷ y ∷ []) (a ∷ b ∷ []) (at_one (spared plan l (x ∷ y ∷ [])) h a b g) f)
  before_one x y h (a ∷ b ∷ c ∷ cs) g f = longer (a ∷ b ∷ c ∷ cs) (x ∷ y ∷ []) (omega arith)

  -- no failing list goes before one of two pairs
  pub before_two : (x y z w : ℕ) → ones (λ cs. leb l (arrivals plan cs)) ≡ true → twos (spared plan l (x ∷ y ∷ z ∷ w ∷ [])) ≡ true →
      (others : List ℕ) → is_cut_list plan others ≡ true → arrivals plan others < l → goes_before others (x ∷ y ∷ z ∷ w ∷ []) ≡ false
  before_two x y z w o h [] g f = absurd (omega arith)
  before_two x y z w o h (a ∷ []) g f = absurd (omega (arith, even plan (a ∷ []) g))
  before_two x y z w o h (a ∷ b ∷ []) g f =
      let enough : l ≤ arrivals plan (a ∷ b ∷ []) = leb-true _ _ (at_one (λ cs. leb l (arrivals plan cs)) o a b g) in
      absurd (omega arith)
  before_two x y z w o h (a ∷ b ∷ c ∷ []) g f = absurd (omega (arith, even plan (a ∷ b ∷ c ∷ []) g))
  before_two x y z w o h (a ∷ b ∷ c ∷ d ∷ []) g f =
      as_many (a ∷ b ∷ c ∷ d ∷ []) (x ∷ y ∷ z ∷ w ∷ []) refl
      (not_earlier plan l (x ∷ y ∷ z ∷ w ∷ []) (a ∷ b ∷ c ∷ d ∷ []) (at_two (spared plan l (x ∷ y ∷ z ∷ w ∷ [])) h a b c d g) f)
  before_two x y z w o h (a ∷ b ∷ c ∷ d ∷ u ∷ us) g f = longer (a ∷ b ∷ c ∷ d ∷ u ∷ us) (x ∷ y ∷ z ∷ w ∷ []) (omega arith)
