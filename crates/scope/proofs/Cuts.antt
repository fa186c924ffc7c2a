-- What a cut list without a bad pair is, pair by pair.
use Prim.Native.Nat.{ℕ, ◌+◌, ◌-◌, ◌*◌, ◌<◌, ◌≤◌}
use mathlib.Core.Path.{◌≡◌, refl}
use mathlib.Core.Bool.{Bool, true, false, cond, not}
use mathlib.Core.List.{List}
use native.Mathlib.Omega.{arith}
use lib.ListN.{length}
use lib.Dec.{ltb, eqb}
use borrow.Author.Tests.{ltb-true, ltb-false, eqb-false}
use Rattle.scope.specs.Lowest.{lowest, some}
use Rattle.scope.specs.Outcome.{gives, refuse}
use Rattle.scope.specs.Plan.{Plan}
use Rattle.scope.specs.Cables.{is_higher}
use Rattle.scope.specs.Cuts.{pairs, cut_slot, cut_link, falls, bad_pair, check_cuts, is_cut_list}
use Rattle.scope.proofs.Outcomes.{not-both}
use Rattle.scope.proofs.Lowest.{seek-low}
use Rattle.scope.proofs.Bools.{none_of_six, not-true, not-false}

-- a list that is not refused is a cut list
pub is-list : (plan : Plan) (cuts : List ℕ) (n : ℕ) → check_cuts plan cuts ≡ gives n → is_cut_list plan cuts ≡ true
unfolding check_cuts
is-list plan cuts n h = by (some (bad_pair plan cuts) (pairs cuts)) h
  where
    by : (b : Bool) → cond b (refuse 12 (lowest (bad_pair plan cuts) (pairs cuts))) (gives (pairs cuts)) ≡ gives n → not b ≡ true
    by true e = not-both e
    by false e = refl

module _ (plan : Plan) (cuts : List ℕ) (good : is_cut_list plan cuts ≡ true) where
  -- no pair of it is bad
  pub not-bad : (i : ℕ) → i < pairs cuts → bad_pair plan cuts i ≡ false
  not-bad i h =
      let far : pairs cuts ≤ lowest (bad_pair plan cuts) (pairs cuts) = ltb-false _ _ (not-true _ good) in
      seek-low (bad_pair plan cuts) (pairs cuts) 0 i (omega arith) (omega arith)

  -- each of the six things that make a pair bad is false of it
  parts : (i : ℕ) → i < pairs cuts →
      (eqb (length cuts) (2 * i + 1) ≡ false) × (not (ltb (cut_slot cuts i) plan.timeout) ≡ false) ×
      (not (ltb (cut_link cuts i) (length plan.links)) ≡ false) × (falls cuts i ≡ false) ×
      (some (λ j. eqb (cut_link cuts j) (cut_link cuts i)) i ≡ false) × (is_higher plan (cut_link cuts i) ≡ false)
  parts i h =
      none_of_six (eqb (length cuts) (2 * i + 1)) (not (ltb (cut_slot cuts i) plan.timeout))
      (not (ltb (cut_link cuts i) (length plan.links))) (falls cuts i) (some (λ j. eqb (cut_link cuts j) (cut_link cuts i)) i)
      (is_higher plan (cut_link cuts i)) (not-bad i h)

  pub slot-below : (i : ℕ) → i < pairs cuts → cut_slot cuts i < plan.timeout
  slot-below i h = ltb-true _ _ (not-false _ (parts i h).1)

  pub link-below : (i : ℕ) → i < pairs cuts → cut_link cuts i < length plan.links
  link-below i h = ltb-true _ _ (not-false _ (parts i h).2)

  pub rising : (i : ℕ) → i < pairs cuts → falls cuts i ≡ false
  rising i h = (parts i h).3

  pub once : (i : ℕ) → i < pairs cuts → some (λ j. eqb (cut_link cuts j) (cut_link cuts i)) i ≡ false
  once i h = (parts i h).4

  pub not_higher : (i : ℕ) → i < pairs cuts → is_higher plan (cut_link cuts i) ≡ false
  not_higher i h = (parts i h).5

  -- it has two numbers a pair
  pub even : length cuts ≡ 2 * pairs cuts
  even = by (ltb 0 (pairs cuts)) refl
    where
      by : (t : Bool) → ltb 0 (pairs cuts) ≡ t → length cuts ≡ 2 * pairs cuts
      by true e =
          let some_pair : 0 < pairs cuts = ltb-true _ _ e in
          let not-odd : length cuts ≡ 2 * (pairs cuts - 1) + 1 → ⊥ = eqb-false _ _ (parts (pairs cuts - 1) (omega arith)).0 in
          omega arith
      by false e =
          let none : pairs cuts ≤ 0 = ltb-false _ _ e in
          omega arith
