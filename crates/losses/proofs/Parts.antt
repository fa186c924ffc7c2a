-- A list in two parts: what its pairs weigh.
use Prim.Native.Nat.{ℕ, zero, suc, ◌+◌, ◌*◌}
use native.Mathlib.Omega.{arith}
use mathlib.Core.Path.{◌≡◌, ap₂}
use mathlib.Core.List.{List, ◌++◌}
use lib.ListN.{length}
use Rattle.scope.specs.Cuts.{cut_slot, cut_link}
use Rattle.sets.specs.Sums.{sum_of}
use Rattle.losses.specs.Touch.{harm}
use Rattle.sets.proofs.Sums.{sum_same}
use Rattle.order.proofs.Parts.{slot-left, link_left, slot_right, link_right}

module _ (weight : ℕ → ℕ → ℕ) (pre x : List ℕ) (d : ℕ) (long : length pre ≡ 2 * d) where
  pub harm-front : harm weight (pre ++ x) d ≡ harm weight pre d
  harm-front =
      sum_same (λ j. weight (cut_slot (pre ++ x) j) (cut_link (pre ++ x) j)) (λ j. weight (cut_slot pre j) (cut_link pre j)) d
      (λ j h. ap₂ weight (slot-left pre x d long j h) (link_left pre x d long j h))

  pub harm-both : (n : ℕ) → harm weight (pre ++ x) (d + n) ≡ harm weight pre d + harm weight x n
  unfolding sum_of
  harm-both zero = let z : d + 0 ≡ d = omega arith in rw z (omega (arith, harm-front))
  harm-both (suc n) =
      let e : d + suc n ≡ suc (d + n) = omega arith in
      let last : weight (cut_slot (pre ++ x) (d + n)) (cut_link (pre ++ x) (d + n)) ≡ weight (cut_slot x n) (cut_link x n) =
      ap₂ weight (slot_right pre x d long n) (link_right pre x d long n) in
      rw e (omega (arith, harm-both n, last))
