-- A list in two parts: its pairs.
use Prim.Native.Nat.{ℕ, ◌+◌, ◌*◌, ◌<◌}
use native.Mathlib.Omega.{arith}
use mathlib.Core.Path.{◌≡◌, ◌∙◌, ap}
use mathlib.Core.List.{List, ◌++◌}
use lib.ListN.{length, get_or, length-append, get_or-append}
use lib.Seq.{get_or-append-add}
use Rattle.scope.specs.Cuts.{pairs, cut_slot, cut_link}

module _ (pre x : List ℕ) (d : ℕ) (long : length pre ≡ 2 * d) where
  pub slot-left : (j : ℕ) → j < d → cut_slot (pre ++ x) j ≡ cut_slot pre j
  slot-left j l = get_or-append pre x 0 (2 * j) (omega arith)

  pub link_left : (j : ℕ) → j < d → cut_link (pre ++ x) j ≡ cut_link pre j
  link_left j l = get_or-append pre x 0 (2 * j + 1) (omega arith)

  pub slot_right : (j : ℕ) → cut_slot (pre ++ x) (d + j) ≡ cut_slot x j
  slot_right j =
      let e : 2 * (d + j) ≡ length pre + 2 * j = omega arith in
      ap (λ (i : ℕ). get_or (pre ++ x) i 0) e ∙ get_or-append-add pre x (2 * j) 0

  pub link_right : (j : ℕ) → cut_link (pre ++ x) (d + j) ≡ cut_link x j
  link_right j =
      let e : 2 * (d + j) + 1 ≡ length pre + (2 * j + 1) = omega arith in
      ap (λ (i : ℕ). get_or (pre ++ x) i 0) e ∙ get_or-append-add pre x (2 * j + 1) 0

  pub pairs-both : (n : ℕ) → length x ≡ 2 * n → pairs (pre ++ x) ≡ d + n
  pairs-both n h = omega (arith, length-append pre x)
