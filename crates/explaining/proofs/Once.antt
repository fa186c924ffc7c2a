-- Two outcomes that the statement of a walk allows are equal.
use Prim.Native.Nat.{ℕ, ◌*◌, ◌≤◌}
use native.Mathlib.Omega.{arith}
use mathlib.Core.Path.{◌≡◌, refl, ap}
use mathlib.Core.List.{List}
use lib.ListN.{length, take}
use lib.Seq.{length-take-le}
use Rattle.scope.specs.Limits.{most_cuts}
use Rattle.scope.specs.Plan.{plan_of}
use Rattle.scope.proofs.Order.{first_once_lem}
use Rattle.picks.proofs.Picking.{same_numbers}
use Rattle.clues.specs.Clues.{Matches}
use Rattle.explaining.specs.declared.Hunted.{Hunted}
use Rattle.std.proofs.Common.{Option, Some, None}
use Rattle.explaining.specs.Walk.{IsFirst, Hunts}

abbrev list : Hunted → List ℕ
list r = take (2 * r.pairs) r.numbers

module _ (row crossed : List ℕ) (k : ℕ) (few : k ≤ most_cuts) where
  list-long : (r : Hunted) → IsFirst row crossed k r → length (list r) ≡ 2 * r.pairs
  list-long r h = length-take-le (2 * r.pairs) r.numbers (omega (arith, h.list.long, h.few))

  -- nothing is found, and a list is
  not-both : (h : Hunted) → Hunts row crossed k None → Hunts row crossed k (Some h) → ⊥
  not-both h x y = let f = y.list.first in x (list h) f.few f.good f.answers

  both_found : (g h : Hunted) → IsFirst row crossed k g → IsFirst row crossed k h → g ≡ h
  both_found g h x y = λ i. record { pairs = count i; numbers = numbers i }
    where
      same : list g ≡ list h
      same = first_once_lem (plan_of row) (Matches (plan_of row) crossed) k (list g) (list h) x.list.first y.list.first

      count : g.pairs ≡ h.pairs
      count = omega (arith, list-long g x, list-long h y, ap length same)

      numbers : g.numbers ≡ h.numbers
      numbers =
          same_numbers g.numbers h.numbers (2 * most_cuts) (2 * g.pairs) (2 * h.pairs) x.list.long y.list.long
          (ap (λ (n : ℕ). 2 * n) count) same x.list.past y.list.past

  pub hunts_once : (g h : Option Hunted) → Hunts row crossed k g → Hunts row crossed k h → g ≡ h
  hunts_once None None x y = refl
  hunts_once None (Some h) x y = absurd (not-both h x y)
  hunts_once (Some g) None x y = absurd (not-both g y x)
  hunts_once (Some g) (Some h) x y = ap Some (both_found g h x y)
