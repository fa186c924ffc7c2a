-- Two outcomes that the statement of a search allows are equal.
use Rattle.std.proofs.Common.{◌≡◌, refl, sym, ◌∙◌, ap, ℕ, ◌*◌, ◌≤◌, Option, None, Some, List, length, arith}
use lib.Seq.{length-take-le}
use Rattle.scope.specs.Limits.{most_cuts}
use Rattle.scope.specs.Plan.{plan_of}
use Rattle.scope.specs.Cycle.{arrivals}
use Rattle.scope.specs.Verdict.{Fails}
use Rattle.scope.proofs.Order.{first_once_lem, resistant_or_failing}
use Rattle.picks.proofs.Picking.{same_numbers}
use Rattle.search.specs.declared.Found.{Found}
use Rattle.search.specs.Hunt.{list_of, Hunted, Hunts}
use Rattle.search.proofs.Answer.{all-leave}

module _ (row : List ℕ) (l k : ℕ) (few : k ≤ most_cuts) where
  list-long : (f : Found) → Hunted row l k f → length (list_of f) ≡ 2 * f.pairs
  list-long f h = length-take-le (2 * f.pairs) f.numbers (omega (arith, h.told.long, h.few))

  module _ (g h : Found) (x : Hunted row l k g) (y : Hunted row l k h) where
    same : list_of g ≡ list_of h
    same = first_once_lem (plan_of row) (Fails (plan_of row) l) k (list_of g) (list_of h) x.first y.first

    count : g.pairs ≡ h.pairs
    count = omega (arith, list-long g x, list-long h y, ap length same)

    left : g.arrivals ≡ h.arrivals
    left = x.told.left ∙ ap (arrivals (plan_of row)) same ∙ sym y.told.left

    numbers : g.numbers ≡ h.numbers
    numbers =
        same_numbers g.numbers h.numbers (2 * most_cuts) (2 * g.pairs) (2 * h.pairs) x.told.long y.told.long
        (ap (λ (n : ℕ). 2 * n) count) same x.told.past y.told.past

    both_found : g ≡ h
    both_found = λ i. record { pairs = count i; arrivals = left i; numbers = numbers i }

  pub hunts_once : (g h : Option Found) → Hunts row l k g → Hunts row l k h → g ≡ h
  hunts_once None None x y = refl
  hunts_once None (Some h) x y = absurd (resistant_or_failing (plan_of row) k l (list_of h) (all-leave (plan_of row) k l x) y.first)
  hunts_once (Some g) None x y = absurd (resistant_or_failing (plan_of row) k l (list_of g) (all-leave (plan_of row) k l y) x.first)
  hunts_once (Some g) (Some h) x y = ap Some (both_found g h x y)
