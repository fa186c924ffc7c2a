-- Strips say more than touches. In plan B the list (0,0) touches message 0 and does not strip it: it has a second path in time. The list
-- (0,0) (0,1) cuts that path too, strips it, and loses it.
use Rattle.std.specs.Prelude.{ℕ, ◌≡◌, true, false, List, [], ◌∷◌}
use Rattle.scope.specs.Slot.{at_target}
use Rattle.laws.specs.Sharp.{plan_b, cut_at_once}
use Rattle.losses.specs.Harmed.{is_touched, stands}
use Rattle.losses.specs.Strips.{is_stripped}

abbrev pub cut_both : List ℕ
cut_both = 0 ∷ 0 ∷ 0 ∷ 1 ∷ []

pub record Sharper : Type 0 where
  pub touched : is_touched plan_b cut_at_once 0 ≡ true
  pub not_stripped : is_stripped plan_b cut_at_once 0 ≡ false
  pub touched_by_both : is_touched plan_b cut_both 0 ≡ true
  pub stripped_by_both : is_stripped plan_b cut_both 0 ≡ true
  pub lost_by_both : at_target (stands plan_b cut_both plan_b.timeout 0) ≡ false
