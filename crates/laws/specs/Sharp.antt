-- Neither theorem can say more. In plan B under the list (0,0) message 0 leaves its first path in slot 0, its second path stays whole, and it
-- arrives at time D and no sooner; and that one pair, in the place's own slot and not before it, changes its event.
use Rattle.std.specs.Prelude.{ℕ, ◌≡◌, true, false, List, [], ◌∷◌, get_or}
use Rattle.scope.specs.Outcome.{gives}
use Rattle.scope.specs.Plan.{Plan, plan_of, place_of}
use Rattle.scope.specs.Rules.{rules}
use Rattle.scope.specs.Slot.{at_target}
use Rattle.scope.specs.Cuts.{is_cut}
use Rattle.scope.specs.Cycle.{order_of, event_row}
use Rattle.scope.specs.Spare.{delay}
use Rattle.scope.specs.Cases.{row_b}
use Rattle.laws.specs.Diverted.{standing, WholeUntilArrival, Leaves}

abbrev pub plan_b : Plan
plan_b = plan_of row_b

abbrev pub cut_at_once : List ℕ
cut_at_once = 0 ∷ 0 ∷ []

pub record Sharp : Type 0 where
  pub good : rules plan_b ≡ gives 0
  pub leaves : Leaves (order_of plan_b) (is_cut plan_b cut_at_once) plan_b 0 0 0
  pub whole : WholeUntilArrival (order_of plan_b) (is_cut plan_b cut_at_once) plan_b 0 0 (place_of plan_b 0 0).second
  pub d : delay (order_of plan_b) plan_b.messages 0 (place_of plan_b 0 0).second ≡ 2
  pub not_sooner : at_target (standing (order_of plan_b) (is_cut plan_b cut_at_once) plan_b 0 1) ≡ false
  pub arrives : at_target (standing (order_of plan_b) (is_cut plan_b cut_at_once) plan_b 0 2) ≡ true
  pub kind_without : get_or (event_row plan_b []) 0 0 ≡ 2
  pub kind_with : get_or (event_row plan_b cut_at_once) 0 0 ≡ 3
