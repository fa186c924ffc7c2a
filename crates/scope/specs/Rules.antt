-- Refusals 5 to 10 and 14 to 19 in their order: "the order is 7, 14, 15, 8, 9, 10, 16 to 19, then 11 on". Each is a round of its own over all
-- links, messages or paths.
use Rattle.std.specs.Prelude.{◌≡◌, true, length}
use Rattle.scope.specs.Outcome.{Outcome, gives, unless_some}
use Rattle.scope.specs.Plan.{Plan}
use Rattle.scope.specs.Good.{bad_ends, repeats, bad_slots, bad_table, is_good}
use Rattle.scope.specs.PathRules.{unless_on, first_no_link, first_apart, first_again}
use Rattle.scope.specs.PathRules.{second_no_link, second_apart, second_astray, second_again, second_replaced}

-- the first of these refusals that applies, or none
unfoldable pub rules : Plan → Outcome
rules plan =
    let e = length plan.links in
    let m = length plan.messages in
    unless_some 5 (bad_ends plan) e
    (unless_some 6 (repeats plan) e
    (unless_on plan 7 (first_no_link plan)
    (unless_on plan 14 (first_apart plan)
    (unless_on plan 15 (first_again plan)
    (unless_some 8 (bad_slots plan) m
    (unless_some 9 (bad_table plan) m
    (unless_on plan 10 (second_no_link plan)
    (unless_on plan 16 (second_apart plan)
    (unless_on plan 17 (second_astray plan)
    (unless_on plan 18 (second_again plan)
    (unless_on plan 19 (second_replaced plan)
    (gives 0))))))))))))

-- nothing is refused exactly of the plans that document 01 calls good: no rule of document 02 refuses one of them, and none of the others is
-- let through
pub record GoodAsBefore (plan : Plan) : Type 0 where
  pub kept : is_good plan ≡ true → rules plan ≡ gives 0
  pub only : rules plan ≡ gives 0 → is_good plan ≡ true
