-- What is refused one after another: the rules of links and of messages, and those of first and of second paths by their order. And where the
-- messages stand.
use Rattle.std.specs.Prelude.{ℕ, ◌+◌, ◌*◌, ◌<◌, ◌≤◌, ◌≡◌, ⊤, Bool, cond, List, length, get_or, ltb, eqb, Option, Result, Ok, Err}
use Rattle.scope.specs.declared.Refusal.{Refusal}
use Rattle.scope.specs.Limits.{most_messages}
use Rattle.scope.specs.Outcome.{Outcome, refused, unless_some}
use Rattle.scope.specs.Plan.{Plan, Place, path_of}
use Rattle.scope.specs.Good.{bad_ends, repeats, bad_slots, bad_table}
use Rattle.scope.specs.PathRules.{PathRule, breaks_it, place_broken, step_broken, unless_on, first_no_link, first_apart, first_again}
use Rattle.scope.specs.PathRules.{second_no_link, second_apart, second_astray, second_again, second_replaced}
use Rattle.scope.specs.SecondPath.{message_index}
use Rattle.paths.specs.declared.Fault.{Fault}
use Rattle.paths.specs.declared.Rule.{Rule}
use Rattle.paths.specs.Path.{Earliest, order, message_of, at_of, step_of}
use Rattle.faults.specs.Broken.{FaultOf, first_rule, second_rule, place_in}
use Rattle.rules.specs.declared.Paths.{Paths}
use Rattle.rules.specs.declared.Paths.TheVariants.{First, Second}

-- the refusal of a rule of paths, by its order: of first paths rules 0, 1 and 3 alone are asked
abbrev pub number_of : Paths → ℕ → ℕ
number_of First x = cond (eqb x 0) 7 (cond (eqb x 1) 14 15)
number_of Second x = cond (eqb x 0) 10 (15 + x)

-- rule x of paths as it is asked of a message with these places, and of a plan
abbrev pub message_rule : Plan → Paths → List Place → ℕ → ℕ → ℕ → Bool
message_rule plan First ps x p s = first_rule plan ps x p s
message_rule plan Second ps x p s = second_rule plan ps x p s

abbrev pub message_links : Paths → List Place → ℕ → ℕ
message_links First ps p = length ps
message_links Second ps p = length (place_in ps p).second

abbrev pub round_rule : Plan → Paths → ℕ → PathRule
round_rule plan paths x =
    record {
      links = λ m p. message_links paths (path_of plan m) p;
      broken = λ m p s. message_rule plan paths (path_of plan m) x p s;
    }

-- r has the fault of a message's paths
abbrev pub MessageFault : Plan → Paths → List Place → Option (Fault Rule) → Type 0
MessageFault plan paths ps r = FaultOf (message_rule plan paths ps) (message_links paths ps) (length ps) r

-- r has that of a plan whose first messages, so many of them, are asked
pub record PlanFault (plan : Plan) (paths : Paths) (messages : ℕ) (r : Option (Fault Rule)) : Type 0 where
  pub found : Earliest (λ x m. breaks_it plan (round_rule plan paths x) m) 5 messages (order r) (message_of r)
  pub at : order r < 5 → at_of r ≡ place_broken plan (round_rule plan paths (order r)) (message_of r)
  pub step : order r < 5 → step_of r ≡ step_broken plan (round_rule plan paths (order r)) (message_of r)

-- the rules of first paths, or of second paths, before what comes after
abbrev pub path_rules : Plan → Paths → Outcome → Outcome
path_rules plan First after =
    unless_on plan 7 (first_no_link plan)
    (unless_on plan 14 (first_apart plan)
    (unless_on plan 15 (first_again plan) after))
path_rules plan Second after =
    unless_on plan 10 (second_no_link plan)
    (unless_on plan 16 (second_apart plan)
    (unless_on plan 17 (second_astray plan)
    (unless_on plan 18 (second_again plan)
    (unless_on plan 19 (second_replaced plan) after))))

-- the rules that are asked first, and those that are asked with a table
abbrev pub early_rules : Plan → Outcome → Outcome
early_rules plan after =
    unless_some 5 (bad_ends plan) (length plan.links)
    (unless_some 6 (repeats plan) (length plan.links)
    (path_rules plan First
    (unless_some 8 (bad_slots plan) (length plan.messages) after)))

abbrev pub late_rules : Plan → Outcome → Outcome
late_rules plan after = unless_some 9 (bad_table plan) (length plan.messages) (path_rules plan Second after)

-- r refuses what a rule refuses before what comes after, or nothing
abbrev pub told : Result ⊤ Refusal → Outcome → Outcome
told (Ok x) after = after
told (Err r) after = refused r

pub record Says (rule : Outcome → Outcome) (r : Result ⊤ Refusal) : Type 0 where
  pub says : (after : Outcome) → rule after ≡ told r after

-- where each of the first n messages stands, 0 for the others
pub record Starts (row : List ℕ) (n : ℕ) (starts : List ℕ) : Type 0 where
  pub long : length starts ≡ most_messages
  pub are : (m : ℕ) → m < most_messages → get_or starts m 0 ≡ cond (ltb m n) (message_index row m) 0
  pub small : (m : ℕ) → m < most_messages → get_or starts m 0 ≤ 131077 + m * 4295229441
