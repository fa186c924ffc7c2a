-- "slack 0 or more, with the second path whole until arrival, means arrival in time", as a statement about the answers of `slack` and of the
-- replay. `Leaves` and `WholeUntilArrival` are of laws' Diverted, and speak of the replay under these cuts.
use Rattle.std.specs.Prelude.{ℕ, ◌<◌, ◌≡◌, true, List, length, pos}
use Rattle.scope.specs.Outcome.{gives}
use Rattle.scope.specs.Plan.{Plan, plan_of, place_of}
use Rattle.scope.specs.Slot.{Position, at_target}
use Rattle.scope.specs.Cuts.{is_cut, is_cut_list}
use Rattle.scope.specs.Cycle.{order_of, table_of, start, positions, arrived}
use Rattle.scope.specs.Questions.{may_spare, slack, replay}
use Rattle.laws.specs.Message.{position_of}
use Rattle.laws.specs.Diverted.{Leaves, WholeUntilArrival}
use Rattle.std.specs.Prelude.{Ok}
use Rattle.spare.specs.Slack.{Slacks}

-- where the messages stand at time t
abbrev pub at_timeout : Plan → List ℕ → List Position
at_timeout plan cuts = positions (order_of plan) (is_cut plan cuts) (table_of plan) 0 plan.timeout (start plan)

-- message m is one of those that stand there, and it is at its target
pub record InTime (plan : Plan) (cuts : List ℕ) (m : ℕ) : Type 0 where
  pub among : m < length (at_timeout plan cuts)
  pub home : at_target (position_of m (at_timeout plan cuts)) ≡ true

-- in slot s message m leaves its first path at place p under these cuts, and that second path stays whole until it arrives
pub record Diverted (plan : Plan) (cuts : List ℕ) (m p s : ℕ) : Type 0 where
  pub leaves : Leaves (order_of plan) (is_cut plan cuts) plan m p s
  pub whole : WholeUntilArrival (order_of plan) (is_cut plan cuts) plan m s (place_of plan m p).second

abbrev pub SlackInTime : Type 0
SlackInTime =
    (row cuts : List ℕ) (m p s n : ℕ) → may_spare row m p ≡ gives 0 → slack row m p ≡ pos n → is_cut_list (plan_of row) cuts ≡ true →
    Diverted (plan_of row) cuts m p s → InTime (plan_of row) cuts m

-- so if `slack` answers with 0 or more, and the replay with a number of arrivals, message m is one of those that are counted
pub record Counted (plan : Plan) (cuts : List ℕ) (m arrivals : ℕ) : Type 0 where
  pub counted : arrivals ≡ arrived (at_timeout plan cuts)
  pub in_time : InTime plan cuts m

abbrev pub SlackAndReplay : Type 0
SlackAndReplay =
    (row cuts : List ℕ) (m p s n lent arrivals : ℕ) → Slacks row m p (Ok (pos n)) → replay row cuts lent ≡ gives arrivals →
    Diverted (plan_of row) cuts m p s → Counted (plan_of row) cuts m arrivals
