-- A slack of 0 or more means arrival in time, as document 01 says it and as the answers of `slack` and of the replay show it.
use Prim.Native.Nat.{ℕ}
use native.Mathlib.Omega.{arith}
use mathlib.Core.Path.{◌≡◌}
use lib.ListN.{length, length-map}
use lib.IntN.{pos}
use Rattle.scope.specs.Outcome.{Outcome, gives, and_then, room}
use Rattle.scope.specs.Plan.{plan_of}
use Rattle.scope.specs.Slot.{on_first}
use Rattle.scope.specs.Cuts.{check_cuts, is_cut}
use Rattle.scope.specs.Cycle.{order_of, table_of, start, arrivals, event_row}
use Rattle.scope.specs.Questions.{judge, slack, replay}
use Rattle.scope.proofs.Cuts.{is-list}
use Rattle.laws.proofs.Replay.{lengths_kept}
use Rattle.laws.proofs.Slack.{slack_under_cuts_lem}
use Rattle.rows.proofs.Parts.{message-count}
use Rattle.plan.proofs.Outcomes.{then-back}
use Rattle.spare.specs.InTime.{at_timeout, SlackInTime, SlackAndReplay}
use Rattle.spare.proofs.Bounds.{asked, answered}

pub slack_in_time_lem : SlackInTime
unfolding slack
slack_in_time_lem row cuts m p s n may is list d =
    let a = asked row m p may in
    let plan = plan_of row in
    let kept : length (at_timeout plan cuts) ≡ length (start plan) =
    lengths_kept.of_positions (order_of plan) (is_cut plan cuts) (table_of plan) 0 plan.timeout (start plan) in
    let all : length (start plan) ≡ length plan.messages = length-map plan.messages on_first in
    record {
      among = omega (arith, kept, all, message-count row, a.second.message);
      home = slack_under_cuts_lem plan cuts m p s n a.good.keeps d.leaves d.whole is;
    }

pub slack_and_replay_lem : SlackAndReplay
unfolding replay arrivals
slack_and_replay_lem row cuts m p s n lent a answers plays d =
    let plan = plan_of row in
    let r = answered row m p (pos n) answers in
    let last : ℕ → Outcome = λ _. gives (arrivals plan cuts) in
    let written : ℕ → Outcome = λ _. and_then (room (length (event_row plan cuts)) lent) last in
    let j = then-back (judge row) (λ _. and_then (check_cuts plan cuts) written) a plays in
    let c = then-back (check_cuts plan cuts) written a j.2 in
    let w = then-back (room (length (event_row plan cuts)) lent) last a c.2 in
    let same : gives (arrivals plan cuts) ≡ gives a = w.2 in
    record { counted = cc same; in_time = slack_in_time_lem row cuts m p s n r.may r.is (is-list plan cuts c.0 c.1) d }
