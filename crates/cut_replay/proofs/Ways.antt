-- The replay of a row: one law for each answer; how many numbers it needs; and that a row, a cut list and a buffer allow one outcome.
use Prim.Native.Nat.{ℕ, ◌+◌, ◌*◌, ◌≤◌, ◌<◌}
use mathlib.Core.Path.{◌≡◌, refl, sym, ◌∙◌, ap}
use mathlib.Core.List.{List, ◌++◌}
use native.Mathlib.Nat.{mul_comm, mul_assoc}
use native.Mathlib.Omega.{arith}
use lib.ListN.{length, drop, length-map}
use borrow.Author.Tests.{le-leb, lt-leb}
use Rattle.scope.specs.Outcome.{Answer}
use Rattle.std.specs.Prelude.{Ok, Err}
use Rattle.scope.specs.declared.Refusal.{Refusal}
use Rattle.scope.specs.Limits.{most_slots, longest_row}
use Rattle.scope.specs.Outcome.{outcome_of, gives, refused, refuse}
use Rattle.scope.specs.Plan.{Plan, message_count, timeout_of, plan_of}
use Rattle.scope.specs.Cuts.{check_cuts, is_cut}
use Rattle.scope.specs.Slot as S
use Rattle.scope.specs.Cycle.{order_of, table_of, positions, events, arrived, start, arrivals, event_row}
use Rattle.scope.specs.Questions.{judge, replay}
use Rattle.rows.specs.Lies.{PlanLies}
use Rattle.rows.proofs.Parts.{message-count, link-count, timeout-is}
use Rattle.rows.proofs.Walked.{walked}
use Rattle.table.specs.Table.{Table, entry_at}
use Rattle.forms.proofs.Theorems.{row-most}
use Rattle.plan.proofs.Outcomes.{only_one, refuses, after-gives}
use Rattle.plan.specs.Answers.{GoodRow}
use Rattle.cables.specs.Others.{OtherWays}
use Rattle.cuts.specs.Down.{cut_below}
use Rattle.cycle.specs.Play.{MayPlay, Played}
use Rattle.cycle.proofs.Slots.{events-length}
use Rattle.cycle.proofs.Agree.{positions-same, events-same, down-same, owner-same}
use Rattle.cut_replay.specs.Replay.{Checked, Replays}

-- a good row is judged so, its parts lie in it, and it may be played
judged : (row : List ℕ) → GoodRow row → judge row ≡ gives (length row)
unfolding judge
judged row j = rw (j.form, j.keeps)

pub good-lies : (row : List ℕ) → GoodRow row → PlanLies row
good-lies row j = walked row j.form

pub good-may : (row : List ℕ) (room : ℕ) → GoodRow row → timeout_of row * (2 * message_count row) ≤ room → MayPlay row room
good-may row room j h =
    let l = good-lies row j in
    let m : length row ≤ longest_row = row-most row (length row) j.form in
    record { may = record { few = l.messages; fit = omega (arith, l.ends) }; enough = h }

-- "2 × t × M numbers"
pub numbers-needed : (plan : Plan) (cuts : List ℕ) → length (event_row plan cuts) ≡ 2 * plan.timeout * length plan.messages
unfolding event_row
numbers-needed plan cuts =
    events-length (order_of plan) (is_cut plan cuts) (table_of plan) plan.timeout 0 (start plan)
    ∙ ap (λ k. plan.timeout * (2 * k)) (length-map plan.messages S.on_first)
    ∙ sym (mul_assoc plan.timeout 2 (length plan.messages))
    ∙ ap (λ k. k * length plan.messages) (mul_comm plan.timeout 2)

row-length : (row cuts : List ℕ) → length (event_row (plan_of row) cuts) ≡ timeout_of row * (2 * message_count row)
unfolding event_row
row-length row cuts =
    events-length (order_of (plan_of row)) (is_cut (plan_of row) cuts) (table_of (plan_of row)) (plan_of row).timeout 0 (start (plan_of row))
    ∙ ap (λ k. (plan_of row).timeout * (2 * k)) (length-map (plan_of row).messages S.on_first ∙ message-count row)
    ∙ ap (λ k. k * (2 * message_count row)) (timeout-is row)

-- refusals 1 to 10 and 14 to 19, and 12
pub replay-bad : (row cuts entry : List ℕ) (r : Refusal) → judge row ≡ refused r → Replays row cuts entry entry (Err r)
unfolding replay
replay-bad row cuts entry r e =
    let o : replay row cuts (length entry) ≡ refused r = rw e in
    refuses _ _ entry r (Err r) o refl

pub replay-cuts : (row cuts entry : List ℕ) (r : Refusal) → GoodRow row → check_cuts (plan_of row) cuts ≡ refused r →
    Replays row cuts entry entry (Err r)
unfolding replay
replay-cuts row cuts entry r j e =
    let o : replay row cuts (length entry) ≡ refused r = rw (judged row j, e) in
    refuses _ _ entry r (Err r) o refl

module _ (row cuts entry : List ℕ) (good : Checked row cuts) (needed : ℕ) (n : needed ≡ timeout_of row * (2 * message_count row)) where
  -- refusal 13
  pub replay-short : (a : Answer) → length entry < needed → outcome_of a ≡ refuse 13 needed → Replays row cuts entry entry a
  unfolding replay
  replay-short a h is =
      let l : length (event_row (plan_of row) cuts) ≡ needed = row-length row cuts ∙ sym n in
      let o : replay row cuts (length entry) ≡ refuse 13 needed =
      rw (judged row good.judged, good.good, l, lt-leb needed (length entry) h) in
      refuses _ _ entry _ a o is

  -- the arrivals, with the row of events
  module _ (h : needed ≤ length entry) (table others exit : List ℕ) (count : ℕ) (t : Table (table_of (plan_of row)) table)
      (o : OtherWays (plan_of row) others) (p : Played row table others cuts entry exit count) where
    same : (j : ℕ) → j < 0 + timeout_of row → (cut_below others cuts j ≡ is_cut (plan_of row) cuts j) ×
        (entry_at table j ≡ table_of (plan_of row) j)
    same j g =
        let l = good-lies row good.judged in
        let k : j < most_slots = omega (arith, l.timeout) in (
          down-same (plan_of row) cuts good.count good.good others o (omega (arith, link-count row, l.links)) j,
          owner-same row l table t j k,
        )

    ends : count ≡ arrivals (plan_of row) cuts
    unfolding arrivals
    ends =
        p.arrivals
        ∙ ap arrived (positions-same (order_of (plan_of row)) (cut_below others cuts) (is_cut (plan_of row) cuts) (entry_at table)
        (table_of (plan_of row)) (timeout_of row) 0 (start (plan_of row)) same)
        ∙ ap (λ u. arrived (positions (order_of (plan_of row)) (is_cut (plan_of row) cuts) (table_of (plan_of row)) 0 u
        (start (plan_of row)))) (sym (timeout-is row))

    tells_row : events (order_of (plan_of row)) (cut_below others cuts) (entry_at table) 0 (timeout_of row) (start (plan_of row)) ≡
        event_row (plan_of row) cuts
    unfolding event_row
    tells_row =
        events-same (order_of (plan_of row)) (cut_below others cuts) (is_cut (plan_of row) cuts) (entry_at table) (table_of (plan_of row))
        (timeout_of row) 0 (start (plan_of row)) same
        ∙ ap (λ u. events (order_of (plan_of row)) (is_cut (plan_of row) cuts) (table_of (plan_of row)) 0 u
        (start (plan_of row))) (sym (timeout-is row))

    pub replay-gives : Replays row cuts entry exit (Ok count)
    unfolding replay
    replay-gives =
        let l : length (event_row (plan_of row) cuts) ≡ needed = row-length row cuts ∙ sym n in
        let o : replay row cuts (length entry) ≡ gives (arrivals (plan_of row) cuts) =
        rw (judged row good.judged, good.good, l, le-leb needed (length entry) h) in
        record {
          answer = ap gives ends ∙ sym o;
          buffer = p.events ∙ ap (λ u. u ++ drop (length u) entry) tells_row ∙ after-gives _ _ (event_row (plan_of row) cuts) entry o;
        }

-- two outcomes that the statement allows are equal
pub replays_one : (row cuts entry exit exit' : List ℕ) (r r' : Answer) → Replays row cuts entry exit r → Replays row cuts entry exit' r' →
    (r ≡ r') × (exit ≡ exit')
replays_one row cuts entry exit exit' r r' a b = only_one (replay row cuts (length entry)) (event_row (plan_of row) cuts)
    entry exit exit' r r' a b
