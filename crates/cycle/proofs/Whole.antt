-- A whole cycle: from the first positions of a row's plan to its arrivals and its row of events.
use Prim.Native.Nat.{ℕ, ◌*◌, ◌≤◌}
use mathlib.Core.Path.{◌≡◌, refl, sym, ◌∙◌, ap, fun_ext}
use mathlib.Core.List.{List, ◌++◌, map}
use lib.ListN.{length, drop, length-map}
use Rattle.scope.specs.Plan.{message_count, timeout_of, first_message, messages_at, plan_of}
use Rattle.scope.specs.Slot as S
use Rattle.scope.specs.Cycle.{order_of, numbers, nexts, arrived, start}
use Rattle.rows.proofs.Parts.{message-count}
use Rattle.table.specs.Table.{entry_at}
use Rattle.cuts.specs.Down.{cut_below, DownIn}
use Rattle.step.specs.declared.Standing.{Standing}
use Rattle.step.specs.Stand.{positions_of}
use Rattle.step.specs.Slot.{down_now, in_slot, GoesAndTells}
use Rattle.cycle.specs.Play.{do_in, ends_with, tells, Begins, Done, MayRun, Ran, MayPlay, Played}
use Rattle.cycle.proofs.Agree.{slot_same}
use Rattle.cycle.proofs.Slots.{events-length}

-- what is lent as down in slot i is what the list takes down in it
module _ (row table others cuts down : List ℕ) (i : ℕ) (d : DownIn others cuts i down) where
  do_same : (ps : List S.Position) → in_slot row table down i ps ≡ do_in row table others cuts i ps
  do_same ps =
      slot_same (order_of (plan_of row)) (down_now down) (cut_below others cuts) (entry_at table) (entry_at table) i ps
      (fun_ext d.is) refl

  pub done_by : (n : ℕ) (s r : Standing) (buffer out : List ℕ) → GoesAndTells row table down n i s r buffer out →
      Done row n i (do_in row table others cuts i (positions_of row n s.positions)) buffer out r
  done_by n s r buffer out t =
      let same = do_same (positions_of row n s.positions) in
      let g = t.goes in
      record {
        time = g.time;
        long = g.long;
        next = record { is = g.moves.next.is ∙ ap nexts same; stand = g.moves.next.stand };
        events = t.events ∙ ap (λ ms. numbers ms ++ drop (2 * n) buffer) same;
      }

pub start_is : (row : List ℕ) → map S.on_first (messages_at row (first_message row) (message_count row)) ≡ start (plan_of row)
unfolding plan_of
start_is row = refl

module _ (row table others cuts : List ℕ) (n t : ℕ) (e : n ≡ message_count row) (f : t ≡ timeout_of row) (s : Standing) (b : Begins row n s) where
  begins : positions_of row n s.positions ≡ start (plan_of row)
  begins = b.next.is ∙ ap (λ k. map S.on_first (messages_at row (first_message row) k)) e ∙ start_is row

  many : length (positions_of row n s.positions) ≡ n
  many = ap length begins ∙ length-map (plan_of row).messages S.on_first ∙ message-count row ∙ sym e

  pub may_run : (room : ℕ) → t ≤ 65536 → MayPlay row room →
      MayRun row s n t (tells row table others cuts 0 t (positions_of row n s.positions)) room
  may_run room h m =
      let l : length (tells row table others cuts 0 t (positions_of row n s.positions)) ≡ timeout_of row * (2 * message_count row) =
      events-length (order_of (plan_of row)) (cut_below others cuts) (entry_at table) t 0 (positions_of row n s.positions)
      ∙ ap (λ k. t * (2 * k)) (many ∙ e) ∙ ap (λ k. k * (2 * message_count row)) f in
      record { first = b.time; stand = b.next.stand; long = b.long; short = h; enough = rw l m.enough }

  pub played : (r : Standing) (buffer out : List ℕ) (count : ℕ) →
      Ran row n (ends_with row table others cuts 0 t (positions_of row n s.positions))
      (tells row table others cuts 0 t (positions_of row n s.positions)) buffer out r →
      count ≡ arrived (positions_of row n r.positions) → Played row table others cuts buffer out count
  played r buffer out count ran c =
      let k : positions_of row n r.positions ≡ ends_with row table others cuts 0 (timeout_of row) (start (plan_of row)) =
      ran.next.is ∙ ap (ends_with row table others cuts 0 t) begins ∙ ap (λ u. ends_with row table others cuts 0 u (start (plan_of row))) f in
      let all = positions_of row n s.positions in
      let w : tells row table others cuts 0 t all ≡ tells row table others cuts 0 (timeout_of row) (start (plan_of row)) =
      ap (tells row table others cuts 0 t) begins ∙ ap (λ u. tells row table others cuts 0 u (start (plan_of row))) f in
      record { arrivals = c ∙ ap arrived k; events = ran.events ∙ ap (λ u. u ++ drop (length u) buffer) w }
