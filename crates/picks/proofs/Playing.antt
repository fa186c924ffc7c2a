-- One slot on: what is lent to the slot, the table and what is down, says what the plan and the list say.
use Prim.Native.Nat.{ℕ, ◌+◌, ◌≤◌, ◌<◌}
use native.Mathlib.Omega.{arith}
use mathlib.Core.Path.{◌≡◌, sym, ◌∙◌, ap, subst, fun_ext}
use mathlib.Core.List.{List}
use Rattle.scope.specs.Plan.{plan_of}
use Rattle.scope.specs.Cuts.{is_cut}
use Rattle.scope.specs.Cycle.{order_of, table_of, nexts, positions}
use Rattle.table.specs.Table.{entry_at}
use Rattle.cuts.specs.Down.{is_down}
use Rattle.step.specs.declared.Slot.{Slot}
use Rattle.step.specs.declared.Time.{Time}
use Rattle.step.specs.declared.Standing.{Standing}
use Rattle.step.specs.Stand.{positions_of}
use Rattle.step.specs.Slot.{down_now, MayGo, GoesOn}
use Rattle.cycle.proofs.Agree.{slot_same}
use Rattle.order.proofs.Prefix.{one_slot}
use Rattle.picks.specs.declared.Sizes.{Sizes}
use Rattle.picks.specs.declared.Picked.{Picked}
use Rattle.picks.specs.Picks.{cuts_of, Playable, Holding, StandAt, MayAdvance}

-- under any list, whose links are down in the slot
pub advanced : (row table : List ℕ) (z : Sizes) → Playable row table z → (cuts down : List ℕ) (s : ℕ) (ps qs : Standing) → s < z.timeout →
    ((e : ℕ) → is_down down e ≡ is_cut (plan_of row) cuts s e) → StandAt row z.messages cuts s ps →
    GoesOn row table down z.messages s ps qs → StandAt row z.messages cuts (s + 1) qs
unfolding positions
advanced row table z y cuts down s ps qs early are stand g =
    let plan = plan_of row in
    let b = g.moves.next in
    let same = slot_same (order_of plan) (down_now down) (is_cut plan cuts) (entry_at table) (table_of plan) s
    (positions_of row z.messages ps.positions) (fun_ext are) (y.owner s (omega (arith, y.short))) in
    record {
      time = g.time;
      next =
          record {
            is =
                b.is ∙ ap nexts same ∙ ap (positions (order_of plan) (is_cut plan cuts) (table_of plan) s 1) stand.next.is ∙
                sym (one_slot plan cuts s);
            stand = b.stand;
          };
    }

-- the list picked may be played on from where the messages stand
pub may_advance : (row table : List ℕ) (z : Sizes) (ps : Standing) (p : Picked) (s : ℕ) → Playable row table z → Holding row z p →
    StandAt row z.messages (cuts_of p) s ps → p.slot ≤ s → s < z.timeout → MayAdvance row table z ps p
may_advance row table z ps p s play holding stand from early =
    record {
      play = play;
      holding = holding;
      stand = subst (λ (j : ℕ). StandAt row z.messages (cuts_of p) j ps) (sym stand.time) stand;
      from = rw stand.time from;
      early = rw stand.time early;
    }

-- by the slot that begins at the time
module _ (row table : List ℕ) (z : Sizes) (p : Picked) (ps : Standing) (m : MayAdvance row table z ps p) (t : Time) (i : Slot)
    (now : t ≡ ps.time) (begins : i.0 ≡ t.0) where
  at : i.0 ≡ ps.time.0
  at = begins ∙ ap (λ (x : Time). x.0) now

  pub may-step : MayGo row z.messages ps i.0
  may-step = record { stand = m.stand.next.stand; at = sym at; early = omega (arith, at, m.early, m.play.short) }

  pub stepped : (qs : Standing) → GoesOn row table p.down z.messages i.0 ps qs →
      StandAt row z.messages (cuts_of p) (ps.time.0 + 1) qs
  stepped qs g =
      advanced row table z m.play (cuts_of p) p.down ps.time.0 ps qs m.early (λ e. m.holding.down ps.time.0 e m.from)
      m.stand (subst (λ (j : ℕ). GoesOn row table p.down z.messages j ps qs) at g)
