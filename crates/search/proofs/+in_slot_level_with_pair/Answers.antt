-- The search: `level` goes over the slots, `in_slot` over the links of a slot, and `with_pair` calls `level` with one pair more. The pairs
-- still to come fall from `level` to `level`.
use Rattle.std.proofs.Common.{arith, sym}
use Rattle.risks.proofs.Light.{goes_up}
use Rattle.risks.proofs.Risks.{may-weigh}
use Rattle.search.proofs.Levels.{may_hit, may_go_on, goes_nowhere}
use Rattle.search.proofs.Levels.{may_try, may_pick, looks_first, looks_some, looks_on, look_done}
use Rattle.search.proofs.Levels.{may_play_out, climbs_first, may_weigh_rest, may_try_all, may_look, climbs_may}
use Rattle.search.proofs.Levels.{climbs_stop, climbs_over, climbs_some, climbs_on}
use Rattle.search.proofs.+in_slot_level_with_pair.Goals as goal

pub in_slot-next_link-i-requires : goal.in_slot-next_link-i-requires
in_slot-next_link-i-requires t c = (
  may_try _ _ _ _ _ _ _ _ c.requires,
  c.requires.link,
  c.requires.ready.laid.play.few,
)

pub in_slot-loop-i-init : goal.in_slot-loop-i-init
in_slot-loop-i-init t c =
    looks_first _ _ _ _ _ _ _ _ c.requires _
    c.next_link-i.ensures

pub in_slot-with_pair-requires : goal.in_slot-with_pair-requires
in_slot-with_pair-requires t c = (
  omega (arith, c.decreases),
  may_pick _ _ _ _ _ _ _ _ c.requires _
      c.loop-i.invariant c.loop-i-test.true,
)

pub in_slot-returns-in-Some : goal.in_slot-returns-in-Some
in_slot-returns-in-Some t c =
    looks_some _ _ _ _ _ _ _ _ c.requires _
    c.loop-i.invariant c.loop-i-test.true _ c.in-Some.ensures

pub in_slot-slice_bounds-next_link-end-in-loop-i : goal.in_slot-slice_bounds-next_link-end-in-loop-i
in_slot-slice_bounds-next_link-end-in-loop-i t c = sym c.requires.walks.holding.shut

pub in_slot-overflow_add-i : goal.in_slot-overflow_add-i
in_slot-overflow_add-i t c = omega (
  arith,
  c.loop-i-test.true,
  c.requires.ready.laid.play.few,
)

pub in_slot-next_link-i-requires-in-loop-i : goal.in_slot-next_link-i-requires-in-loop-i
in_slot-next_link-i-requires-in-loop-i t c = (
  may_try _ _ _ _ _ _ _ _ c.requires,
  omega (arith, c.loop-i-test.true),
  c.requires.ready.laid.play.few,
)

pub in_slot-loop-i-smaller : goal.in_slot-loop-i-smaller
in_slot-loop-i-smaller t c = omega (arith, c.loop-i-test.true, goes_up _ _ _ _ c.next_link-i-in-loop-i.ensures)

pub in_slot-loop-i-preserved : goal.in_slot-loop-i-preserved
in_slot-loop-i-preserved t c =
    looks_on _ _ _ _ _ _ _ _ c.requires _ c.loop-i.invariant
    c.loop-i-test.true _ c.in_default.ensures c.next_link-i-in-loop-i.ensures

pub in_slot-returns : goal.in_slot-returns
in_slot-returns t c =
    look_done _ _ _ _ _
    c.requires.ready
    c.requires.walks.holding
    c.requires.some
    c.requires.few _ _ _ _
    c.loop-i.invariant c.loop-i-test.false

pub level-play_out-requires : goal.level-play_out-requires
level-play_out-requires t c = may_play_out _ _ _ _ _ c.if-n-eq0.true c.requires

pub level-returns-then-n-eq0 : goal.level-returns-then-n-eq0
level-returns-then-n-eq0 t c = rw c.if-n-eq0.true c.play_out.ensures

pub level-loop-s-init : goal.level-loop-s-init
level-loop-s-init t c =
    climbs_first _ _ _ _ _ c.requires c.if-n-eq0.false

pub level-overflow_sub-n : goal.level-overflow_sub-n
level-overflow_sub-n t c = omega (arith, c.if-n-eq0.false)

pub level-losses-rest-requires : goal.level-losses-rest-requires
level-losses-rest-requires t c =
    may_weigh_rest _ _ _ _ _
    c.requires
    c.if-n-eq0.false _ _ _ _ c.loop-s.invariant _ c.loop-s-test.true
    c.at_risk-risk.ensures

pub level-slice_bounds-next_link-end : goal.level-slice_bounds-next_link-end
level-slice_bounds-next_link-end t c =
    sym
    c.requires.walks.holding.shut

pub level-next_link-f-requires : goal.level-next_link-f-requires
level-next_link-f-requires t c = (
  may_try_all _ _ _ _ _
      c.requires
      c.if-n-eq0.false _ _ _ _
      c.loop-s.invariant _ _
      c.at_risk-risk.ensures c.losses-rest.ensures c.loop-s-test.true,
  omega arith,
  c.requires.ready.laid.play.few,
)

pub level-returns-then-links-f : goal.level-returns-then-links-f
level-returns-then-links-f t c =
    climbs_stop _ _ _ _ _
    c.requires c.if-n-eq0.false _ _ _ _
    c.loop-s.invariant _ _
    c.at_risk-risk.ensures c.losses-rest.ensures _
    c.next_link-f.ensures c.if-links-f.true

pub level-in_slot-requires : goal.level-in_slot-requires
level-in_slot-requires t c = (
  omega (
    arith,
    c.decreases,
  ),
  may_look _ _ _ _ _
      c.requires c.if-n-eq0.false _ _ _ _
      c.loop-s.invariant _ _
      c.at_risk-risk.ensures c.losses-rest.ensures _ _
      c.next_link-f.ensures c.later-from.ensures
      c.loop-s-test.true,
)

pub level-returns-in-Some : goal.level-returns-in-Some
level-returns-in-Some t c =
    climbs_some _ _ _ _ _
    c.requires
    c.if-n-eq0.false _ _ _ _
    c.loop-s.invariant _ _
    c.at_risk-risk.ensures
    c.losses-rest.ensures _ _
    c.next_link-f.ensures c.later-from.ensures _ c.in-Some.ensures

pub level-advance-standing-requires : goal.level-advance-standing-requires
level-advance-standing-requires t c =
    climbs_may _ _ _ _ _
    c.requires
    c.if-n-eq0.false _ _ _ _
    c.loop-s.invariant
    c.loop-s-test.true

pub level-away-left-requires : goal.level-away-left-requires
level-away-left-requires t c = c.advance-standing.ensures.next.stand.few

pub level-loop-s-preserved : goal.level-loop-s-preserved
level-loop-s-preserved t c =
    climbs_on _ _ _ _ _
    c.requires
    c.if-n-eq0.false _ _ _
    _ c.loop-s.invariant _ _
    c.at_risk-risk.ensures
    c.losses-rest.ensures _ _
    c.next_link-f.ensures c.later-from.ensures _ _ c.in_default.ensures
    c.loop-s-test.true c.advance-standing.ensures
    c.away-left.ensures

pub level-returns : goal.level-returns
level-returns t c =
    climbs_over _ _ _ _ _
    c.requires
    c.if-n-eq0.false _ _ _ _ c.loop-s.invariant
    c.loop-s-test.false

pub with_pair-hit-more-requires : goal.with_pair-hit-more-requires
with_pair-hit-more-requires t c = may_hit _ _ _ _ _ _ _ c.requires

pub with_pair-overflow_sub-n : goal.with_pair-overflow_sub-n
with_pair-overflow_sub-n t c = omega (arith, c.requires.some)

pub with_pair-in_vain-requires : goal.with_pair-in_vain-requires
with_pair-in_vain-requires t c =
    let m = c.requires in (
      may-weigh _ _ _ _ _ _ c.at_risk-risk.ensures (omega (arith, m.few)) m.ready.laid.tops (omega (arith, m.early, m.ready.laid.play.short)),
      m.ready.small,
    )

pub with_pair-returns-then-in_vain : goal.with_pair-returns-then-in_vain
with_pair-returns-then-in_vain t c =
    goes_nowhere _ _ _ _ _ _ _ c.requires
    _ _ _ c.hit-more.ensures c.at_risk-risk.ensures c.in_vain.ensures
    c.if-in_vain.true

pub with_pair-pick-picked-requires : goal.with_pair-pick-picked-requires
with_pair-pick-picked-requires t c =
    let m = c.requires in (
      omega (arith, m.few, m.some),
      omega (arith, m.early, m.ready.laid.play.short),
      omega (arith, m.link, m.ready.laid.play.few),
      m.ready.laid.play.others.bytes,
    )

pub with_pair-overflow_sub-n-2 : goal.with_pair-overflow_sub-n-2
with_pair-overflow_sub-n-2 t c = omega (arith, c.requires.some)

pub with_pair-level-requires : goal.with_pair-level-requires
with_pair-level-requires t c = (
  omega (
    arith,
    c.decreases,
    c.requires.some,
  ),
  may_go_on _ _ _ _ _ _ _ c.requires _ _
      c.pick-picked.ensures c.hit-more.ensures,
)

pub with_pair-returns : goal.with_pair-returns
with_pair-returns t c = rw c.pick-picked.ensures at c.level.ensures
