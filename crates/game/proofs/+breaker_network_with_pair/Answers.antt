use Rattle.std.proofs.Common.{sym, ◌∙◌, arith}
use borrow.Author.Tests.{ltb-true}
use Rattle.risks.proofs.Light.{goes_up}
use Rattle.risks.proofs.Risks.{may-weigh}
use Rattle.game.proofs.Turns.{room, may-hit, may-cut, picked_in_vain}
use Rattle.game.proofs.Turns.{may_weigh_rest, may_try, over_turned, from-within, breaks-first, may_pick}
use Rattle.game.proofs.Turns.{still_low, breaks_on, may-pass, passed_on, may_move, ends, may_break}
use Rattle.game.proofs.+breaker_network_with_pair.Goals as goal

pub breaker-needed-need-requires : goal.breaker-needed-need-requires
breaker-needed-need-requires t c =
    (c.requires.turn.low, c.requires.turn.lent.laid.many)

pub breaker-losses-rest-requires : goal.breaker-losses-rest-requires
breaker-losses-rest-requires t c =
    may_weigh_rest _ _ _ _ _ _ _ _ _ _ c.requires _ _ c.at_risk-risk.ensures c.wanting.ensures

pub breaker-slice_bounds-first_worth-end : goal.breaker-slice_bounds-first_worth-end
breaker-slice_bounds-first_worth-end t c =
    sym c.requires.turn.holding.shut

pub breaker-first_worth-f-requires : goal.breaker-first_worth-f-requires
breaker-first_worth-f-requires t c = (
  may_try _ _ _ _ _ _ _ _ _ _ c.requires _ _ _ c.at_risk-risk.ensures c.wanting.ensures c.losses-rest.ensures _ c.needed-need.ensures.1,
  c.requires.turn.lent.laid.play.few,
)

pub breaker-returns-then-too_few : goal.breaker-returns-then-too_few
breaker-returns-then-too_few t c =
    over_turned _ _ _ _ _ _ _ _ _ _ c.requires _ _ _ c.at_risk-risk.ensures c.wanting.ensures c.losses-rest.ensures _ _ _ c.needed-need.ensures.0 c.first_worth-f.ensures c.worth-more.ensures
    c.if-more-eq0.true (ltb-true _ _ (sym c.too_few.ensures ∙ c.if-too_few.true))

pub breaker-slice_bounds-next_link-end : goal.breaker-slice_bounds-next_link-end
breaker-slice_bounds-next_link-end t c =
    sym c.requires.turn.holding.shut

pub breaker-next_link-i-requires : goal.breaker-next_link-i-requires
breaker-next_link-i-requires t c = (
  may_try _ _ _ _ _ _ _ _ _ _ c.requires _ _ _ c.at_risk-risk.ensures c.wanting.ensures c.losses-rest.ensures _ c.needed-need.ensures.1,
  from-within _ _ _ _ _ _ _ _ _ _ c.requires _ _ _ c.at_risk-risk.ensures c.wanting.ensures c.losses-rest.ensures _ _ _ c.needed-need.ensures.0 c.first_worth-f.ensures c.worth-more.ensures _ c.later-from.ensures,
  c.requires.turn.lent.laid.play.few,
)

pub breaker-loop-i-init : goal.breaker-loop-i-init
breaker-loop-i-init t c =
    breaks-first _ _ _ _ _ _ _ _ _ _ c.requires _ _ _ c.at_risk-risk.ensures c.wanting.ensures c.losses-rest.ensures _ _ _ c.needed-need.ensures.0 c.first_worth-f.ensures c.worth-more.ensures _ c.later-from.ensures _ c.next_link-i.ensures

pub breaker-with_pair-best-requires : goal.breaker-with_pair-best-requires
breaker-with_pair-best-requires t c = (
  omega (arith, c.decreases, c.loop-i-test.true, c.loop-i.invariant.start),
  may_pick _ _ _ _ _ _ _ _ _ _ c.requires _ _ _ c.at_risk-risk.ensures c.wanting.ensures c.losses-rest.ensures _ _
      c.loop-i.invariant c.loop-i-test.true,
)

pub breaker-needed-want-requires : goal.breaker-needed-want-requires
breaker-needed-want-requires t c = (
  still_low _ _ _ _ _ _ _ _ _ _ c.requires _ _ _ c.at_risk-risk.ensures c.wanting.ensures c.losses-rest.ensures _ _
      c.loop-i.invariant c.loop-i-test.true _ c.with_pair-best.ensures,
  c.requires.turn.lent.laid.many,
)

pub breaker-slice_bounds-next_link-end-in-loop-i : goal.breaker-slice_bounds-next_link-end-in-loop-i
breaker-slice_bounds-next_link-end-in-loop-i t c =
    sym c.requires.turn.holding.shut

pub breaker-overflow_add-i : goal.breaker-overflow_add-i
breaker-overflow_add-i t c =
    omega (arith, c.loop-i-test.true, c.requires.turn.lent.laid.play.few)

pub breaker-next_link-i-requires-in-loop-i : goal.breaker-next_link-i-requires-in-loop-i
breaker-next_link-i-requires-in-loop-i t c = (
  may_try _ _ _ _ _ _ _ _ _ _ c.requires _ _ _ c.at_risk-risk.ensures c.wanting.ensures c.losses-rest.ensures _ c.needed-want.ensures.1,
  omega (arith, c.loop-i-test.true),
  c.requires.turn.lent.laid.play.few,
)

pub breaker-loop-i-smaller : goal.breaker-loop-i-smaller
breaker-loop-i-smaller t c = omega (arith, c.loop-i-test.true, goes_up _ _ _ _ c.next_link-i-in-loop-i.ensures)

pub breaker-loop-i-preserved : goal.breaker-loop-i-preserved
breaker-loop-i-preserved t c =
    breaks_on _ _ _ _ _ _ _ _ _ _ c.requires _ _ _ c.at_risk-risk.ensures c.wanting.ensures c.losses-rest.ensures _ _
    c.loop-i.invariant c.loop-i-test.true _ c.with_pair-best.ensures _ _ c.needed-want.ensures.0
    c.next_link-i-in-loop-i.ensures

pub breaker-network-requires : goal.breaker-network-requires
breaker-network-requires t c = (
  omega (arith, c.decreases),
  may-pass _ _ _ _ _ _ _ _ _ _ c.requires _ _ _ c.at_risk-risk.ensures c.wanting.ensures c.losses-rest.ensures _ _ _ c.needed-need.ensures.0 c.first_worth-f.ensures c.worth-more.ensures _ _ c.loop-i.invariant c.loop-i-test.false,
)

pub breaker-returns : goal.breaker-returns
breaker-returns t c =
    passed_on _ _ _ _ _ _ _ _ _ _ c.requires _ _ _ c.at_risk-risk.ensures c.wanting.ensures c.losses-rest.ensures _ _ _
    c.needed-need.ensures.0 c.first_worth-f.ensures c.worth-more.ensures _ _ c.loop-i.invariant c.loop-i-test.false _ c.network.ensures

pub network-advance-qs-requires : goal.network-advance-qs-requires
network-advance-qs-requires t c =
    may_move _ _ _ _ _ _ _ _ c.requires

pub network-overflow_add-next : goal.network-overflow_add-next
network-overflow_add-next t c =
    omega (arith, c.requires.early, c.requires.lent.laid.play.short)

pub network-count_home-requires : goal.network-count_home-requires
network-count_home-requires t c =
    c.requires.lent.laid.many

pub network-returns-then-board-next : goal.network-returns-then-board-next
network-returns-then-board-next t c =
    ends _ _ _ _ _ _ _ _ c.requires _ c.advance-qs.ensures _ _ c.if-board-next.true (c.count_home.ensures _) c.min.ensures

pub network-away-left-requires : goal.network-away-left-requires
network-away-left-requires t c =
    c.requires.lent.laid.many

pub network-breaker-requires : goal.network-breaker-requires
network-breaker-requires t c = (
  omega (arith, c.decreases, c.if-board-next.false, c.requires.early, c.requires.lent.laid.play.few),
  may_break _ _ _ _ _ _ _ _ c.requires _ c.advance-qs.ensures _ c.away-left.ensures c.if-board-next.false,
)

pub network-returns : goal.network-returns
network-returns t c =
    c.breaker.ensures

pub with_pair-needed-need-requires : goal.with_pair-needed-need-requires
with_pair-needed-need-requires t c =
    let m = c.requires in
    (m.turn.low, m.turn.lent.laid.many)

pub with_pair-hit-more-requires : goal.with_pair-hit-more-requires
with_pair-hit-more-requires t c = may-hit _ _ _ _ _ _ _ _ _ _ c.requires

pub with_pair-overflow_sub-n : goal.with_pair-overflow_sub-n
with_pair-overflow_sub-n t c = omega (arith, c.requires.some)

pub with_pair-in_vain-requires : goal.with_pair-in_vain-requires
with_pair-in_vain-requires t c =
    let m = c.requires in (
      may-weigh _ _ _ _ _ _ c.at_risk-risk.ensures (omega (arith, m.turn.few)) m.turn.lent.laid.tops
          (omega (arith, m.turn.early, m.turn.lent.laid.play.short)),
      c.needed-need.ensures.1,
    )

pub with_pair-returns-then-in_vain : goal.with_pair-returns-then-in_vain
with_pair-returns-then-in_vain t c =
    picked_in_vain _ _ _ _ _ _ _ _ _ _ c.requires _ _ _ _ c.needed-need.ensures.0 c.hit-more.ensures c.at_risk-risk.ensures
    c.in_vain.ensures c.if-in_vain.true

pub with_pair-pick-q-requires : goal.with_pair-pick-q-requires
with_pair-pick-q-requires t c =
    let m = c.requires in (
      room _ _ _ _ _ _ _ _ _ _ m,
      omega (arith, m.turn.early, m.turn.lent.laid.play.short),
      omega (arith, m.link, m.turn.lent.laid.play.few),
      m.turn.lent.laid.play.others.bytes,
    )

pub with_pair-overflow_sub-n-2 : goal.with_pair-overflow_sub-n-2
with_pair-overflow_sub-n-2 t c = omega (
  arith,
  c.requires.some,
)

pub with_pair-overflow_add-e : goal.with_pair-overflow_add-e
with_pair-overflow_add-e t c =
    let m = c.requires in
    omega (arith, m.link, m.turn.lent.laid.play.few)

pub with_pair-breaker-requires : goal.with_pair-breaker-requires
with_pair-breaker-requires t c = (
  omega (arith, c.decreases, c.requires.link),
  may-cut _ _ _ _ _ _ _ _ _ _ c.requires _ _ c.pick-q.ensures c.hit-more.ensures,
)

pub with_pair-returns : goal.with_pair-returns
with_pair-returns t c = rw c.pick-q.ensures at c.breaker.ensures
