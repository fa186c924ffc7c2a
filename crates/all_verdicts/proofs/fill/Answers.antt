-- `all_verdicts::fill` meets its contract: the answers above l are there.
use Rattle.std.proofs.Common.{arith}
use Rattle.all_verdicts.proofs.Descending.{descend_first, may-ask, less, room, descend_on, room-all, descend_done}
use Rattle.all_verdicts.proofs.fill.Goals as goal

pub loop-found-init : goal.loop-found-init
loop-found-init c = descend_first _ _ _ c.requires _ c.fill.ensures

pub ask-requires : goal.ask-requires
ask-requires c = may-ask _ _ _ c.requires _ c.fill.ensures _ _ _ c.loop-found.invariant

pub overflow_add-l : goal.overflow_add-l
overflow_add-l c = omega (arith, c.loop-found.invariant.within, c.fill.ensures.laid.many)

pub put_answers-requires : goal.put_answers-requires
put_answers-requires c = room _ _ _ c.requires _ c.fill.ensures _ _ _ c.loop-found.invariant _ c.in-Some.ensures

pub loop-found-smaller : goal.loop-found-smaller
loop-found-smaller c = less _ _ _ c.requires _ c.fill.ensures _ _ _ c.loop-found.invariant _ c.in-Some.ensures

pub loop-found-preserved : goal.loop-found-preserved
loop-found-preserved c =
    descend_on _ _ _ c.requires _ c.fill.ensures _ _ _ c.loop-found.invariant _ c.in-Some.ensures _ c.put_answers.auto.out c.put_answers.ensures

pub overflow_add-l-2 : goal.overflow_add-l-2
overflow_add-l-2 c = omega (arith, c.loop-found.invariant.within, c.fill.ensures.laid.many)

pub put_answers-requires-2 : goal.put_answers-requires-2
put_answers-requires-2 c = room-all _ _ _ c.requires _ c.fill.ensures _ _ _ c.loop-found.invariant

pub returns : goal.returns
returns c = descend_done _ _ _ c.requires _ c.fill.ensures _ _ _ c.loop-found.invariant _ c.in_default.ensures c.put_answers-2.ensures
