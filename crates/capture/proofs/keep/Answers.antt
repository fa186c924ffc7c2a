use Rattle.std.proofs.Common.{arith, rules}
use Rattle.std.specs.Slice.Iter.{chunks_rest}
use borrow.Author.Tests.{tests}
use Rattle.capture.proofs.Walk.{walk_first, walk_next, walk_end, walk_bad}
use Rattle.capture.proofs.keep.Goals as goal

pub loop-triple-init : goal.loop-triple-init
loop-triple-init c = (search rules, walk_first _ _ _ _ _ (search rules) c.requires.1 c.none-kept.ensures)

pub returns-in_default : goal.returns-in_default
returns-in_default c =
    let i = c.loop-triple.invariant in
    let at = c.in-Some.ensures.steps in
    walk_end _ _ _ _ _ i.1 c.in-Some.triple.now _ c.loop-triple.crossed _ at.1.0 (omega arith) at.1.2
    (grind (arith, tests))
    c.unfinished.ensures

pub returns-then-kept : goal.returns-then-kept
returns-then-kept c =
    let i = c.loop-triple.invariant in
    let at = c.in-Some.ensures.steps in
    walk_bad _ _ _ _ _
    (walk_next _ _ _ _ _ i.1 c.in-Some.triple.now (chunks_rest c.next.new.self) _ _ at.1.0 _ _ _ (omega arith) c.from.ensures
    c.from-in-loop-triple.ensures c.from-in-loop-triple-2.ensures c.add-kept.ensures)
    c.if-kept.true

pub loop-triple-preserved : goal.loop-triple-preserved
loop-triple-preserved c =
    let i = c.loop-triple.invariant in
    let at = c.in-Some.ensures.steps in (
      omega arith,
      walk_next _ _ _ _ _ i.1 c.in-Some.triple.now _ _ _ at.1.0 _ _ _ (omega arith) c.from.ensures
          c.from-in-loop-triple.ensures c.from-in-loop-triple-2.ensures c.add-kept.ensures,
    )
