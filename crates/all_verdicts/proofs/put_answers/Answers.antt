-- `all_verdicts::put_answers` meets its contract.
use Prim.Native.Nat.{◌*◌}
use mathlib.Core.Path.{refl}
use native.Mathlib.Omega.{arith}
use borrow.Author.Rules.{rules}
use Rattle.all_verdicts.proofs.Putting.{room-left, putting_none, putting_more, putting_done}
use Rattle.all_verdicts.proofs.put_answers.Goals as goal

pub loop-l-init : goal.loop-l-init
loop-l-init c = putting_none _ _ _ _ _ c.requires.0

pub overflow_mul-at : goal.overflow_mul-at
overflow_mul-at c = omega (arith, c.loop-l-test.true, c.requires.1)

pub slice_bounds-put_answer-count : goal.slice_bounds-put_answer-count
slice_bounds-put_answer-count c = omega (arith, c.loop-l-test.true, c.requires.2, c.loop-l.invariant.same)

pub slice_bounds-put_answer-start : goal.slice_bounds-put_answer-start
slice_bounds-put_answer-start c = omega (arith, c.loop-l-test.true, c.requires.2, c.loop-l.invariant.same)

pub put_answer-requires : goal.put_answer-requires
put_answer-requires c =
    room-left c.loop-l.out (7 * c.loop-l.l) 7
    (omega (arith, c.loop-l-test.true, c.requires.2, c.loop-l.invariant.same))

pub loop-l-preserved : goal.loop-l-preserved
loop-l-preserved c =
    putting_more _ _ _ _ _ _ _ c.loop-l.invariant _ _
    c.loop-l-test.true c.requires.2 (search rules)
    c.put_answer.ensures refl

pub shape_of-out : goal.shape_of-out
shape_of-out c = c.loop-l.invariant.same

pub returns : goal.returns
returns c = putting_done _ _ _ _ _ _ _ c.loop-l.invariant c.loop-l-test.false
