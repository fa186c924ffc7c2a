-- `whole_shelf::sheet` meets its contract: the names before an index are passed.
use native.Mathlib.Omega.{arith}
use mathlib.Core.Path.{refl}
use Rattle.whole_shelf.proofs.Laying.{laying_first, same-room, few, may-sum, laid-all, end-within, end_after, may_lay, laying_on}
use Rattle.whole_shelf.proofs.sheet.Goals as goal

pub loop-from-init : goal.loop-from-init
loop-from-init c =
    laying_first _ _ _ c.no_plan-tally.ensures

pub slice_bounds-shelve-count : goal.slice_bounds-shelve-count
slice_bounds-shelve-count c =
    end_after _ _ c.requires.0 _ _ _ _ _ _ c.loop-from.invariant c.loop-from-test.true _ c.name_end-end.ensures

pub slice_bounds-shelve-start : goal.slice_bounds-shelve-start
slice_bounds-shelve-start c =
    omega (arith, c.loop-from-test.true)

pub slice_bounds-shelve-end : goal.slice_bounds-shelve-end
slice_bounds-shelve-end c =
    omega (
      arith,
      end_after _ _ c.requires.0 _ _ _ _ _ _ c.loop-from.invariant c.loop-from-test.true _ c.name_end-end.ensures,
      end-within _ _ c.requires.0 _ _ _ _ _ _ c.loop-from.invariant c.loop-from-test.true _ c.name_end-end.ensures,
    )

pub shelve-laid-requires : goal.shelve-laid-requires
shelve-laid-requires c =
    may_lay _ _ c.requires.0 _ _ _ _ _ _ c.loop-from.invariant c.loop-from-test.true
    _ c.name_end-end.ensures _ refl

pub overflow_add-from : goal.overflow_add-from
overflow_add-from c =
    omega (
      arith,
      end-within _ _ c.requires.0 _ _ _ _ _ _ c.loop-from.invariant c.loop-from-test.true _ c.name_end-end.ensures,
    )

pub overflow_add-done : goal.overflow_add-done
overflow_add-done c =
    omega (arith, c.loop-from.invariant.count, few _ _ c.requires.0 _ _ _ _ _ _ c.loop-from.invariant)

pub loop-from-smaller : goal.loop-from-smaller
loop-from-smaller c =
    omega (
      arith,
      c.loop-from-test.true,
      end_after _ _ c.requires.0 _ _ _ _ _ _ c.loop-from.invariant c.loop-from-test.true _ c.name_end-end.ensures,
    )

pub loop-from-preserved : goal.loop-from-preserved
loop-from-preserved c =
    laying_on _ _ c.requires.0 _ _ _ _ _ _ c.loop-from.invariant c.loop-from-test.true _ c.name_end-end.ensures _ _ _ refl c.shelve-laid.ensures

pub sum_lines-requires : goal.sum_lines-requires
sum_lines-requires c =
    may-sum _ _ c.requires.0 _ _ _ _ _ _ c.loop-from.invariant

pub shape_of-out : goal.shape_of-out
shape_of-out c =
    omega (arith, c.sum_lines.auto, same-room _ _ _ _ _ _ _ c.loop-from.invariant)

pub returns : goal.returns
returns c =
    laid-all _ _ c.requires.0 _ _ _ _ _ _ c.loop-from.invariant _ _ c.loop-from-test.false c.sum_lines.ensures
