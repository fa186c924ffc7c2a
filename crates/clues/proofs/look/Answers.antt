-- `clues::look` meets its contract: the slot is watched, up to the first message that differs from the table.
use mathlib.Core.Path.{ap}
use native.Mathlib.Omega.{arith}
use Rattle.step.specs.declared.Time.{Time}
use Rattle.clues.proofs.Looking.{may-go, slot_small, part-is, looked-other, looked-same}
use Rattle.clues.proofs.look.Goals as goal

pub begins-i-requires : goal.begins-i-requires
begins-i-requires c = omega (arith, c.requires.early, ap (λ (t : Time). t.0) c.time.ensures)

pub overflow_mul-from : goal.overflow_mul-from
overflow_mul-from c =
    omega (arith, slot_small _ _ _ _ _ c.requires _ _ c.time.ensures c.begins-i.ensures, c.number-from.ensures)

pub overflow_add-end : goal.overflow_add-end
overflow_add-end c =
    omega (arith, slot_small _ _ _ _ _ c.requires _ _ c.time.ensures c.begins-i.ensures, c.number-from.ensures)

pub slice_bounds-watched-end : goal.slice_bounds-watched-end
slice_bounds-watched-end c =
    let pre = c.requires in
    omega (arith, slot_small _ _ _ _ _ pre _ _ c.time.ensures c.begins-i.ensures, c.number-from.ensures, pre.size)

pub watched-requires : goal.watched-requires
watched-requires c = may-go _ _ _ _ _ c.requires _ _ c.time.ensures c.begins-i.ensures

pub returns-in-Ok : goal.returns-in-Ok
returns-in-Ok c =
    looked-same _ _ _ _ _ c.requires _ _ c.time.ensures c.begins-i.ensures _ _
    (part-is _ _ _ c.number-from.ensures) _ c.in-Ok.ensures

pub returns-in-Err : goal.returns-in-Err
returns-in-Err c =
    looked-other _ _ _ _ _ c.requires _ _ c.time.ensures c.begins-i.ensures _ _
    (part-is _ _ _ c.number-from.ensures) _ c.in-Err.ensures _ c.clue_of.ensures
