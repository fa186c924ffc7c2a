-- `cycle::run_slot` meets its contract: what is lent as down is what the list takes down in this slot. Assumes nothing.
use Rattle.cycle.proofs.Whole.{done_by}
use Rattle.cycle.proofs.run_slot.Goals as goal

pub returns : goal.returns
returns c =
    let a = c.args in
    done_by a.row.now a.table.now a.others.now a.cuts.now _ a.i.0 (rw c.number.ensures at c.down_in-down.ensures)
    a.n a.standing _ _ _ c.told.ensures
