-- `step::Standing::told` meets its contract: nothing was seen of the messages, so all go.
use native.Mathlib.Omega.{arith}
use Rattle.step.specs.Slot.{all_in}
use Rattle.step.proofs.Seen.{none_other}
use Rattle.step.proofs.Standing.told.Goals as goal

pub unreachable-requires : goal.unreachable-requires
unreachable-requires c =
    let a = c.args in
    let ms = all_in a.row.now a.table.now a.down.now a.i.0 a.n a.self.positions in
    omega (arith, c.in_default.ensures.there, none_other a.n ms)
