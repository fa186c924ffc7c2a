-- `plan::read_file` meets its contract: the form of the file comes first, then what `accept` says of its row. Assumes nothing.
use Rattle.std.proofs.Common.{length, sym, ap, ◌∙◌}
use Rattle.scope.proofs.Outcomes.{passed}
use Rattle.forms.proofs.Theorems.{unpacked_row}
use Rattle.plan.specs.Answers.{Reads}
use Rattle.plan.proofs.Ways as law
use Rattle.plan.proofs.read_file.Goals as goal

pub slice_bounds-accept-end : goal.slice_bounds-accept-end
slice_bounds-accept-end c =
    let u = c.unpack-unpacked in
    u.ensures.count ∙ ap length (sym (unpacked_row _ _ _ _ _ u.ensures))

pub accept-requires : goal.accept-requires
accept-requires c =
    let u = c.unpack-unpacked in
    law.all-form _ _ _ (law.gave _ c.in_ok-unpacked.was u.ensures.answer) (unpacked_row _ _ _ _ _ u.ensures)

pub returns : goal.returns
returns c =
    let u = c.unpack-unpacked in
    law.read_on _ _ _ _ _ _ (law.gave _ c.in_ok-unpacked.was u.ensures.answer)
    (unpacked_row _ _ _ _ _ u.ensures) c.accept.ensures

pub returns-in_err-unpacked : goal.returns-in_err-unpacked
returns-in_err-unpacked c =
    passed (Reads _ _ _) _ _ c.from_residual.ensures.1
    (law.read-form _ _ _ (law.refused_as _ c.in_err-unpacked.was c.unpack-unpacked.ensures.answer))
