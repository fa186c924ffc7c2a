-- `explain_text::explain_text` meets its contract: by what reading the file gives.
use Rattle.std.proofs.Common.{refl}
use Rattle.scope.proofs.Outcomes.{passed}
use Rattle.plan.proofs.Reading.{read_given, read-refused, read-row, read-fit, read-long, read-known}
use Rattle.explain_text.specs.Text.{SaysOne}
use Rattle.explain_text.proofs.Captures.{file-refused, file_given}
use Rattle.explain_text.proofs.explain_text.Goals as goal

pub slice_bounds-row-end : goal.slice_bounds-row-end
slice_bounds-row-end c = read-fit _ _ _ _ c.read_file.ensures _ c.in_ok-n.was

pub slice_bounds-said_of-end : goal.slice_bounds-said_of-end
slice_bounds-said_of-end c = read-long _ _ _ _ c.read_file.ensures _ c.in_ok-n.was

pub invariant_of-said_of : goal.invariant_of-said_of
invariant_of-said_of c = record { is_good = read-known _ _ _ _ c.read_file.ensures _ c.in_ok-n.was }

pub returns : goal.returns
returns c =
    let read = c.read_file.ensures in
    let was = c.in_ok-n.was in
    file_given _ _ _ (read_given _ _ _ _ read _ _ refl was) _ (read-row _ _ _ _ read _ was) c.said_of.ensures

pub returns-in_err-n : goal.returns-in_err-n
returns-in_err-n c =
    passed (SaysOne _ _ _ _) _ _ c.from_residual.ensures.1
    (file-refused _ _ _ (read-refused _ _ _ _ c.read_file.ensures _ _ refl c.in_err-n.was) _)
