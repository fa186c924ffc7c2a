-- `replay_text::replay_text` meets its contract: by what reading the file gives.
use Rattle.std.proofs.Common.{refl}
use Rattle.scope.proofs.Outcomes.{passed}
use Rattle.plan.proofs.Reading.{read_given, read-refused, read-row, read-fit, read-long, read-known}
use Rattle.listing.specs.Prints.{Says}
use Rattle.listing.proofs.Printing.{says_as, says-refused}
use Rattle.replay_text.proofs.Text.{text-row, may-refused, may_given}
use Rattle.replay_text.proofs.replay_text.Goals as goal

pub returns : goal.returns
returns c =
    let read = c.read_file.ensures in
    let was = c.in_ok-n.was in
    let given = read_given _ _ _ _ read _ _ refl was in
    let row = read-row _ _ _ _ read _ was in
    says_as (may_given _ _ _ _ given row) (text-row _ _ _ _ given row) c.played_input.ensures

pub returns-in_err-n : goal.returns-in_err-n
returns-in_err-n c =
    let was = c.in_err-n.was in
    passed (Says _ _ _ _) _ _ c.from_residual.ensures.1
    (says-refused _ _ _ (may-refused _ _ _ (read-refused _ _ _ _ c.read_file.ensures _ _ refl was)))

pub slice_bounds-row-end : goal.slice_bounds-row-end
slice_bounds-row-end c = read-fit _ _ _ _ c.read_file.ensures _ c.in_ok-n.was

pub slice_bounds-played_input-end : goal.slice_bounds-played_input-end
slice_bounds-played_input-end c = read-long _ _ _ _ c.read_file.ensures _ c.in_ok-n.was

pub invariant_of-played_input : goal.invariant_of-played_input
invariant_of-played_input c = record { is_good = read-known _ _ _ _ c.read_file.ensures _ c.in_ok-n.was }
