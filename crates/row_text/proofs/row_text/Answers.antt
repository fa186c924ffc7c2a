-- `row_text::row_text` meets its contract: by what reading the file gives.
use borrow.Author.Rules.{rules}
use Rattle.listing.proofs.Printing.{prints_as, says_given, says-refused}
use Rattle.plan.proofs.Reading.{read_given, read-refused, read-row, read-fit, read-long}
use Rattle.row_text.proofs.Ways.{text_given, row-short}
use Rattle.scope.proofs.Outcomes.{passed}
use Rattle.listing.specs.Prints.{Says}
use Rattle.row_text.proofs.row_text.Goals as goal

pub slice_bounds-row-end : goal.slice_bounds-row-end
slice_bounds-row-end c = read-fit _ _ _ _ c.read_file.ensures _ c.in_ok-n.was

pub slice_bounds-listed-end : goal.slice_bounds-listed-end
slice_bounds-listed-end c = read-long _ _ _ _ c.read_file.ensures _
    c.in_ok-n.was

pub listed-requires : goal.listed-requires
listed-requires c =
    let read = c.read_file.ensures in
    let gave = c.in_ok-n.was in
    row-short _ _ _ (read_given _ _ _ _ read _ _ (search rules) gave) (read-row _ _ _ _ read _ gave)

pub returns : goal.returns
returns c =
    let read = c.read_file.ensures in
    let gave = c.in_ok-n.was in
    says_given _ (read_given _ _ _ _ read _ _ (search rules) gave)
    (prints_as (text_given _ _ _ (read_given _ _ _ _ read _ _ (search rules) gave) (read-row _ _ _ _ read _ gave))
    c.listed.ensures)

pub returns-in_err-n : goal.returns-in_err-n
returns-in_err-n c =
    passed (Says _ _ _ _) _ _ c.from_residual.ensures.1
    (says-refused _ _ _ (read-refused _ _ _ _ c.read_file.ensures _ _ (search rules)
    c.in_err-n.was))
