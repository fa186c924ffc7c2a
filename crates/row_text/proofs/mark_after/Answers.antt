-- `row_text::mark_after` meets its contract: a number follows. Where none does, the check finds it alone.
use Rattle.row_text.proofs.Lines.{mark-more}
use Rattle.row_text.proofs.mark_after.Goals as goal

pub returns-then-i-row : goal.returns-then-i-row
returns-then-i-row c = mark-more _ _ c.if-i-row.true
