-- `nuthatchet::nuthatchet_row_text` meets its contract: the answer of `row_text::row_text`, told. Assumes nothing.
use Rattle.nuthatchet.proofs.Ways.{prints}
use Rattle.nuthatchet.proofs.nuthatchet_row_text.Goals as goal

pub returns : goal.returns
returns c = prints _ c.tell.ensures c.row_text-answer.ensures
