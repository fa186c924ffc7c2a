-- `nuthatchet::nuthatchet_pack_text` meets its contract: the answer of `row_text::pack_text`, told. Assumes nothing.
use Rattle.nuthatchet.proofs.Ways.{tells}
use Rattle.nuthatchet.proofs.nuthatchet_pack_text.Goals as goal

pub returns : goal.returns
returns c = tells _ c.tell.ensures c.pack_text-answer.ensures
