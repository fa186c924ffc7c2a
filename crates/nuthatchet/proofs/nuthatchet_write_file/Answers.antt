-- `nuthatchet::nuthatchet_write_file` meets its contract: the answer of `plan::write_file`, told. Assumes nothing.
use Rattle.nuthatchet.proofs.Ways.{tells}
use Rattle.nuthatchet.proofs.nuthatchet_write_file.Goals as goal

pub returns : goal.returns
returns c = tells _ c.tell.ensures c.write_file-answer.ensures
