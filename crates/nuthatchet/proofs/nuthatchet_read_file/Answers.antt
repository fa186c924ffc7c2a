-- `nuthatchet::nuthatchet_read_file` meets its contract: the answer of `plan::read_file`, told. Assumes nothing.
use Rattle.nuthatchet.proofs.Ways.{tells}
use Rattle.nuthatchet.proofs.nuthatchet_read_file.Goals as goal

pub returns : goal.returns
returns c = tells _ c.tell.ensures c.read_file-answer.ensures
