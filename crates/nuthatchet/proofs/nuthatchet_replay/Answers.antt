-- `nuthatchet::nuthatchet_replay` meets its contract: the answer of `cut_replay::replay`, told. Assumes nothing.
use Rattle.nuthatchet.proofs.Ways.{tells}
use Rattle.nuthatchet.proofs.nuthatchet_replay.Goals as goal

pub returns : goal.returns
returns c = tells _ c.tell.ensures c.replay-answer.ensures
