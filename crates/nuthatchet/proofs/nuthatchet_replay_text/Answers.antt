-- `nuthatchet::nuthatchet_replay_text` meets its contract: the answer of `replay_text::replay_text`, told. Assumes nothing.
use Rattle.nuthatchet.proofs.Ways.{prints}
use Rattle.nuthatchet.proofs.nuthatchet_replay_text.Goals as goal

pub returns : goal.returns
returns c = prints _ c.tell.ensures c.replay_text-answer.ensures
