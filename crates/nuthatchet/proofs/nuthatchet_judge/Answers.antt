-- `nuthatchet::nuthatchet_judge` meets its contract: the answer of `plan::judge`, told. Assumes nothing.
use Rattle.nuthatchet.proofs.Ways.{told}
use Rattle.nuthatchet.proofs.nuthatchet_judge.Goals as goal

pub returns : goal.returns
returns c =
    told c.judge-answer.result c.tell.ensures c.judge-answer.ensures
