-- `nuthatchet::nuthatchet_figure` meets its contract: the answer of `figures::figure`, told. Assumes nothing.
use Rattle.nuthatchet.proofs.Ways.{told}
use Rattle.nuthatchet.proofs.nuthatchet_figure.Goals as goal

pub returns : goal.returns
returns c =
    told c.figure-answer.result c.tell.ensures c.figure-answer.ensures
