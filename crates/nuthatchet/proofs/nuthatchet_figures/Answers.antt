-- `nuthatchet::nuthatchet_figures` meets its contract: the answer of `figures::figures`, told. Assumes nothing.
use Rattle.nuthatchet.proofs.Ways.{tells}
use Rattle.nuthatchet.proofs.nuthatchet_figures.Goals as goal

pub returns : goal.returns
returns c = tells _ c.tell.ensures c.figures-answer.ensures
