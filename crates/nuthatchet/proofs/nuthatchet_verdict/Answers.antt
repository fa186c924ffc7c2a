-- `nuthatchet::nuthatchet_verdict` meets its contract: the ruling of `verdicts::verdict`, told, and a failing list has a pair. Assumes nothing.
use Rattle.nuthatchet.proofs.Rulings.{tells-ruling}
use Rattle.nuthatchet.proofs.nuthatchet_verdict.Goals as goal

pub returns : goal.returns
returns c = tells-ruling _ _ _ _ _ c.verdict-ruling.result c.verdict-ruling.ensures (rw c.pairs_of.ensures at c.tell.ensures)
