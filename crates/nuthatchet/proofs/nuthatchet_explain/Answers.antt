-- `nuthatchet::nuthatchet_explain` meets its contract: the explanation of `explanations::explain`, told. Assumes nothing.
use Rattle.nuthatchet.proofs.Explanations.{few, tells-explanation}
use Rattle.nuthatchet.proofs.nuthatchet_explain.Goals as goal

pub one_more-requires : goal.one_more-requires
one_more-requires c = few _ _ _ _ _ c.explain-explanation.result c.explain-explanation.ensures

pub returns : goal.returns
returns c = tells-explanation _ _ _ _ _ c.explain-explanation.result c.explain-explanation.ensures (rw c.one_more.ensures at c.tell.ensures)
