-- `nuthatchet::nuthatchet_all_answers` meets its contract: the answer of `all_verdicts::all_answers`, told. Assumes nothing.
use Rattle.nuthatchet.proofs.Ways.{says_all}
use Rattle.nuthatchet.proofs.nuthatchet_all_answers.Goals as goal

pub returns : goal.returns
returns c = says_all _ c.tell.ensures c.all_answers-answer.ensures
