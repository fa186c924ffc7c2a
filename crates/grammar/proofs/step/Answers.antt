-- `grammar::step` meets its contract: the slot stays, and `following` says what comes next. Assumes nothing.
use Rattle.grammar.proofs.step.Goals as goal

pub returns : goal.returns
returns c = rw c.following.ensures
