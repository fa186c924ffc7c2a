-- `grammar::after_flag` meets its contract, by the test of its branch. Assumes nothing.
use borrow.Author.Tests.{eq-eqb, ne_eqb}
use Rattle.grammar.proofs.after_flag.Goals as goal

pub returns-then-v-eq1 : goal.returns-then-v-eq1
returns-then-v-eq1 c = rw (eq-eqb _ _ c.if-v-eq1.true)

pub returns-else-v-eq1 : goal.returns-else-v-eq1
returns-else-v-eq1 c = rw (ne_eqb _ _ c.if-v-eq1.false) c.next_place.ensures
