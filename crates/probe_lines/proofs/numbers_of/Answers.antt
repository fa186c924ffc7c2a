-- `probe_lines::numbers_of` meets its contract: one law for each way.
use borrow.Author.Tests.{lt-ltb, le-ltb}
use Rattle.probe_lines.proofs.numbers_of.Goals as goal

pub returns-then-pairs-lt4 : goal.returns-then-pairs-lt4
returns-then-pairs-lt4 c = rw (lt-ltb c.args.pairs 4 c.if-pairs-lt4.true)

pub returns-else-pairs-lt4 : goal.returns-else-pairs-lt4
returns-else-pairs-lt4 c = rw (le-ltb c.args.pairs 4 c.if-pairs-lt4.false)
