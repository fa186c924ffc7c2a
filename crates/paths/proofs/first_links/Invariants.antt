-- `paths::first_links` meets its contract. The invariant `Copying`: the links copied, and those of the places left, are the links asked.
-- Assumes nothing.
use Rattle.paths.proofs.Laws.{Copying}
use Rattle.paths.proofs.first_links.Given as goal

abbrev pub invariant-loop-k : goal.invariant-loop-k
invariant-loop-k l = Copying l.row l.i l.n l.initial.path l.at l.k l.path
