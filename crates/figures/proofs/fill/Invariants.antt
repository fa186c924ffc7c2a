use Rattle.figures.proofs.Rising.{Rising}
use Rattle.figures.proofs.fill.Given as goal

abbrev pub invariant-loop-j : goal.invariant-loop-j
invariant-loop-j l = Rising l.row l.initial.out l.out l.board.sizes.messages l.least l.j
