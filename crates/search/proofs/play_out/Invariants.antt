use Rattle.search.proofs.Playing.{Ending}
use Rattle.search.proofs.play_out.Given as goal

abbrev pub invariant-loop-i : goal.invariant-loop-i
invariant-loop-i l = Ending l.row l.board l.p l._i l.standing l.left
