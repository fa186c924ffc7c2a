use Rattle.std.proofs.Common.{drop}
use Rattle.text.proofs.Laid.{Left}
use Rattle.text.proofs.put_word.Given as goal

abbrev pub invariant-loop-b : goal.invariant-loop-b
invariant-loop-b l = Left l.word l.initial.out l.at (drop l.b-index l.word) l.out l.next
