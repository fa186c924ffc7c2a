use Rattle.std.proofs.Common.{◌≡◌, ◌+◌, drop}
use Rattle.text.specs.Reading.{stands}
use Rattle.text.proofs.stands.Given as goal

abbrev pub invariant-loop-j : goal.invariant-loop-j
invariant-loop-j l = stands l.text (l.i + l.j) (drop l.j l.word) ≡ stands l.text l.i l.word
