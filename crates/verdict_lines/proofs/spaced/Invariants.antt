use Rattle.std.proofs.Common.{drop}
use Rattle.scope.specs.Lines.{spaced}
use Rattle.text.proofs.Laid.{Left}
use Rattle.verdict_lines.proofs.spaced.Given as goal

abbrev pub invariant-loop-n : goal.invariant-loop-n
invariant-loop-n l = Left (spaced l.cuts) l.initial.out l.at (spaced (drop l.n-index l.cuts)) l.out l.next
