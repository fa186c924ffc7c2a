use Rattle.std.proofs.Common.{◌-◌}
use Rattle.text.proofs.Laid.{Left}
use Rattle.verdict_text.specs.Layout.{lines_of}
use Rattle.verdict_text.proofs.lines.Given as goal

abbrev pub invariant-loop-l : goal.invariant-loop-l
invariant-loop-l l = Left (lines_of l.k l.all 0 l.count) l.initial.out l.at (lines_of l.k l.all l.l (l.count - l.l)) l.out l.next
