use Rattle.std.proofs.Common.{◌-◌, ◌*◌}
use Rattle.scope.specs.Lines.{cuts_from}
use Rattle.text.proofs.Laid.{Left}
use Rattle.cut_lines.proofs.cuts.Given as goal

abbrev pub invariant-loop-k : goal.invariant-loop-k
invariant-loop-k l = Left (cuts_from l.lines l.text 0) l.initial.out 0 (cuts_from (l.lines - l.k) l.text l.i) l.out (2 * l.k)
