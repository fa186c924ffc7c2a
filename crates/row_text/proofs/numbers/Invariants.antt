use Rattle.std.proofs.Common.{◌≤◌, ◌-◌, length, drop, false}
use Rattle.text.proofs.Laid.{Left}
use Rattle.row_text.specs.Rows.{numbers_from, numbers_of}
use Rattle.row_text.proofs.numbers.Given as goal

abbrev pub invariant-loop-i : goal.invariant-loop-i
invariant-loop-i l = (l.n ≤ l.i) × (l.i ≤ length l.text) × Left (numbers_of l.text) l.initial.out 0 (numbers_from false 0 (drop l.i l.text)) l.out l.n

abbrev pub decreases-loop-i : goal.decreases-loop-i
decreases-loop-i l = length l.text - l.i
