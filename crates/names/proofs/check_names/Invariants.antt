use Prim.Native.Nat.{◌-◌, ◌≤◌}
use mathlib.Core.Path.{◌≡◌}
use lib.ListN.{length, drop}
use Rattle.scope.specs.Limits.{most_names}
use Rattle.scope.specs.Shelf.{names_of, check_names}
use Rattle.names.proofs.Check.{check_from}
use Rattle.names.proofs.check_names.Given as goal

abbrev pub invariant-loop-from : goal.invariant-loop-from
invariant-loop-from l = (l.line ≤ most_names) × (check_from l.line (names_of (drop l.from l.text)) ≡ check_names (names_of l.text))

abbrev pub decreases-loop-from : goal.decreases-loop-from
decreases-loop-from l = length l.text - l.from
