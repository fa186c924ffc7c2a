use Rattle.std.proofs.Common.{◌-◌}
use Rattle.scope.specs.Lines.{event_lines}
use Rattle.text.proofs.Laid.{Left}
use Rattle.listing.proofs.event_lines.Given as goal

abbrev pub invariant-loop-j : goal.invariant-loop-j
invariant-loop-j l =
    Left (event_lines l.messages l.events 0 l.lines) l.initial.out l.at (event_lines l.messages l.events l.j (l.lines - l.j)) l.out l.next
