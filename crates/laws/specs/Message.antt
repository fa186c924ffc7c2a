-- One message of a replay: where it stands, and what it does in a slot. A message that does not exist is at its target.
use Rattle.std.specs.Prelude.{ℕ, ◌+◌, Bool, true, false, List, [], get_or, eqb}
use Rattle.scope.specs.Slot.{Position, on_first, on_second, Event, Moved, moved, turn, tries}
use Rattle.scope.specs.Cycle.{slot, positions}
use Rattle.scope.specs.Capture.{is_crossing}

-- where message m stands
abbrev pub position_of : ℕ → List Position → Position
position_of m ps = get_or ps m (on_first [])

-- what message m does
abbrev pub moved_of : ℕ → List Moved → Moved
moved_of m ms = get_or ms m (moved (on_first []) 0 0)

-- a message has turned to a second path
abbrev pub has_turned : Position → Bool
has_turned (on_first ps) = false
has_turned (on_second es) = true

-- an event is the crossing of link e, on the first path or on a second one
abbrev pub crosses : ℕ → Event → Bool
crosses e v = is_crossing v.kind v.number e

-- message m tries link e in a slot with these positions before it
abbrev pub tries_link : (ℕ → Bool) → ℕ → ℕ → List Position → Bool
tries_link down e m ps = eqb (tries down (turn down (position_of m ps))) (e + 1)

module _ (rank : ℕ → ℕ) (down : ℕ → ℕ → Bool) (owner : ℕ → ℕ → ℕ) where
  -- what message m does in slot i, with these positions before it
  abbrev pub move_in : ℕ → ℕ → List Position → Moved
  move_in m i ps = moved_of m (slot rank down owner i ps)

  -- where message m stands at time i of a cycle that begins with these positions
  abbrev pub stands_at : ℕ → ℕ → List Position → Position
  stands_at m i ps = position_of m (positions rank down owner 0 i ps)

  -- message m's event in slot i of that cycle
  abbrev pub event_of : ℕ → ℕ → List Position → Event
  event_of m i ps = (move_in m i (positions rank down owner 0 i ps)).event
