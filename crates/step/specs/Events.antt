-- The number and values that document 01's table of kinds gives for each case of an event, and the link that an event crosses.
use Rattle.std.specs.Prelude.{ℕ, ◌+◌, cond, ◌||◌, eqb}
use Rattle.scope.specs.Slot as S
use Rattle.step.specs.declared.Event.{Event}
use Rattle.step.specs.declared.Event.TheVariants.{Arrived, Waits, Crosses, CrossesSecond, HeldByTable, HeldByLower, Stays, StaysSecond}

abbrev pub event_of : Event → S.Event
event_of Arrived = record { kind = 0; number = 0 }
event_of (Waits link) = record { kind = 1; number = link }
event_of (Crosses link) = record { kind = 2; number = link }
event_of (CrossesSecond link) = record { kind = 3; number = link }
event_of (HeldByTable message) = record { kind = 4; number = message }
event_of (HeldByLower message) = record { kind = 5; number = message }
event_of (Stays link) = record { kind = 6; number = link }
event_of (StaysSecond link) = record { kind = 7; number = link }

-- the link that an event crosses, plus one, or 0 where it is no crossing
abbrev pub crossing_of : S.Event → ℕ
crossing_of v = cond (eqb v.kind 2 || eqb v.kind 3) (v.number + 1) 0
