-- The replay as a whole: slots follow one another, no message comes or goes, and nothing but what is down in its slots matters to it.
use Rattle.std.specs.Prelude.{ℕ, ◌+◌, ◌*◌, ◌≤◌, ◌<◌, ◌≡◌, Bool, true, List, ◌++◌, length, get_or, drop}
use Rattle.scope.specs.Slot.{Position, on_second, at_target}
use Rattle.scope.specs.Cycle.{slot, positions, events}
use Rattle.laws.specs.Message.{position_of, move_in, event_of}

-- the positions after n + k slots are those after k more slots
abbrev pub PositionsFollow : Type 0
PositionsFollow =
    (rank : ℕ → ℕ) (down : ℕ → ℕ → Bool) (owner : ℕ → ℕ → ℕ) (i n k : ℕ) (ps : List Position) →
    positions rank down owner i (n + k) ps ≡ positions rank down owner (i + n) k (positions rank down owner i n ps)

-- and the events of n + k slots are those of n slots, then those of k more
abbrev pub EventsFollow : Type 0
EventsFollow =
    (rank : ℕ → ℕ) (down : ℕ → ℕ → Bool) (owner : ℕ → ℕ → ℕ) (i n k : ℕ) (ps : List Position) →
    events rank down owner i (n + k) ps ≡ events rank down owner i n ps ++ events rank down owner (i + n) k (positions rank down owner i n ps)

-- no message comes or goes, and the row has "2 × t × M numbers"
pub record LengthsKept : Type 0 where
  pub of_slot : (rank : ℕ → ℕ) (down : ℕ → ℕ → Bool) (owner : ℕ → ℕ → ℕ) (i : ℕ) (ps : List Position) →
      length (slot rank down owner i ps) ≡ length ps
  pub of_positions : (rank : ℕ → ℕ) (down : ℕ → ℕ → Bool) (owner : ℕ → ℕ → ℕ) (i n : ℕ) (ps : List Position) →
      length (positions rank down owner i n ps) ≡ length ps
  pub of_events : (rank : ℕ → ℕ) (down : ℕ → ℕ → Bool) (owner : ℕ → ℕ → ℕ) (i n : ℕ) (ps : List Position) →
      length (events rank down owner i n ps) ≡ n * (2 * length ps)

-- two functions say the same of the n slots from slot i on
abbrev pub AgreeOn : ℕ → ℕ → (ℕ → ℕ → Bool) → (ℕ → ℕ → Bool) → Type 0
AgreeOn i n down other = (j e : ℕ) → i ≤ j → j < i + n → down j e ≡ other j e

-- only what is down in the slots played matters
pub record OnlyTheseSlots (rank : ℕ → ℕ) (down other : ℕ → ℕ → Bool) (owner : ℕ → ℕ → ℕ) (i n : ℕ) (ps : List Position) : Type 0 where
  pub positions_agree : positions rank down owner i n ps ≡ positions rank other owner i n ps
  pub events_agree : events rank down owner i n ps ≡ events rank other owner i n ps

abbrev pub DependsOnTheseSlots : Type 0
DependsOnTheseSlots =
    (rank : ℕ → ℕ) (down other : ℕ → ℕ → Bool) (owner : ℕ → ℕ → ℕ) (i n : ℕ) (ps : List Position) →
    AgreeOn i n down other → OnlyTheseSlots rank down other owner i n ps

-- the row of events has a message's event in a slot, "slot by slot, message by message, kind then number"
pub record InRow (rank : ℕ → ℕ) (down : ℕ → ℕ → Bool) (owner : ℕ → ℕ → ℕ) (n m i : ℕ) (ps : List Position) : Type 0 where
  pub kind : get_or (events rank down owner 0 n ps) (2 * (i * length ps + m)) 0 ≡ (event_of rank down owner m i ps).kind
  pub number : get_or (events rank down owner 0 n ps) (2 * (i * length ps + m) + 1) 0 ≡ (event_of rank down owner m i ps).number

abbrev pub EventsInRow : Type 0
EventsInRow =
    (rank : ℕ → ℕ) (down : ℕ → ℕ → Bool) (owner : ℕ → ℕ → ℕ) (n m i : ℕ) (ps : List Position) →
    i < n → m < length ps → InRow rank down owner n m i ps

-- a message at its target stays there, and its event is kind 0
pub record Stays (rank : ℕ → ℕ) (down : ℕ → ℕ → Bool) (owner : ℕ → ℕ → ℕ) (m i : ℕ) (ps : List Position) : Type 0 where
  pub there : (n : ℕ) → position_of m (positions rank down owner i n ps) ≡ position_of m ps
  pub kind : (move_in rank down owner m i ps).event.kind ≡ 0
  pub number : (move_in rank down owner m i ps).event.number ≡ 0

abbrev pub AtTargetStays : Type 0
AtTargetStays =
    (rank : ℕ → ℕ) (down : ℕ → ℕ → Bool) (owner : ℕ → ℕ → ℕ) (m i : ℕ) (ps : List Position) →
    at_target (position_of m ps) ≡ true → Stays rank down owner m i ps

-- "and never returns": a message that has turned stays turned, and what it has left is its second path, less the links it has crossed
abbrev pub NeverReturns : Type 0
NeverReturns =
    (rank : ℕ → ℕ) (down : ℕ → ℕ → Bool) (owner : ℕ → ℕ → ℕ) (m i n : ℕ) (es : List ℕ) (ps : List Position) →
    position_of m ps ≡ on_second es → (k : ℕ) × (k ≤ n) × (position_of m (positions rank down owner i n ps) ≡ on_second (drop k es))
