-- A whole cycle, read off what is lent: `cuts` says with `others`, the other way of each link, what is down in which slot, and `table` who
-- holds a link.
use Rattle.std.specs.Prelude.{ℕ, ◌+◌, ◌*◌, ◌≤◌, ◌<◌, ◌≡◌, List, ◌++◌, map, length, drop}
use Rattle.scope.specs.Limits.{most_messages}
use Rattle.scope.specs.Plan.{message_count, timeout_of, first_message, messages_at, after_messages, plan_of}
use Rattle.scope.specs.Slot as S
use Rattle.scope.specs.Cycle.{order_of, slot, nexts, numbers, positions, events, arrived, start}
use Rattle.table.specs.Table.{entry_at}
use Rattle.cuts.specs.Down.{cut_below}
use Rattle.step.specs.declared.Standing.{Standing}
use Rattle.step.specs.Stand.{Stand, Become}

-- n messages of a row may start: what they take of the row ends below index 65536
pub record MayStart (row : List ℕ) (n : ℕ) : Type 0 where
  pub few : n ≤ most_messages
  pub fit : after_messages row (first_message row) n < 65536

-- they stand where their first paths begin, at the first time
pub record Begins (row : List ℕ) (n : ℕ) (s : Standing) : Type 0 where
  pub time : s.time.0 ≡ 0
  pub long : length s.positions ≡ most_messages
  pub next : Become row n (map S.on_first (messages_at row (first_message row) n)) s.positions

-- what all messages do in slot i, the positions after n slots from slot i on, and the row of their events
abbrev pub do_in : List ℕ → List ℕ → List ℕ → List ℕ → ℕ → List S.Position → List S.Moved
do_in row table others cuts i ps = slot (order_of (plan_of row)) (cut_below others cuts) (entry_at table) i ps

abbrev pub ends_with : List ℕ → List ℕ → List ℕ → List ℕ → ℕ → ℕ → List S.Position → List S.Position
ends_with row table others cuts i n ps = positions (order_of (plan_of row)) (cut_below others cuts) (entry_at table) i n ps

abbrev pub tells : List ℕ → List ℕ → List ℕ → List ℕ → ℕ → ℕ → List S.Position → List ℕ
tells row table others cuts i n ps = events (order_of (plan_of row)) (cut_below others cuts) (entry_at table) i n ps

-- n messages have gone through slot i: where they stand at the next time, and their events at the front of a buffer
pub record Done (row : List ℕ) (n i : ℕ) (ms : List S.Moved) (buffer r : List ℕ) (s : Standing) : Type 0 where
  pub time : s.time.0 ≡ i + 1
  pub long : length s.positions ≡ most_messages
  pub next : Become row n (nexts ms) s.positions
  pub events : r ≡ numbers ms ++ drop (2 * n) buffer

-- n messages may run through t slots, with room for their events
pub record MayRun (row : List ℕ) (s : Standing) (n t : ℕ) (told : List ℕ) (room : ℕ) : Type 0 where
  pub first : s.time.0 ≡ 0
  pub stand : Stand row n s.positions
  pub long : length s.positions ≡ most_messages
  pub short : t ≤ 65536
  pub enough : length told ≤ room

-- what is told stands at the front of a buffer, and the rest is as it was
abbrev pub Told : List ℕ → List ℕ → List ℕ → Type 0
Told told buffer r = r ≡ told ++ drop (length told) buffer

-- n messages have run: where they stand, and what the buffer has
pub record Ran (row : List ℕ) (n : ℕ) (ends : List S.Position) (told buffer r : List ℕ) (s : Standing) : Type 0 where
  pub next : Become row n ends s.positions
  pub events : Told told buffer r

-- a row may be played: its messages may start, and there is room for "2 × t × M numbers"
pub record MayPlay (row : List ℕ) (room : ℕ) : Type 0 where
  pub may : MayStart row (message_count row)
  pub enough : timeout_of row * (2 * message_count row) ≤ room

-- a row has been played: the count of arrivals, and the row of events in the buffer
pub record Played (row table others cuts buffer r : List ℕ) (count : ℕ) : Type 0 where
  pub arrivals : count ≡ arrived (ends_with row table others cuts 0 (timeout_of row) (start (plan_of row)))
  pub events : Told (tells row table others cuts 0 (timeout_of row) (start (plan_of row))) buffer r
