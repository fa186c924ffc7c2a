-- One slot of all messages: from where they stand at a time to where they stand at the next, with what it tells.
use Rattle.std.specs.Prelude.{ℕ, ◌+◌, ◌*◌, ◌≤◌, ◌<◌, ◌≡◌, Bool, List, ◌++◌, length, drop}
use Rattle.scope.specs.Limits.{most_messages}
use Rattle.scope.specs.Plan.{plan_of}
use Rattle.scope.specs.Slot as S
use Rattle.scope.specs.Cycle.{order_of, slot, numbers}
use Rattle.table.specs.Table.{entry_at}
use Rattle.cuts.specs.Down.{is_down}
use Rattle.step.specs.declared.Position.{Position}
use Rattle.step.specs.declared.Standing.{Standing}
use Rattle.step.specs.Stand.{positions_of, Stand, Moves}

-- what is lent is down in the slot for which it is lent
abbrev pub down_now : List ℕ → ℕ → ℕ → Bool
down_now down i = is_down down

-- what all messages of the plan of a row do in slot i, where what is down and the table are lent
abbrev pub in_slot : List ℕ → List ℕ → List ℕ → ℕ → List S.Position → List S.Moved
in_slot row table down i ps = slot (order_of (plan_of row)) (down_now down) (entry_at table) i ps

-- what the first n of these positions do
abbrev pub all_in : List ℕ → List ℕ → List ℕ → ℕ → ℕ → List Position → List S.Moved
all_in row table down i n ps = in_slot row table down i (positions_of row n ps)

-- n messages that stand at a time may go through slot i, which begins at that time
pub record MayGo (row : List ℕ) (n : ℕ) (s : Standing) (i : ℕ) : Type 0 where
  pub stand : Stand row n s.positions
  pub at : s.time.0 ≡ i
  pub early : i < 65536

-- they have gone through it: "What happens in slot i leads from time i to time i + 1", and "a slot changes only those records"
pub record GoesOn (row table down : List ℕ) (n i : ℕ) (s r : Standing) : Type 0 where
  pub time : r.time.0 ≡ i + 1
  pub long : length r.positions ≡ most_messages
  pub moves : Moves row n (all_in row table down i n s.positions) s.positions r.positions

-- they may go and be told of, with room for two numbers each
pub record MayTell (row : List ℕ) (n : ℕ) (s : Standing) (i room : ℕ) : Type 0 where
  pub go : MayGo row n s i
  pub enough : 2 * n ≤ room

-- they have gone and been told of: the events of the slot stand at the front of a buffer, and the rest of it is as it was
pub record GoesAndTells (row table down : List ℕ) (n i : ℕ) (s r : Standing) (buffer out : List ℕ) : Type 0 where
  pub goes : GoesOn row table down n i s r
  pub events : out ≡ numbers (all_in row table down i n s.positions) ++ drop (2 * n) buffer
