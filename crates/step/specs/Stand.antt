-- All messages at once: their records in an array.
use Rattle.std.specs.Prelude.{ℕ, ◌*◌, ◌≤◌, ◌<◌, ◌≡◌, false, List, ◌++◌, map, get_or, take, drop}
use Rattle.scope.specs.Limits.{most_messages}
use Rattle.scope.specs.Slot as S
use Rattle.scope.specs.Cycle.{nexts, numbers}
use Rattle.step.specs.declared.Position.{Position}
use Rattle.step.specs.Where.{position_of, end_of}

-- a position with nothing left
abbrev pub home : Position
home = record { at = 0; left = 0; turned = false }

-- the positions of the first n messages of an array
abbrev pub positions_of : List ℕ → ℕ → List Position → List S.Position
positions_of row n ps = map (position_of row) (take n ps)

-- n messages at positions that end below index 65536
pub record Stand (row : List ℕ) (n : ℕ) (ps : List Position) : Type 0 where
  pub few : n ≤ most_messages
  pub fit : (k : ℕ) → k < n → end_of row (get_or ps k home) < 65536

-- n messages at the positions `next`
pub record Become (row : List ℕ) (n : ℕ) (next : List S.Position) (ps : List Position) : Type 0 where
  pub is : positions_of row n ps ≡ next
  pub stand : Stand row n ps

-- n messages have moved: the first n records are their next positions, and the records past them are as they were
pub record Moves (row : List ℕ) (n : ℕ) (ms : List S.Moved) (ps r : List Position) : Type 0 where
  pub next : Become row n (nexts ms) r
  pub rest : drop n r ≡ drop n ps

-- so many messages may be told of in slot i, with room for two numbers each
pub record MayTellAll (row : List ℕ) (ps : List Position) (n i room : ℕ) : Type 0 where
  pub stand : Stand row n ps
  pub early : i < 65536
  pub enough : 2 * n ≤ room

-- they have moved and been told of: their events stand at the front of a buffer, and the rest of it is as it was
pub record MovesAndTells (row : List ℕ) (n : ℕ) (ms : List S.Moved) (ps r : List Position) (buffer out : List ℕ) : Type 0 where
  pub moves : Moves row n ms ps r
  pub events : out ≡ numbers ms ++ drop (2 * n) buffer
