-- For each slot and link the set of messages that a pair there matters to: those that a table gives the link in the slot or later, and those
-- that have it on the second path of a robust place. A set may hold more than these.
use Rattle.std.specs.Prelude.{ℕ, ◌+◌, ◌≤◌, ◌<◌, ◌≡◌, true, List, length, get_or}
use Rattle.scope.specs.Limits.{most_slots, most_links, most_messages, plane_size, seconds_size}
use Rattle.table.specs.Table.{index_of, entry_at}
use Rattle.sets.specs.Sets.{has}
use Rattle.bound.specs.Seconds.{second_in}
use Rattle.bound.specs.Weights.{HasRoom}

-- the set of slot s and link e
abbrev pub set_in : List ℕ → ℕ → ℕ → ℕ
set_in sets s e = get_or sets (index_of s e) 0

-- a message is in the set of each slot and link that a table gives it in that slot or later, of the slots before `slots`
pub record SetsOf (table : List ℕ) (slots : ℕ) (sets : List ℕ) : Type 0 where
  pub long : length sets ≡ plane_size
  pub from : (s i e m : ℕ) → s ≤ i → i < slots → e < most_links → m < most_messages → entry_at table i e ≡ m + 1 → has (set_in sets s e) m ≡ true

-- of a table of fragile places, and in whatever slot if it has the link on the second path of a robust place
pub record StripSetsOf (fragile seconds : List ℕ) (slots : ℕ) (sets : List ℕ) : Type 0 where
  pub long : length sets ≡ plane_size
  pub from : (s i e m : ℕ) → s ≤ i → i < slots → e < most_links → m < most_messages → entry_at fragile i e ≡ m + 1 → has (set_in sets s e) m ≡ true
  pub always : (s e m : ℕ) → s < slots → e < most_links → m < most_messages → 0 < second_in seconds e m → has (set_in sets s e) m ≡ true

-- the sets of a table's first slots are put, and who was in a set of the row behind the last slot is in those of its link
pub record Gathered (table : List ℕ) (slots : ℕ) (old new : List ℕ) : Type 0 where
  pub put : SetsOf table slots new
  pub last : (s e m : ℕ) → s ≤ slots → e < most_links → has (set_in old slots e) m ≡ true → has (set_in new s e) m ≡ true

-- who has link e on the second path of a robust place is in the set
abbrev pub Through : List ℕ → ℕ → ℕ → Type 0
Through seconds e those = (m : ℕ) → m < most_messages → 0 < second_in seconds e m → has those m ≡ true

-- the sets of a row may be put so, and are
pub record MayRow (seconds : List ℕ) (s : ℕ) (sets : List ℕ) : Type 0 where
  pub bytes : length seconds ≡ seconds_size
  pub slot : s ≤ most_slots
  pub long : length sets ≡ plane_size

pub record ThroughRow (seconds : List ℕ) (s : ℕ) (sets : List ℕ) : Type 0 where
  pub long : length sets ≡ plane_size
  pub is : (e : ℕ) → e < most_links → Through seconds e (set_in sets s e)

-- the sets of a table of fragile places, and of those rows, may be put
pub record MayGatherStrips (fragile seconds : List ℕ) (slots : ℕ) (sets : List ℕ) : Type 0 where
  pub table : HasRoom fragile slots sets
  pub bytes : length seconds ≡ seconds_size
