-- The table as a list of bytes, slot by slot: the message that holds a slot and a link plus one, or 0.
use Rattle.std.specs.Prelude.{ℕ, ◌+◌, ◌*◌, ◌/◌, ◌%◌, ◌<◌, ◌≤◌, ◌≡◌, cond, ◌&&◌, List, length, get_or, ltb, eqb}
use Rattle.scope.specs.Limits.{most_slots, most_links, table_size}
use Rattle.scope.specs.Lowest.{lowest}
use Rattle.scope.specs.Plan.{Plan, Place, plan_of, message_at, after_message, path_of}
use Rattle.scope.specs.Good.{holds}
use Rattle.scope.specs.Cycle.{entry_of}
use Rattle.scope.specs.SecondPath.{message_index}

abbrev pub index_of : ℕ → ℕ → ℕ
index_of i e = i * most_links + e

-- who has link e in slot i: nobody where the table has no such slot or link
abbrev pub entry_at : List ℕ → ℕ → ℕ → ℕ
entry_at table i e = cond (ltb i most_slots && ltb e most_links) (get_or table (index_of i e) 0) 0

-- who has the slot and the link of an index
abbrev pub at_index : List ℕ → ℕ → ℕ
at_index table k = entry_at table (k / most_links) (k % most_links)

-- an entry after a place was put: who holds it already keeps it
abbrev pub marked : ℕ → ℕ → ℕ → ℕ → ℕ → ℕ → ℕ
marked w link slot i e old = cond (ltb 0 old) old (cond (eqb link e && eqb slot i) w 0)

-- and after all places of a message were put
abbrev pub entered : ℕ → List Place → ℕ → ℕ → ℕ → ℕ
entered w ps i e old = cond (ltb 0 old) old (cond (holds e i ps) w 0)

-- the entry that the messages below m make
abbrev pub owner_below : Plan → ℕ → ℕ → ℕ → ℕ
owner_below plan m i e = entry_of m (lowest (λ j. holds e i (path_of plan j)) m)

-- a table of all slots and links, each entry as a function says
pub record Table (entry : ℕ → ℕ → ℕ) (table : List ℕ) : Type 0 where
  pub long : length table ≡ table_size
  pub is : (i e : ℕ) → i < most_slots → e < most_links → entry_at table i e ≡ entry i e

-- the message at index i was put as w, and r is the index after it
pub record Entered (row : List ℕ) (i w : ℕ) (old new : List ℕ) (r : ℕ) : Type 0 where
  pub next : r ≡ after_message row i
  pub small : r ≤ i + 4295229441
  pub table : Table (λ s e. entered w (message_at row i) s e (entry_at old s e)) new

-- the messages below m were put, and the next one stands at index j
pub record Below (row : List ℕ) (m j : ℕ) (now : List ℕ) : Type 0 where
  pub index : j ≡ message_index row m
  pub small : j ≤ 131077 + m * 4295229441
  pub table : Table (owner_below (plan_of row) m) now
