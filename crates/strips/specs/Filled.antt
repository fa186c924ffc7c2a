-- What the tables of what strips a message hold, and what is counted on the way: a(e) and b(m, e) of each link for one message.
use Rattle.std.specs.Prelude.{ℕ, ◌+◌, ◌<◌, ◌≤◌, ◌^◌, ◌≡◌, Bool, cond, not, true, ◌&&◌, List, [], ◌∷◌, length, get_or, leb, eqb}
use Rattle.scope.specs.Limits.{most_links, most_messages, table_size, seconds_size}
use Rattle.scope.specs.Plan.{Plan, Place, plan_of, path_of, place_at, place_size, message_at, after_message}
use Rattle.scope.specs.Good.{are_links}
use Rattle.scope.specs.Cycle.{order_of, table_of}
use Rattle.scope.specs.Spare.{entries_of, entries, has_second_through, lower_through, no_second}
use Rattle.table.specs.Table.{Table, entry_at, entered}
use Rattle.plan.specs.Answers.{GoodRow}
use Rattle.bound.specs.Seconds.{second_in, Seconds}
use Rattle.losses.specs.Strips.{fragile_of, fragile_plan, on_robust}

-- the tables may be filled: nothing is marked
pub record MayFill (row fragile seconds : List ℕ) : Type 0 where
  pub good : GoodRow row
  pub long : length fragile ≡ table_size
  pub bytes : length seconds ≡ seconds_size
  pub none : (k : ℕ) → get_or seconds k 0 ≡ 0

-- the table of the fragile places, and the links that lie on the second path of a robust place of a message
pub record Filled (plan : Plan) (fragile seconds : List ℕ) : Type 0 where
  pub table : Table (table_of (fragile_plan plan)) fragile
  pub bytes : Seconds (λ m e. on_robust plan m e (path_of plan m)) seconds

-- the bytes of message m that pass a test are marked, and no others are changed
pub record Put (m : ℕ) (test : ℕ → Bool) (old new : List ℕ) : Type 0 where
  pub long : length new ≡ seconds_size
  pub is : (e j : ℕ) → e < most_links → j < most_messages → second_in new e j ≡ cond (eqb j m && test e) 1 (second_in old e j)

-- a number for each link: so much more than it was
pub record More (more : ℕ → ℕ) (old new : List ℕ) : Type 0 where
  pub long : length new ≡ most_links
  pub is : (e : ℕ) → e < most_links → get_or new e 0 ≡ get_or old e 0 + more e

-- with so much more it stays a number of 16 bits
pub record MayMore (more : ℕ → ℕ) (old : List ℕ) : Type 0 where
  pub long : length old ≡ most_links
  pub few : (e : ℕ) → e < most_links → get_or old e 0 + more e < 65536

-- the message at index i may be counted as message m
pub record MayCount (row : List ℕ) (i m : ℕ) (counts ways : List ℕ) : Type 0 where
  pub near : i < 2 ^ 60
  pub message : m < most_messages
  pub numbers : MayMore (λ e. entries_of e (message_at row i)) counts
  pub bytes : length ways ≡ seconds_size

-- it was counted, and r is the index after it
pub record Counted (row : List ℕ) (i m : ℕ) (counts counts' ways ways' : List ℕ) (r : ℕ) : Type 0 where
  pub next : r ≡ after_message row i
  pub small : r ≤ i + 4295229441
  pub numbers : More (λ e. entries_of e (message_at row i)) counts counts'
  pub bytes : Put m (λ e. has_second_through e (message_at row i)) ways ways'

-- all messages may be counted: nothing is
pub record MayCountAll (row counts ways : List ℕ) : Type 0 where
  pub good : GoodRow row
  pub numbers : length counts ≡ most_links
  pub clear : (e : ℕ) → get_or counts e 0 ≡ 0
  pub bytes : length ways ≡ seconds_size
  pub none : (k : ℕ) → get_or ways k 0 ≡ 0

-- who has a second path through which link
abbrev pub Ways : Plan → List ℕ → Type 0
Ways plan ways = Seconds (λ m e. has_second_through e (path_of plan m)) ways

-- a(e) + b(m, e) of each link
pub record Costs (plan : Plan) (m : ℕ) (counts : List ℕ) : Type 0 where
  pub long : length counts ≡ most_links
  pub is : (e : ℕ) → e < most_links → get_or counts e 0 ≡ entries e plan.messages + lower_through (order_of plan) m e 0 plan.messages

-- all messages were counted
pub record CountedAll (plan : Plan) (counts ways : List ℕ) : Type 0 where
  pub numbers : Costs plan 0 counts
  pub bytes : Ways plan ways

-- D of these links, where each costs 1 and its number
unfoldable pub cost_of : List ℕ → List ℕ → ℕ
cost_of counts [] = 0
cost_of counts (e ∷ es) = 1 + get_or counts e 0 + cost_of counts es

-- a place has a second path, and its slot and that cost are at most t
abbrev pub in_time : List ℕ → ℕ → Place → Bool
in_time counts t p = not (no_second p.second) && leb (p.slot + cost_of counts p.second) t

-- the second paths of these places have links of the plan
abbrev pub SecondsAreLinks : Plan → List Place → Type 0
SecondsAreLinks plan [] = Unit {0}
SecondsAreLinks plan (p ∷ ps) = (are_links plan p.second ≡ true) × SecondsAreLinks plan ps

-- what strips message m of these places may be put
pub record MayStrip (plan : Plan) (m : ℕ) (ps : List Place) (counts fragile seconds : List ℕ) : Type 0 where
  pub few : length plan.links ≤ most_links
  pub message : m < most_messages
  pub links : SecondsAreLinks plan ps
  pub numbers : Costs plan m counts
  pub long : length fragile ≡ table_size
  pub bytes : length seconds ≡ seconds_size

-- it was put
pub record Stripped (plan : Plan) (m : ℕ) (ps : List Place) (old new old' new' : List ℕ) : Type 0 where
  pub table : Table (λ s e. entered (m + 1) (fragile_of plan m ps) s e (entry_at old s e)) new
  pub bytes : Put m (λ e. on_robust plan m e ps) old' new'

-- of one place at index i, and r is the index of the next; of a message at index i, and r is the index after it
pub record StrippedPlace (row : List ℕ) (i m : ℕ) (old new old' new' : List ℕ) (r : ℕ) : Type 0 where
  pub next : r ≡ i + place_size row i
  pub near : r ≤ i + 65540
  pub stripped : Stripped (plan_of row) m (place_at row i ∷ []) old new old' new'

pub record StrippedMessage (row : List ℕ) (i m : ℕ) (old new old' new' : List ℕ) (r : ℕ) : Type 0 where
  pub next : r ≡ after_message row i
  pub small : r ≤ i + 4295229441
  pub stripped : Stripped (plan_of row) m (message_at row i) old new old' new'

-- of all messages: a(e) is counted, and nothing is put
pub record MayStripAll (row ways counts fragile seconds : List ℕ) : Type 0 where
  pub good : GoodRow row
  pub counted : CountedAll (plan_of row) counts ways
  pub table : Table (λ s e. 0) fragile
  pub bytes : length seconds ≡ seconds_size
  pub none : (k : ℕ) → get_or seconds k 0 ≡ 0
