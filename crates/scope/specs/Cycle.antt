-- The events of a cycle: every message in every slot, over any function that says which link is down in which slot, any table and any
-- order of the messages. "Message a comes before message b if its number is lower" is the order `by_number`, which every plan has.
use Rattle.std.specs.Prelude.{ℕ, zero, suc, ◌+◌, Bool, cond, ◌&&◌, List, [], ◌∷◌, ◌++◌, map, length, ltb, eqb}
use Rattle.scope.specs.Lowest.{lowest}
use Rattle.scope.specs.Plan.{Plan, path_of}
use Rattle.scope.specs.Good.{holds}
use Rattle.scope.specs.Slot.{Position, on_first, Moved, at_target, turn, tries, next_second, act}
use Rattle.scope.specs.Cuts.{is_cut}

-- the rank of a message: who has the lower rank goes first
abbrev pub by_number : ℕ → ℕ
by_number m = m

-- the order of a plan's messages
abbrev pub order_of : Plan → ℕ → ℕ
order_of plan = by_number

-- of message m and those that try link e, the one that goes first: `tried` are the links tried, plus one, by message j and those after it
unfoldable pub foremost : (ℕ → ℕ) → ℕ → ℕ → ℕ → List ℕ → ℕ
foremost rank e m j [] = m
foremost rank e m j (w ∷ tried) =
    foremost rank e (cond (eqb w (e + 1) && ltb (rank j) (rank m)) j m) (j + 1) tried

-- "the table gives that link and slot to a message": that message plus one, or 0 where it gives them to nobody
abbrev pub entry_of : ℕ → ℕ → ℕ
entry_of messages m = cond (ltb m messages) (m + 1) 0

unfoldable pub table_of : Plan → ℕ → ℕ → ℕ
table_of plan i e = entry_of (length plan.messages) (lowest (λ m. holds e i (path_of plan m)) (length plan.messages))

-- message m and those after it in slot i: they have turned, `tried` is what all messages try, and `owner` the table's entries in this slot
unfoldable pub moves : (ℕ → ℕ) → (ℕ → Bool) → (ℕ → ℕ) → ℕ → List ℕ → ℕ → List Position → List Moved
moves rank down owner i tried m [] = []
moves rank down owner i tried m (p ∷ ps) =
    let e = next_second p in
    let first = foremost rank e m 0 tried in
    act down i (owner e) (ltb (rank first) (rank m)) first p ∷ moves rank down owner i tried (m + 1) ps

-- one slot: all turn, and then each acts on what all try. It looks at the positions before the slot alone
unfoldable pub slot : (ℕ → ℕ) → (ℕ → ℕ → Bool) → (ℕ → ℕ → ℕ) → ℕ → List Position → List Moved
slot rank down owner i ps =
    let ts = map (turn (down i)) ps in
    moves rank (down i) (owner i) i (map (tries (down i)) ts) 0 ts

abbrev pub nexts : List Moved → List Position
nexts ms = map (λ m. m.next) ms

-- "kind then number", message by message
unfoldable pub numbers : List Moved → List ℕ
numbers [] = []
numbers (m ∷ ms) = m.event.kind ∷ m.event.number ∷ numbers ms

module _ (rank : ℕ → ℕ) (down : ℕ → ℕ → Bool) (owner : ℕ → ℕ → ℕ) where
  -- the positions after n slots from slot i on
  unfoldable pub positions : ℕ → ℕ → List Position → List Position
  positions i zero ps = ps
  positions i (suc n) ps = positions (i + 1) n (nexts (slot rank down owner i ps))

  -- the row of events of n slots from slot i on: "slot by slot, message by message"
  unfoldable pub events : ℕ → ℕ → List Position → List ℕ
  events i zero ps = []
  events i (suc n) ps = numbers (slot rank down owner i ps) ++ events (i + 1) n (nexts (slot rank down owner i ps))

-- how many messages are at their targets
unfoldable pub arrived : List Position → ℕ
arrived [] = 0
arrived (p ∷ ps) = cond (at_target p) 1 0 + arrived ps

-- "A message starts where its first path begins"
abbrev pub start : Plan → List Position
start plan = map on_first plan.messages

-- "The replay's answer is the number of messages at their targets at time t, with the row of events"
unfoldable pub arrivals : Plan → List ℕ → ℕ
arrivals plan cuts = arrived (positions (order_of plan) (is_cut plan cuts) (table_of plan) 0 plan.timeout (start plan))

unfoldable pub event_row : Plan → List ℕ → List ℕ
event_row plan cuts = events (order_of plan) (is_cut plan cuts) (table_of plan) 0 plan.timeout (start plan)
