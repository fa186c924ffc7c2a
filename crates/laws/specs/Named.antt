-- Which link a capture names (document 02, [7]). Two replays of a good plan have the same crossings before slot d and not in slot d, and
-- whatever is down in the first is down in the second. Of the messages whose crossings differ in slot d the foremost names a link: in the
-- first replay its event there has kind 1, 2 or 3, and the link of that event is whole in the first replay and down in the second.
-- So let the second replay be that of a list which explains a capture, and the first that of some of its cuts: the first slot that differs
-- from the capture says of one more link that the list has cut it by then. With any other kind of event there is no such list.
use Rattle.std.specs.Prelude.{ℕ, ◌≤◌, ◌<◌, ◌≡◌, Bool, true, false, List, length}
use Rattle.scope.specs.Outcome.{gives}
use Rattle.scope.specs.Plan.{Plan}
use Rattle.scope.specs.Rules.{rules}
use Rattle.scope.specs.Slot.{Event}
use Rattle.scope.specs.Cuts.{is_cut}
use Rattle.scope.specs.Cycle.{start, table_of, order_of}
use Rattle.scope.specs.Capture.{has_crossing}
use Rattle.laws.specs.Message.{event_of, crosses}

-- a link that is down stays down
abbrev pub Grows : (ℕ → ℕ → Bool) → Type 0
Grows down = (i j e : ℕ) → i ≤ j → down i e ≡ true → down j e ≡ true

-- whatever is down in the first is down in the second
abbrev pub Within : (ℕ → ℕ → Bool) → (ℕ → ℕ → Bool) → Type 0
Within down other = (i e : ℕ) → down i e ≡ true → other i e ≡ true

-- two events are the same crossing, or neither is one
abbrev pub SameCrossing : Event → Event → Type 0
SameCrossing v w = (e : ℕ) → crosses e v ≡ crosses e w

-- in slot i message m crosses in both replays the same link, or in neither any
abbrev pub Alike : (ℕ → ℕ) → Plan → (ℕ → ℕ → Bool) → (ℕ → ℕ → Bool) → ℕ → ℕ → Type 0
Alike rank plan down other m i =
    SameCrossing (event_of rank down (table_of plan) m i (start plan)) (event_of rank other (table_of plan) m i (start plan))

-- the link of an event is whole in the first replay, where the message waits for it or crosses it, and down in the second
pub record Convicts (down other : ℕ → Bool) (v : Event) : Type 0 where
  pub waits_or_crosses : (0 < v.kind) × (v.kind ≤ 3)
  pub whole : down v.number ≡ false
  pub cut : other v.number ≡ true

-- the foremost message whose crossing differs, in the first slot that has one
abbrev pub Named : Type 0
Named =
    (rank : ℕ → ℕ) (down other : ℕ → ℕ → Bool) (plan : Plan) (d m : ℕ) → rules plan ≡ gives 0 → Grows other → Within down other →
    ((i j : ℕ) → i < d → j < length plan.messages → Alike rank plan down other j i) →
    ((j : ℕ) → j < length plan.messages → rank j < rank m → Alike rank plan down other j d) →
    (Alike rank plan down other m d → ⊥) → Convicts (down d) (other d) (event_of rank down (table_of plan) m d (start plan))

-- of two lists of cuts
abbrev pub NamedUnderCuts : Type 0
NamedUnderCuts =
    (plan : Plan) (cuts others : List ℕ) (d m : ℕ) → rules plan ≡ gives 0 → Within (is_cut plan cuts) (is_cut plan others) →
    ((i j : ℕ) → i < d → j < length plan.messages → Alike (order_of plan) plan (is_cut plan cuts) (is_cut plan others) j i) →
    ((j : ℕ) → j < length plan.messages → order_of plan j < order_of plan m →
    Alike (order_of plan) plan (is_cut plan cuts) (is_cut plan others) j d) →
    (Alike (order_of plan) plan (is_cut plan cuts) (is_cut plan others) m d → ⊥) →
    Convicts (is_cut plan cuts d) (is_cut plan others d) (event_of (order_of plan) (is_cut plan cuts) (table_of plan) m d (start plan))

-- what the row of events has for a crossing is the crossing of the message's event
abbrev pub CrossingInReplay : Type 0
CrossingInReplay =
    (plan : Plan) (cuts : List ℕ) (i e m : ℕ) → i < plan.timeout → m < length plan.messages →
    has_crossing plan cuts i e m ≡ crosses e (event_of (order_of plan) (is_cut plan cuts) (table_of plan) m i (start plan))

-- the number of an event of kind 1, 2 or 3 is a link of the plan, whatever is down
abbrev pub NumberIsLink : Type 0
NumberIsLink =
    (rank : ℕ → ℕ) (down : ℕ → ℕ → Bool) (plan : Plan) (m i : ℕ) → rules plan ≡ gives 0 →
    0 < (event_of rank down (table_of plan) m i (start plan)).kind → (event_of rank down (table_of plan) m i (start plan)).kind ≤ 3 →
    (event_of rank down (table_of plan) m i (start plan)).number < length plan.links
