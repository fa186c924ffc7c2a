-- "if no link of a message's first path is cut at or before its slot there, that message's events are those of the replay without cuts,
-- whatever else is cut": over any function that says what is down, and then for a good plan and a list of cuts.
use Rattle.std.specs.Prelude.{ℕ, ◌+◌, ◌*◌, ◌≤◌, ◌<◌, ◌≡◌, Bool, true, false, List, [], ◌∷◌, length, get_or}
use Rattle.scope.specs.Outcome.{gives}
use Rattle.scope.specs.Plan.{Plan, Place, path_of}
use Rattle.scope.specs.Good.{slots_rise}
use Rattle.scope.specs.Rules.{rules}
use Rattle.scope.specs.Slot.{Position, on_first, at_target}
use Rattle.scope.specs.Cuts.{pairs, cut_slot, cut_link, cuts_link}
use Rattle.scope.specs.Cycle.{events, event_row, arrivals, positions, arrived, start}
use Rattle.laws.specs.Message.{position_of, stands_at, event_of}

-- without cuts
abbrev pub nothing_down : ℕ → ℕ → Bool
nothing_down i e = false

-- no link of a first path is down at or before its slot there
abbrev pub WholeInTime : (ℕ → ℕ → Bool) → List Place → Type 0
WholeInTime down [] = Unit {0}
WholeInTime down (p ∷ ps) = ((i : ℕ) → i ≤ p.slot → down i p.link ≡ false) × WholeInTime down ps

-- "that message's events are those of the replay without cuts"
abbrev pub Untouched : Type 0
Untouched =
    (rank : ℕ → ℕ) (down : ℕ → ℕ → Bool) (owner : ℕ → ℕ → ℕ) (t m : ℕ) (path : List Place) (ps : List Position) →
    position_of m ps ≡ on_first path → slots_rise t 0 path ≡ true → WholeInTime down path →
    (i : ℕ) → event_of rank down owner m i ps ≡ event_of rank nothing_down owner m i ps

-- and it is at its target at time t
abbrev pub UntouchedArrives : Type 0
UntouchedArrives =
    (rank : ℕ → ℕ) (down : ℕ → ℕ → Bool) (owner : ℕ → ℕ → ℕ) (t m : ℕ) (path : List Place) (ps : List Position) →
    position_of m ps ≡ on_first path → slots_rise t 0 path ≡ true → WholeInTime down path →
    at_target (stands_at rank down owner m t ps) ≡ true

-- the event of message m in slot i is the same in two rows of events of so many messages, "kind then number"
pub record SameEvent (messages m i : ℕ) (row other : List ℕ) : Type 0 where
  pub kind : get_or row (2 * (i * messages + m)) 0 ≡ get_or other (2 * (i * messages + m)) 0
  pub number : get_or row (2 * (i * messages + m) + 1) 0 ≡ get_or other (2 * (i * messages + m) + 1) 0

-- as a statement on the row of events
abbrev pub UntouchedRow : Type 0
UntouchedRow =
    (rank : ℕ → ℕ) (down : ℕ → ℕ → Bool) (owner : ℕ → ℕ → ℕ) (t m : ℕ) (path : List Place) (ps : List Position) →
    position_of m ps ≡ on_first path → slots_rise t 0 path ≡ true → WholeInTime down path → m < length ps → (i n : ℕ) → i < n →
    SameEvent (length ps) m i (events rank down owner 0 n ps) (events rank nothing_down owner 0 n ps)

-- no pair of a list cuts a link of a first path at or before its slot there
abbrev pub NotCutInTime : Plan → List ℕ → List Place → Type 0
NotCutInTime plan cuts [] = Unit {0}
NotCutInTime plan cuts (p ∷ ps) =
    ((j : ℕ) → j < pairs cuts → cuts_link plan (cut_link cuts j) p.link ≡ true → p.slot < cut_slot cuts j) × NotCutInTime plan cuts ps

abbrev pub UntouchedByCuts : Type 0
UntouchedByCuts =
    (plan : Plan) (cuts : List ℕ) (m : ℕ) → rules plan ≡ gives 0 → m < length plan.messages → NotCutInTime plan cuts (path_of plan m) →
    (i : ℕ) → i < plan.timeout → SameEvent (length plan.messages) m i (event_row plan cuts) (event_row plan [])

-- in a replay without cuts all messages arrive by t, if their slots rise below t
abbrev pub AllArrive : Type 0
AllArrive =
    (rank : ℕ → ℕ) (owner : ℕ → ℕ → ℕ) (plan : Plan) → ((m : ℕ) → slots_rise plan.timeout 0 (path_of plan m) ≡ true) →
    arrived (positions rank nothing_down owner 0 plan.timeout (start plan)) ≡ length plan.messages

-- so of a good plan
abbrev pub AllArriveWithoutCuts : Type 0
AllArriveWithoutCuts = (plan : Plan) → rules plan ≡ gives 0 → arrivals plan [] ≡ length plan.messages
