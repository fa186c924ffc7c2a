-- "slack 0 or more, with the second path whole until arrival, means arrival in time": a message that leaves its first path in slot s is at
-- its target at time s + D. Over any function that says what is down and any order of the messages, and then for a list of cuts.
use Rattle.std.specs.Prelude.{ℕ, ◌+◌, ◌≤◌, ◌<◌, ◌≡◌, Bool, true, false, List, [], ◌∷◌, length, drop, pos}
use Rattle.scope.specs.Outcome.{gives}
use Rattle.scope.specs.Plan.{Plan, Place, path_of, place_of}
use Rattle.scope.specs.Good.{has, slots_rise}
use Rattle.scope.specs.Rules.{rules}
use Rattle.scope.specs.Slot.{Position, on_first, on_second, at_target, turn}
use Rattle.scope.specs.Cuts.{is_cut}
use Rattle.scope.specs.Cycle.{start, table_of, order_of}
use Rattle.scope.specs.Spare.{delay, slack_of, no_second}
use Rattle.laws.specs.Message.{position_of, has_turned, stands_at}
use Rattle.laws.specs.Links.{NoLinkTwice}

module _ (rank : ℕ → ℕ) (down : ℕ → ℕ → Bool) (plan : Plan) (m : ℕ) where
  -- where message m stands at time i of the plan's cycle
  abbrev pub standing : ℕ → Position
  standing i = stands_at rank down (table_of plan) m i (start plan)

  -- after its turn in slot s message m has this second path before it
  abbrev pub OnSecondPath : ℕ → List ℕ → Type 0
  OnSecondPath s path = turn (down s) (standing s) ≡ on_second path

  -- no link of this path is down from slot s until message m arrives
  abbrev pub WholeUntilArrival : ℕ → List ℕ → Type 0
  WholeUntilArrival s path =
      (i : ℕ) → s ≤ i → i < plan.timeout → at_target (standing i) ≡ false → (e : ℕ) → has e path ≡ true → down i e ≡ false

  -- message m leaves its first path at place p in slot s: it stands there, that link is down, and there is a second path
  pub record Leaves (p s : ℕ) : Type 0 where
    pub place : p < length (path_of plan m)
    pub stands : standing s ≡ on_first (drop p (path_of plan m))
    pub cut : down s (place_of plan m p).link ≡ true
    pub second : no_second (place_of plan m p).second ≡ false

-- it has arrived within D slots, if no second path has a link twice
abbrev pub ArrivesWithinD : Type 0
ArrivesWithinD =
    (rank : ℕ → ℕ) (down : ℕ → ℕ → Bool) (plan : Plan) (m s : ℕ) (path : List ℕ) → ((k : ℕ) → NoLinkTwice (path_of plan k)) →
    OnSecondPath rank down plan m s path → WholeUntilArrival rank down plan m s path →
    s + delay rank plan.messages m path ≤ plan.timeout →
    at_target (standing rank down plan m (s + delay rank plan.messages m path)) ≡ true

-- so in a good plan, from the place where it leaves its first path
abbrev pub ArrivesFromPlace : Type 0
ArrivesFromPlace =
    (rank : ℕ → ℕ) (down : ℕ → ℕ → Bool) (plan : Plan) (m p s : ℕ) → rules plan ≡ gives 0 → Leaves rank down plan m p s →
    WholeUntilArrival rank down plan m s (place_of plan m p).second →
    s + delay rank plan.messages m (place_of plan m p).second ≤ plan.timeout →
    at_target (standing rank down plan m (s + delay rank plan.messages m (place_of plan m p).second)) ≡ true

-- a message before a place of its first path past that place's slot has no second path there, and the link was down in that slot
abbrev pub Stranded : Type 0
Stranded =
    (rank : ℕ → ℕ) (down : ℕ → ℕ → Bool) (owner : ℕ → ℕ → ℕ) (t m s : ℕ) (path : List Place) (ps : List Position) →
    position_of m ps ≡ on_first path → slots_rise t 0 path ≡ true → (q : Place) (qs : List Place) →
    stands_at rank down owner m s ps ≡ on_first (q ∷ qs) → q.slot < s → (q.second ≡ []) × (down q.slot q.link ≡ true)

-- so a message that can turn at a place is not there later than in its slot
abbrev pub TurnsInTime : Type 0
TurnsInTime =
    (rank : ℕ → ℕ) (down : ℕ → ℕ → Bool) (owner : ℕ → ℕ → ℕ) (t m s : ℕ) (path : List Place) (ps : List Position) →
    position_of m ps ≡ on_first path → slots_rise t 0 path ≡ true → (q : Place) (qs : List Place) →
    stands_at rank down owner m s ps ≡ on_first (q ∷ qs) → no_second q.second ≡ false → s ≤ q.slot

abbrev pub LeavesInTime : Type 0
LeavesInTime =
    (rank : ℕ → ℕ) (down : ℕ → ℕ → Bool) (plan : Plan) (m p s : ℕ) → rules plan ≡ gives 0 → Leaves rank down plan m p s →
    s ≤ (place_of plan m p).slot

-- whoever turns to a second path leaves its first path at a place, and it is the second path of that place
abbrev pub LeavesSomewhere : Type 0
LeavesSomewhere =
    (rank : ℕ → ℕ) (down : ℕ → ℕ → Bool) (plan : Plan) (m s : ℕ) (path : List ℕ) → has_turned (standing rank down plan m s) ≡ false →
    OnSecondPath rank down plan m s path → (p : ℕ) × Leaves rank down plan m p s × ((place_of plan m p).second ≡ path)

-- so whoever stands on a second path left its first path at a place, in an earlier slot
abbrev pub HasLeft : Type 0
HasLeft =
    (rank : ℕ → ℕ) (down : ℕ → ℕ → Bool) (plan : Plan) (m i : ℕ) → has_turned (standing rank down plan m i) ≡ true →
    (p : ℕ) × (s : ℕ) × (s < i) × Leaves rank down plan m p s

-- "slack 0 or more, with the second path whole until arrival, means arrival in time"
abbrev pub SlackMeansArrival : Type 0
SlackMeansArrival =
    (rank : ℕ → ℕ) (down : ℕ → ℕ → Bool) (plan : Plan) (m p s n : ℕ) → rules plan ≡ gives 0 → Leaves rank down plan m p s →
    WholeUntilArrival rank down plan m s (place_of plan m p).second → slack_of rank plan m (place_of plan m p) ≡ pos n →
    at_target (standing rank down plan m plan.timeout) ≡ true

-- with a list of cuts, and the lower number first
abbrev pub ArrivesUnderCuts : Type 0
ArrivesUnderCuts =
    (plan : Plan) (cuts : List ℕ) (m p s : ℕ) → rules plan ≡ gives 0 → Leaves (order_of plan) (is_cut plan cuts) plan m p s →
    WholeUntilArrival (order_of plan) (is_cut plan cuts) plan m s (place_of plan m p).second →
    s + delay (order_of plan) plan.messages m (place_of plan m p).second ≤ plan.timeout →
    at_target (standing (order_of plan) (is_cut plan cuts) plan m (s + delay (order_of plan) plan.messages m (place_of plan m p).second)) ≡ true

abbrev pub SlackUnderCuts : Type 0
SlackUnderCuts =
    (plan : Plan) (cuts : List ℕ) (m p s n : ℕ) → rules plan ≡ gives 0 → Leaves (order_of plan) (is_cut plan cuts) plan m p s →
    WholeUntilArrival (order_of plan) (is_cut plan cuts) plan m s (place_of plan m p).second →
    slack_of (order_of plan) plan m (place_of plan m p) ≡ pos n →
    at_target (standing (order_of plan) (is_cut plan cuts) plan m plan.timeout) ≡ true
