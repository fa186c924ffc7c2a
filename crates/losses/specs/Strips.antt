-- "a list loses only messages that it both touches and strips": a place is robust if a message that leaves its first path there is in time,
-- with nobody in its way but those that D counts; a pair strips a message of what would help it, a fragile place or such a second path.
use Rattle.std.specs.Prelude.{ℕ, ◌+◌, ◌≤◌, ◌≡◌, Bool, true, false, cond, not, ◌&&◌, ◌||◌, List, [], ◌∷◌, length, leb}
use Rattle.scope.specs.Outcome.{gives}
use Rattle.scope.specs.Plan.{Plan, Place, path_of}
use Rattle.scope.specs.Good.{has}
use Rattle.scope.specs.Rules.{rules}
use Rattle.scope.specs.Slot.{at_target}
use Rattle.scope.specs.Cuts.{cuts_link}
use Rattle.scope.specs.Cycle.{order_of, arrivals}
use Rattle.scope.specs.Spare.{delay, no_second}
use Rattle.sets.specs.Sums.{sum_of, one_if}
use Rattle.losses.specs.Touch.{touches}
use Rattle.losses.specs.Harmed.{hers, hers_on, is_hit, is_touched, stands, away, CountsLosses}

-- a place of message m is robust if it has a second path and its slot plus D is at most t: its slack is 0 or more
abbrev pub is_robust : Plan → ℕ → Place → Bool
is_robust plan m p = not (no_second p.second) && leb (p.slot + delay (order_of plan) plan.messages m p.second) plan.timeout

-- else it is fragile: the fragile places of message m's path
unfoldable pub fragile_of : Plan → ℕ → List Place → List Place
fragile_of plan m [] = []
fragile_of plan m (p ∷ ps) = cond (is_robust plan m p) (fragile_of plan m ps) (p ∷ fragile_of plan m ps)

-- of message m and those after it
unfoldable pub fragile_paths : Plan → ℕ → List (List Place) → List (List Place)
fragile_paths plan m [] = []
fragile_paths plan m (path ∷ paths) = fragile_of plan m path ∷ fragile_paths plan (m + 1) paths

-- the plan with its fragile places alone
abbrev pub fragile_plan : Plan → Plan
fragile_plan plan =
    record {
      vertices = plan.vertices;
      timeout = plan.timeout;
      links = plan.links;
      messages = fragile_paths plan 0 plan.messages;
    }

-- a pair that names link d cuts one of these links
unfoldable pub cuts_one_of : Plan → ℕ → List ℕ → Bool
cuts_one_of plan d [] = false
cuts_one_of plan d (e ∷ es) = cuts_link plan d e || cuts_one_of plan d es

-- link e lies on the second path of a robust one of these places of message m
unfoldable pub on_robust : Plan → ℕ → ℕ → List Place → Bool
on_robust plan m e [] = false
on_robust plan m e (p ∷ ps) = (is_robust plan m p && has e p.second) || on_robust plan m e ps

-- a pair cuts a link of the second path of a robust one
unfoldable pub through_robust : Plan → ℕ → ℕ → List Place → Bool
through_robust plan m d [] = false
through_robust plan m d (p ∷ ps) = (is_robust plan m p && cuts_one_of plan d p.second) || through_robust plan m d ps

-- how often a cut of link e from slot s on strips message m: of each fragile place on it, and once of second paths
abbrev pub strips_on : Plan → ℕ → ℕ → ℕ → ℕ
strips_on plan m s e = hers_on (fragile_plan plan) m s e + one_if (on_robust plan m e (path_of plan m))

-- how often the pair (s, e) does: of each fragile place that it touches, and once of second paths, in whatever slot
abbrev pub strips : Plan → ℕ → ℕ → ℕ → ℕ
strips plan m s e = hers (fragile_plan plan) m s e + one_if (through_robust plan m e (path_of plan m))

-- and all messages
abbrev pub bares : Plan → ℕ → ℕ → ℕ
bares plan s e =
    touches (fragile_plan plan) s e + sum_of (λ m. one_if (through_robust plan m e (path_of plan m))) (length plan.messages)

-- a pair of the list strips message m
abbrev pub is_stripped : Plan → List ℕ → ℕ → Bool
is_stripped plan = is_hit (strips plan)

-- how many messages that the list strips are not at their targets at time s
abbrev pub bared : Plan → List ℕ → ℕ → ℕ
bared plan cuts s = away plan cuts s (is_stripped plan cuts)

-- how many that it touches and strips
abbrev pub lost : Plan → List ℕ → ℕ → ℕ
lost plan cuts s = away plan cuts s (λ m. is_touched plan cuts m && is_stripped plan cuts m)

-- a list loses only messages that it both touches and strips
abbrev pub LosesOnly : Type 0
LosesOnly =
    (plan : Plan) (cuts : List ℕ) (m : ℕ) → rules plan ≡ gives 0 → at_target (stands plan cuts plan.timeout m) ≡ false →
    (is_touched plan cuts m ≡ true) × (is_stripped plan cuts m ≡ true)

-- so no more, counted as a set and from any time on
abbrev pub LosesNoMoreThanBoth : Type 0
LosesNoMoreThanBoth =
    (plan : Plan) (cuts : List ℕ) (s : ℕ) → rules plan ≡ gives 0 → s ≤ plan.timeout →
    length plan.messages ≤ arrivals plan cuts + lost plan cuts s

-- strips count losses, as touches do
abbrev pub StripsCount : Type 0
StripsCount = (plan : Plan) → rules plan ≡ gives 0 → CountsLosses plan (strips plan) (bares plan)
