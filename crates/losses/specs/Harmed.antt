-- Losses counted as a set and from a time on: what a list can still lose at time s are the messages that its pairs hit and that are not at
-- their targets, and those that later pairs hit. Over any way to hit a message; touching it is one.
use Rattle.std.specs.Prelude.{ℕ, ◌+◌, ◌-◌, ◌*◌, ◌≤◌, ◌≡◌, Bool, true, false, not, ◌&&◌, List, ◌++◌, length, ltb, eqb}
use Rattle.scope.specs.Outcome.{gives}
use Rattle.scope.specs.Plan.{Plan}
use Rattle.scope.specs.Rules.{rules}
use Rattle.scope.specs.Slot.{Position, at_target}
use Rattle.scope.specs.Cuts.{pairs, is_cut}
use Rattle.scope.specs.Cycle.{order_of, table_of, start, positions, arrivals}
use Rattle.laws.specs.Message.{position_of}
use Rattle.order.specs.Search.{NotBefore}
use Rattle.sets.specs.Sums.{sum_of, one_if}
use Rattle.losses.specs.Touch.{harm, over_cut, touches}

-- in how many of n slots from slot s on the table gives link e to message m
abbrev pub hers_in : (ℕ → ℕ → ℕ) → ℕ → ℕ → ℕ → ℕ → ℕ
hers_in owner n m s e = sum_of (λ i. one_if (eqb (owner (s + i) e) (m + 1))) n

-- in the plan's slots
abbrev pub hers_on : Plan → ℕ → ℕ → ℕ → ℕ
hers_on plan m s e = hers_in (table_of plan) (plan.timeout - s) m s e

-- and the links that a pair with link d cuts
abbrev pub hers : Plan → ℕ → ℕ → ℕ → ℕ
hers plan m s d = over_cut plan d (hers_on plan m s)

-- a pair of the list hits message m, where `hits` says how often the pair (s, e) hits it
abbrev pub is_hit : (ℕ → ℕ → ℕ → ℕ) → List ℕ → ℕ → Bool
is_hit hits cuts m = ltb 0 (harm (hits m) cuts (pairs cuts))

-- a pair of the list touches message m
abbrev pub is_touched : Plan → List ℕ → ℕ → Bool
is_touched plan = is_hit (hers plan)

-- where message m stands at time s
abbrev pub stands : Plan → List ℕ → ℕ → ℕ → Position
stands plan cuts s m = position_of m (positions (order_of plan) (is_cut plan cuts) (table_of plan) 0 s (start plan))

-- how many messages of some kind are not at their targets at time s
abbrev pub away : Plan → List ℕ → ℕ → (ℕ → Bool) → ℕ
away plan cuts s kind = sum_of (λ m. one_if (kind m && not (at_target (stands plan cuts s m)))) (length plan.messages)

-- of those that the list touches
abbrev pub harmed : Plan → List ℕ → ℕ → ℕ
harmed plan cuts s = away plan cuts s (is_touched plan cuts)

-- a weight counts losses: a pair weighs at least what it hits, and a message that no pair hits is at its target at the end
pub record CountsLosses (plan : Plan) (hits : ℕ → ℕ → ℕ → ℕ) (weight : ℕ → ℕ → ℕ) : Type 0 where
  pub all : (s e : ℕ) → sum_of (λ m. hits m s e) (length plan.messages) ≤ weight s e
  pub none : (cuts : List ℕ) (m : ℕ) → is_hit hits cuts m ≡ false → at_target (stands plan cuts plan.timeout m) ≡ true

-- then a list that goes on from slot s or later loses no more messages than its first part hits that are away at time s, and its later
-- pairs weigh
abbrev pub LosesNoMoreFrom : Type 0
LosesNoMoreFrom =
    (plan : Plan) (hits : ℕ → ℕ → ℕ → ℕ) (weight : ℕ → ℕ → ℕ) → CountsLosses plan hits weight → (pre x : List ℕ) (d n s : ℕ) →
    s ≤ plan.timeout → length pre ≡ 2 * d → length x ≡ 2 * n → NotBefore s x n →
    length plan.messages ≤ arrivals plan (pre ++ x) + (away plan pre s (is_hit hits pre) + harm weight x n)

-- touches count losses
abbrev pub TouchesCount : Type 0
TouchesCount = (plan : Plan) → rules plan ≡ gives 0 → CountsLosses plan (hers plan) (touches plan)
