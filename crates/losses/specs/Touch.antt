-- "a list loses no more messages than it touches": a pair touches the messages that have a link which it cuts before them in its slot or later.
use Rattle.std.specs.Prelude.{ℕ, ◌+◌, ◌-◌, ◌*◌, ◌≤◌, ◌≡◌, cond, List, length, ltb}
use Rattle.scope.specs.Outcome.{gives}
use Rattle.scope.specs.Plan.{Plan}
use Rattle.scope.specs.Rules.{rules}
use Rattle.scope.specs.Cables.{other_way}
use Rattle.scope.specs.Cuts.{cut_slot, cut_link, cuts_link}
use Rattle.scope.specs.Cycle.{table_of, arrivals}
use Rattle.sets.specs.Sums.{sum_of, one_if}

-- the weight of the first n pairs of a list
abbrev pub harm : (ℕ → ℕ → ℕ) → List ℕ → ℕ → ℕ
harm weight cuts n = sum_of (λ j. weight (cut_slot cuts j) (cut_link cuts j)) n

-- how many messages the table gives link e in the n slots from slot s on: a good table gives each slot and link to one message at most
abbrev pub touched_in : (ℕ → ℕ → ℕ) → ℕ → ℕ → ℕ → ℕ
touched_in owner n s e = sum_of (λ i. one_if (ltb 0 (owner (s + i) e))) n

-- the sum over the links that a pair with link d cuts
abbrev pub over_cut : Plan → ℕ → (ℕ → ℕ) → ℕ
over_cut plan d count = sum_of (λ e. cond (cuts_link plan d e) (count e) 0) (length plan.links)

-- at most these, where d is the name of its cable: those of link d and of its other way
abbrev pub on_cable : Plan → ℕ → (ℕ → ℕ) → ℕ
on_cable plan d count = count d + cond (ltb d (other_way plan d)) (count (other_way plan d)) 0

-- a pair touches those of its slot and every later one of the plan
abbrev pub touches : Plan → ℕ → ℕ → ℕ
touches plan s d = over_cut plan d (touched_in (table_of plan) (plan.timeout - s) s)

-- a list loses no more messages than it touches
abbrev pub LosesNoMore : Type 0
LosesNoMore =
    (plan : Plan) (cuts : List ℕ) (n : ℕ) → rules plan ≡ gives 0 → length cuts ≡ 2 * n →
    length plan.messages ≤ arrivals plan cuts + harm (touches plan) cuts n
