-- All answers of a plan for one k: for every l from 0 to M seven numbers, 0 where the plan is resistant, else one more than the pairs of the
-- first failing list, then that list's numbers, and zeros.
use Rattle.std.specs.Prelude.{ℕ, ◌+◌, ◌-◌, ◌*◌, ◌≤◌, ◌≡◌, ◌⊎◌, cond, List, ◌∷◌, ◌++◌, length, take, drop, replicate, ltb}
use Rattle.scope.specs.Outcome.{Answer}
use Rattle.scope.specs.Outcome.{Outcome, gives, refused, refuse, outcome_of, and_then, room}
use Rattle.scope.specs.Limits.{most_cuts}
use Rattle.scope.specs.Plan.{Plan, plan_of}
use Rattle.scope.specs.Cuts.{pairs}
use Rattle.scope.specs.Verdict.{Resistant, FirstFailing}
use Rattle.scope.specs.Questions.{judge}

-- the numbers of one answer: its head, and those of its list
abbrev pub answer_size : ℕ
answer_size = 7

abbrev pub resistant : List ℕ
resistant = replicate answer_size 0

abbrev pub failing : List ℕ → List ℕ
failing cuts = (pairs cuts + 1) ∷ (cuts ++ replicate (2 * most_cuts - length cuts) 0)

pub record SaysResistant (plan : Plan) (k l : ℕ) (seven : List ℕ) : Type 0 where
  pub resists : Resistant plan k l
  pub is : seven ≡ resistant

pub record SaysFailing (plan : Plan) (k l : ℕ) (seven : List ℕ) : Type 0 where
  pub cuts : List ℕ
  pub first : FirstFailing plan k l cuts
  pub is : seven ≡ failing cuts

-- the seven numbers for l say the verdict for k and l
abbrev pub Says : Plan → ℕ → ℕ → List ℕ → Type 0
Says plan k l seven = SaysResistant plan k l seven ⊎ SaysFailing plan k l seven

-- the seven numbers for l
abbrev pub seven : ℕ → List ℕ → List ℕ
seven l out = take answer_size (drop (answer_size * l) out)

-- how many numbers there are
abbrev pub needed : Plan → ℕ
needed plan = answer_size * (length plan.messages + 1)

-- refusals 1 to 10 and 14 to 19; 11, "k above 3"; 13
unfoldable pub may_answer : List ℕ → ℕ → ℕ → Outcome
may_answer row k lent = and_then (judge row) (λ _. cond (ltb most_cuts k) (refuse 11 0) (room (needed (plan_of row)) lent))

-- every answer is there, and the rest is as it was
pub record AllSaid (plan : Plan) (k : ℕ) (entry exit : List ℕ) : Type 0 where
  pub each : (l : ℕ) → l ≤ length plan.messages → Says plan k l (seven l exit)
  pub rest : drop (needed plan) exit ≡ drop (needed plan) entry

abbrev pub After : Outcome → Plan → ℕ → List ℕ → List ℕ → Type 0
After (gives n) plan k entry exit = AllSaid plan k entry exit
After (refused r) plan k entry exit = exit ≡ entry

pub record AnswersAll (row : List ℕ) (k : ℕ) (entry exit : List ℕ) (r : Answer) : Type 0 where
  pub answer : outcome_of r ≡ may_answer row k (length entry)
  pub buffer : After (may_answer row k (length entry)) (plan_of row) k entry exit
