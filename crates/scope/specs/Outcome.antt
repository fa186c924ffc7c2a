-- "A refusal gives its number and place, zero in every other result." What an answer says, in document 01's numbers; with the place and
-- the step of request [1].
use Rattle.std.specs.Prelude.{ℕ, Bool, cond, ◌&&◌, ◌||◌, ltb, leb, eqb, Result, Ok, Err}
use Rattle.scope.specs.Lowest.{lowest}
use Rattle.scope.specs.declared.Refusal.{Refusal}

-- "With the message come the place and the step of the first link at fault": the refusal of a rule of paths
abbrev pub refusal_on : ℕ → ℕ → ℕ → ℕ → Refusal
refusal_on k m p s = record { no = k; place = m; at = p; step = s }

-- the refusal with a number and a place
abbrev pub refusal_at : ℕ → ℕ → Refusal
refusal_at k p = refusal_on k p 0 0

-- the numbers of refusals that come with a place and a step: 7, 10 and 14 to 19
abbrev pub names_link : ℕ → Bool
names_link k = eqb k 7 || eqb k 10 || (ltb 13 k && ltb k 20)

pub data Outcome : Type 0 where
  gives : ℕ → Outcome
  refused : Refusal → Outcome

abbrev pub refuse : ℕ → ℕ → Outcome
refuse k p = refused (refusal_at k p)

abbrev pub refuse_on : ℕ → ℕ → ℕ → ℕ → Outcome
refuse_on k m p s = refused (refusal_on k m p s)

-- an answer that is one number: a count of numbers or bytes, or the number of arrivals; or the refusal
abbrev pub Answer : Type 0
Answer = Result ℕ Refusal

-- the number and values of each case of an answer
abbrev pub outcome_of : Answer → Outcome
outcome_of (Ok n) = gives n
outcome_of (Err r) = refused r

-- the numbers of an outcome: those of the refusal, each 0 where there is none, and the result, 0 beside a refusal
abbrev pub number : Outcome → ℕ
number (gives n) = 0
number (refused r) = r.no

abbrev pub place : Outcome → ℕ
place (gives n) = 0
place (refused r) = r.place

abbrev pub path_place : Outcome → ℕ
path_place (gives n) = 0
path_place (refused r) = r.at

abbrev pub path_step : Outcome → ℕ
path_step (gives n) = 0
path_step (refused r) = r.step

abbrev pub result : Outcome → ℕ
result (gives n) = n
result (refused r) = 0

-- "The lowest number that applies is given": what is asked next is asked only where nothing was refused before
abbrev pub and_then : Outcome → (ℕ → Outcome) → Outcome
and_then (gives n) next = next n
and_then (refused r) next = refused r

-- refusal k with the lowest of the n things that break its rule, or else what comes after it
abbrev pub unless_some : ℕ → (ℕ → Bool) → ℕ → Outcome → Outcome
unless_some k broken n after = cond (ltb (lowest broken n) n) (refuse k (lowest broken n)) after

-- refusal 13: "the output is too short", with the numbers or bytes needed
abbrev pub room : ℕ → ℕ → Outcome
room needed lent = cond (leb needed lent) (gives needed) (refuse 13 needed)
