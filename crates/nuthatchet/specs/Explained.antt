-- An explanation as five numbers.
use Rattle.std.specs.Prelude.{ℕ, suc, ◌+◌, ◌≤◌, ◌≡◌, List}
use Rattle.scope.specs.Limits.{most_cuts}
use Rattle.scope.specs.Outcome.{Outcome, gives, refused}
use Rattle.explanations.specs.Explained.{Explanation}
use Rattle.std.specs.Prelude.{Some, None, Ok, Err}
use Rattle.explanations.specs.Explained.{Answered, IsUnexplained, IsListed}
use Rattle.nuthatchet.specs.Told.{Told}

-- the number and values of each case: one more than the pairs of the first list that explains the capture, 0 where none does. So the empty list,
-- which is an answer, is told as 1
abbrev pub explained : Explanation → Outcome
explained (Ok None) = gives 0
explained (Ok (Some n)) = gives (n + 1)
explained (Err r) = refused r

-- no list has more pairs than can be asked for
abbrev pub Few : Explanation → Type 0
Few explanation = (n : ℕ) → explanation ≡ Ok (Some n) → n ≤ most_cuts

-- the numbers tell an explanation that is the answer
pub record TellsExplanation (row : List ℕ) (k : ℕ) (capture entry exit : List ℕ) (n p q s v : ℕ) : Type 0 where
  pub explanation : Explanation
  pub answered : Answered row k capture entry exit explanation
  pub told : Told (explained explanation) n p q s v

-- so, with the number 0, a result of 0 says unexplained, and another one how many pairs the list has, and one more
pub record ResultSays : Type 0 where
  pub unexplained : (row : List ℕ) (k : ℕ) (capture entry exit : List ℕ) (p q s : ℕ) → TellsExplanation row k capture entry exit 0 p q s 0 →
      IsUnexplained row k capture entry exit
  pub listed : (row : List ℕ) (k : ℕ) (capture entry exit : List ℕ) (p q s n : ℕ) → TellsExplanation row k capture entry exit 0 p q s (suc n) →
      IsListed row k capture entry exit n
