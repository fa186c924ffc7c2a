-- What a function leaves that prints a text into a lent buffer, or refuses.
use Rattle.std.specs.Prelude.{◌≡◌, ℕ, List, ◌++◌, length, take, drop}
use Rattle.scope.specs.Outcome.{Answer}
use Rattle.scope.specs.Outcome.{Outcome, outcome_of, gives, and_then, room}
use Rattle.scope.specs.Questions.{after}

-- r is the refusal that stands before the text; or how many bytes the text has; or refusal 13 with the bytes needed. Only a success changes
-- the buffer, and only the part it writes
pub record Says (may : Outcome) (text entry exit : List ℕ) (r : Answer) : Type 0 where
  pub answer : outcome_of r ≡ and_then may (λ _. room (length text) (length entry))
  pub buffer : exit ≡ after (outcome_of r) text entry

-- where nothing else can be refused
abbrev pub Prints : List ℕ → List ℕ → List ℕ → Answer → Type 0
Prints text entry exit r = Says (gives 0) text entry exit r

-- What a program hands to standard output: its whole text stands at the front of its buffer, and r says how many bytes it has.
pub record Printed (text entry exit : List ℕ) (r : Answer) : Type 0 where
  pub answer : outcome_of r ≡ gives (length text)
  pub buffer : exit ≡ text ++ drop (length text) entry

-- a text of this kind stands whole at the front of a program's buffer
pub record PrintedOne (Kind : List ℕ → Type 0) (entry exit : List ℕ) (r : Answer) : Type 0 where
  pub text : List ℕ
  pub kind : Kind text
  pub printed : Printed text entry exit r

-- What a program has read: the first n bytes of a buffer are all that there is, or as many as the buffer holds.
abbrev pub Front : List ℕ → ℕ → List ℕ → Type 0
Front buffer n whole = take n buffer ≡ take (length buffer) whole
