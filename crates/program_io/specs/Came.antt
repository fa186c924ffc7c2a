-- What reading gives. Which bytes an operating system hands over no definition can say; that they were asked for, and that asking did not
-- fail, can be kept apart from a number that was made up.
use Rattle.std.specs.Prelude.{ℕ, ◌≤◌, ◌≡◌, Bool, true, List, [], ◌∷◌, length, Option, Some, None}
use Rattle.program_io.specs.Counts.{IsPrefixLen}
use Rattle.scope.specs.Outcome.{Answer}
use Rattle.scope.specs.Outcome.{outcome_of, gives}

-- a file by its name, or standard input; a file that is missing or cannot be read has nothing
pub data Source : Type 0 where
  named : List ℕ → Source
  standard_input : Source

-- `plan.bin`
abbrev pub plan_file : Source
plan_file = named (112 ∷ 108 ∷ 97 ∷ 110 ∷ 46 ∷ 98 ∷ 105 ∷ 110 ∷ [])

-- the first n bytes of a buffer came from a source, all that it had or as many as the buffer holds. Only the functions of this crate say so:
-- no proof of another crate unfolds it, so that a program which invents the count, or counts a failed read as an end, is refused
unfoldable pub Came : Source → ℕ → List ℕ → Type 0
Came source n buffer = n ≤ length buffer

-- what a read of standard input says: how many bytes came, or that reading failed, which is no end and no count
abbrev pub Reads : Option ℕ → List ℕ → Type 0
Reads (Some n) buffer = Came standard_input n buffer × IsPrefixLen n buffer
Reads None buffer = Unit {0}

-- "all was written" is said only of a count that an answer gives and that lies within the buffer
abbrev pub Prints : Bool → Answer → List ℕ → Type 0
Prints r answer buffer = r ≡ true → (n : ℕ) × (outcome_of answer ≡ gives n) × (n ≤ length buffer)
