-- What reading and writing promise: the answer, and what the lent buffer holds after the call. Both follow from the input alone.
use Rattle.std.specs.Prelude.{ℕ, ◌≡◌, cond, List, length, eqb}
use Rattle.scope.specs.Outcome.{Answer}
use Rattle.scope.specs.Outcome.{Outcome, outcome_of, number, gives, and_then, room}
use Rattle.scope.specs.File.{row_of, file_of}
use Rattle.scope.specs.Row.{walk_row}
use Rattle.scope.specs.Plan.{plan_of}
use Rattle.scope.specs.Rules.{rules}
use Rattle.scope.specs.Questions.{after, judge, read_file, write_file}
use Rattle.rows.specs.View.{second_index}

-- an answer with this outcome, and a buffer that held `entry` with this written to its front where nothing is refused
pub record Answers (outcome : Outcome) (written entry exit : List ℕ) (r : Answer) : Type 0 where
  pub answer : outcome_of r ≡ outcome
  pub buffer : exit ≡ after outcome written entry

-- a file read into a row that held `entry`
abbrev pub Reads : List ℕ → List ℕ → List ℕ → Answer → Type 0
Reads file entry exit r = Answers (read_file file (length entry)) (row_of file) entry exit r

-- a row written into bytes that held `entry`
abbrev pub Writes : List ℕ → List ℕ → List ℕ → Answer → Type 0
Writes row entry exit r = Answers (write_file row (length entry)) (file_of row) entry exit r

-- a row of the right form copied into one that held `entry`, if it is good and there is room
abbrev pub Accepts : List ℕ → List ℕ → List ℕ → Answer → Type 0
Accepts row entry exit r =
    Answers (and_then (rules (plan_of row)) (λ _. room (length row) (length entry))) row entry exit r

-- where the second path of message m from place p begins in a row, and the row's own beginning where none is shown
abbrev pub shown_index : List ℕ → ℕ → ℕ → ℕ
shown_index row m p = cond (eqb (number (judge row)) 0) (second_index row m p) 0

-- a row that nothing is refused of: what every function asks that is lent a row judged before, so that a program judges once
pub record GoodRow (row : List ℕ) : Type 0 where
  pub form : walk_row row ≡ gives (length row)
  pub keeps : rules (plan_of row) ≡ gives 0
