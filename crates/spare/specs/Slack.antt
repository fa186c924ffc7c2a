-- What asking for a slack promises: document 01's number and values for each case of the answer, and the bounds of the slack.
use Rattle.std.specs.Prelude.{ℕ, ◌≡◌, List, ℤ, pos, negsuc, ◌≤ℤ◌, Result, Ok, Err}
use Rattle.scope.specs.Outcome.{Outcome, gives, refused}
use Rattle.scope.specs.Questions.{may_spare, slack}
use Rattle.scope.specs.declared.Refusal.{Refusal}

-- an answer that is a slack, below, at or above zero; or the refusal
abbrev pub Spare : Type 0
Spare = Result ℤ Refusal

-- the refusal's number and place, or that nothing is refused
abbrev pub said : Spare → Outcome
said (Ok z) = gives 0
said (Err r) = refused r

-- the slack; "zero in every other result"
abbrev pub value : Spare → ℤ
value (Ok z) = z
value (Err r) = pos 0

abbrev pub unless_refused : Outcome → ℤ → ℤ
unless_refused (gives n) z = z
unless_refused (refused r) z = pos 0

-- the answer for message m and place p of a row
pub record Slacks (row : List ℕ) (m p : ℕ) (r : Spare) : Type 0 where
  pub answer : said r ≡ may_spare row m p
  pub value : value r ≡ unless_refused (may_spare row m p) (slack row m p)

-- "It may be below zero and lies between −1,535 and 63"
pub record Between (z : ℤ) : Type 0 where
  pub low : negsuc 1534 ≤ℤ z
  pub high : z ≤ℤ pos 63

abbrev pub SlackLies : Type 0
SlackLies = (row : List ℕ) (m p : ℕ) → may_spare row m p ≡ gives 0 → Between (slack row m p)

-- so an answer that is a slack lies there
abbrev pub AnswerLies : Type 0
AnswerLies = (row : List ℕ) (m p : ℕ) (z : ℤ) → Slacks row m p (Ok z) → Between z
