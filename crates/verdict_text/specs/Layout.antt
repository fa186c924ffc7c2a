-- How the answers are laid out in lines: by the seven numbers that `all_verdicts` gives for each l, and by message and place.
use Rattle.std.specs.Prelude.{ℕ, zero, suc, ◌+◌, ◌-◌, ◌*◌, ◌≤◌, ◌<◌, ◌≡◌, cond, List, [], ◌++◌, length, get_or, take, drop, eqb}
use Rattle.scope.specs.Outcome.{Answer}
use Rattle.scope.specs.Plan.{Plan, place_of}
use Rattle.scope.specs.Lines.{resistant_line, failing_line, slack_line_of, UnderK, VerdictLines}
use Rattle.all_verdicts.specs.Answers.{seven}
use Rattle.text.specs.Text.{Puts}
use Rattle.listing.specs.Prints.{Prints}

-- the list that seven numbers say: as many pairs as the first number, less one
abbrev pub list_of : List ℕ → List ℕ
list_of numbers = take (2 * get_or numbers 0 0 - 1 - 1) (drop 1 numbers)

unfoldable pub line_of : ℕ → ℕ → List ℕ → List ℕ
line_of k l numbers = cond (eqb (get_or numbers 0 0) 0) (resistant_line k l) (failing_line k l (list_of numbers))

-- the lines of n answers, from l on
unfoldable pub lines_of : ℕ → List ℕ → ℕ → ℕ → List ℕ
lines_of k all l zero = []
lines_of k all l (suc n) = line_of k l (seven l all) ++ lines_of k all (l + 1) n

-- there are so many answers, and none tells of more than three pairs
pub record Sevens (all : List ℕ) (count : ℕ) : Type 0 where
  pub few : count ≤ 33
  pub room : 7 * count ≤ length all
  pub pairs : (l : ℕ) → l < count → get_or (seven l all) 0 0 ≤ 4

-- the slack line of a place, or nothing
abbrev pub slack_at : Plan → ℕ → ℕ → List ℕ
slack_at plan m p = slack_line_of plan m p (place_of plan m p) (place_of plan m p).second

-- the lines under k for l from 0 to M, and nothing after them
abbrev pub LinesUnder : Plan → ℕ → List ℕ → Type 0
LinesUnder plan k text = UnderK plan k (λ (rest : List ℕ). rest ≡ []) 0 (length plan.messages + 1) text

-- a text of this kind, of at most so many bytes, is laid over a buffer from index `at` on
pub record Lays (Kind : List ℕ → Type 0) (most : ℕ) (before after : List ℕ) (at next : ℕ) : Type 0 where
  pub text : List ℕ
  pub kind : Kind text
  pub short : length text ≤ most
  pub puts : Puts text before after at next

-- with the lines for the numbers from k on, a text makes the lines for n numbers
abbrev pub Until : Plan → ℕ → ℕ → List ℕ → Type 0
Until plan n k text = (more : List ℕ) → VerdictLines plan k (n - k) more → VerdictLines plan 0 n (text ++ more)

-- the lines under each number below k are laid, at most 4,323 bytes for each
abbrev pub LaidUntil : Plan → ℕ → ℕ → List ℕ → List ℕ → ℕ → Type 0
LaidUntil plan n k before after next = Lays (Until plan n k) (4323 * k) before after 0 next

-- bytes enough for every text of the verdict program
abbrev pub verdict_room : ℕ
verdict_room = 34700

-- a text of this kind is printed into a buffer, or refused where that is too short
pub record PrintsOne (Kind : List ℕ → Type 0) (entry exit : List ℕ) (r : Answer) : Type 0 where
  pub text : List ℕ
  pub kind : Kind text
  pub prints : Prints text entry exit r
