-- The promise of an explanation: its answer, and what the lent list holds after it, follow from what goes in.
use Rattle.std.specs.Prelude.{ℕ, ◌*◌, ◌≤◌, ◌≡◌, List, length, take, drop, Option, Some, None, Result, Ok, Err}
use Rattle.scope.specs.declared.Refusal.{Refusal}
use Rattle.scope.specs.Limits.{most_cuts, crossed_size}
use Rattle.scope.specs.Outcome.{gives, refused}
use Rattle.scope.specs.Plan.{plan_of}
use Rattle.scope.specs.Cuts.{pairs}
use Rattle.scope.specs.Capture.{FirstExplaining, Unexplained as NoListExplains}
use Rattle.scope.specs.Questions.{may_explain}
use Rattle.plan.specs.Answers.{GoodRow}
use Rattle.capture.specs.declared.Kept.{Kept}
use Rattle.capture.specs.Kept.{Keeps}

-- an explanation: none where no list explains the capture, or how many pairs the first list has that does; or the refusal
abbrev pub Explanation : Type 0
Explanation = Result (Option ℕ) Refusal

-- "exactly if no list of at most k pairs has that replay"; it writes nothing
pub record IsUnexplained (row : List ℕ) (k : ℕ) (capture entry exit : List ℕ) : Type 0 where
  pub may : may_explain row k capture (length entry) ≡ gives (2 * k)
  pub unexplained : NoListExplains (plan_of row) k capture
  pub buffer : exit ≡ entry

-- "the first cut list, in the verdict's order": its n pairs stand at the front, and the rest is as it was
pub record IsListed (row : List ℕ) (k : ℕ) (capture entry exit : List ℕ) (n : ℕ) : Type 0 where
  pub may : may_explain row k capture (length entry) ≡ gives (2 * k)
  pub list : FirstExplaining (plan_of row) k capture (take (2 * n) exit)
  pub count : pairs (take (2 * n) exit) ≡ n
  pub rest : drop (2 * n) exit ≡ drop (2 * n) entry

-- "A refusal gives its number and place, .. and no change in any buffer"
pub record IsRefused (row : List ℕ) (k : ℕ) (capture entry exit : List ℕ) (r : Refusal) : Type 0 where
  pub may : may_explain row k capture (length entry) ≡ refused r
  pub buffer : exit ≡ entry

-- what each case of the answer says
abbrev pub Answered : List ℕ → ℕ → List ℕ → List ℕ → List ℕ → Explanation → Type 0
Answered row k capture entry exit (Ok None) = IsUnexplained row k capture entry exit
Answered row k capture entry exit (Ok (Some n)) = IsListed row k capture entry exit n
Answered row k capture entry exit (Err r) = IsRefused row k capture entry exit r

-- of every capture of which this is kept
abbrev pub AnsweredFor : List ℕ → ℕ → Kept → List ℕ → List ℕ → List ℕ → Explanation → Type 0
AnsweredFor row k kept crossed entry exit r =
    (capture : List ℕ) → Keeps (plan_of row) capture crossed kept → Answered row k capture entry exit r

-- a good row, a table of crossings, and k without refusal 11
pub record MayDecide (row : List ℕ) (k : ℕ) (crossed : List ℕ) : Type 0 where
  pub good : GoodRow row
  pub size : length crossed ≡ crossed_size
  pub few : k ≤ most_cuts
