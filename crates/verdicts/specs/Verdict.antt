-- The promise of the verdict: its answer, and what the lent list holds after it, follow from what goes in.
use Rattle.std.specs.Prelude.{ℕ, ◌*◌, ◌≤◌, ◌≡◌, List, length, take, drop, Option, Some, None, Result, Ok, Err}
use Rattle.scope.specs.declared.Refusal.{Refusal}
use Rattle.scope.specs.Outcome.{gives, refused}
use Rattle.scope.specs.Plan.{plan_of}
use Rattle.scope.specs.Cuts.{pairs}
use Rattle.scope.specs.Verdict.{FirstFailing, Resistant as AlwaysLeaves}
use Rattle.scope.specs.Questions.{may_judge}
use Rattle.plan.specs.Answers.{GoodRow}

-- a verdict: none where the plan is resistant, or how many pairs the first failing list has; or the refusal
abbrev pub Ruling : Type 0
Ruling = Result (Option ℕ) Refusal

-- "a resistant verdict writes nothing"
pub record IsResistant (row : List ℕ) (k l : ℕ) (entry exit : List ℕ) : Type 0 where
  pub may : may_judge row k l (length entry) ≡ gives (2 * k)
  pub resistant : AlwaysLeaves (plan_of row) k l
  pub buffer : exit ≡ entry

-- "the answer is the failing list": its n pairs stand at the front, and the rest is as it was
pub record IsFailing (row : List ℕ) (k l : ℕ) (entry exit : List ℕ) (n : ℕ) : Type 0 where
  pub may : may_judge row k l (length entry) ≡ gives (2 * k)
  pub list : FirstFailing (plan_of row) k l (take (2 * n) exit)
  pub count : pairs (take (2 * n) exit) ≡ n
  pub rest : drop (2 * n) exit ≡ drop (2 * n) entry

-- "A refusal gives its number and place, .. and no change in any buffer"
pub record IsRefused (row : List ℕ) (k l : ℕ) (entry exit : List ℕ) (r : Refusal) : Type 0 where
  pub may : may_judge row k l (length entry) ≡ refused r
  pub buffer : exit ≡ entry

-- what each case of the answer says
abbrev pub Answered : List ℕ → ℕ → ℕ → List ℕ → List ℕ → Ruling → Type 0
Answered row k l entry exit (Ok None) = IsResistant row k l entry exit
Answered row k l entry exit (Ok (Some n)) = IsFailing row k l entry exit n
Answered row k l entry exit (Err r) = IsRefused row k l entry exit r

-- a good row, and k and l without refusal 11
pub record MayAsk (row : List ℕ) (k l : ℕ) : Type 0 where
  pub good : GoodRow row
  pub few : k ≤ 3
  pub least : l ≤ length (plan_of row).messages
