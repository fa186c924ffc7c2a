-- The promise of the figures: the answer, and what the lent list holds after it, follow from what goes in.
use Rattle.std.specs.Prelude.{ℕ, ◌+◌, ◌≤◌, ◌≡◌, List, ◌++◌, length, drop}
use Rattle.scope.specs.Outcome.{Answer}
use Rattle.scope.specs.Limits.{most_cuts}
use Rattle.scope.specs.Plan.{Plan, plan_of}
use Rattle.scope.specs.Game.{figures}
use Rattle.scope.specs.Questions.{figures_of}
use Rattle.plan.specs.Answers.{Answers, GoodRow}

-- how many figures there are, or a refusal, and the figures for 0 to k at the front of the list
abbrev pub FiguresAll : List ℕ → ℕ → List ℕ → List ℕ → Answer → Type 0
FiguresAll row k entry exit r = Answers (figures_of row k (length entry)) (figures (plan_of row) 0 (k + 1)) entry exit r

-- the figures for 0 to k stand at the front, and the rest is as it was
abbrev pub Filled : Plan → ℕ → List ℕ → List ℕ → Type 0
Filled plan k entry exit = exit ≡ figures plan 0 (k + 1) ++ drop (k + 1) entry

-- there is room for the figures of a good row
pub record MayFill (row : List ℕ) (k room : ℕ) : Type 0 where
  pub good : GoodRow row
  pub few : k ≤ most_cuts
  pub enough : k + 1 ≤ room
