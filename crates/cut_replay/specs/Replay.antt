-- The promise of the replay: its answer, and what the lent buffer has after it, follow from what goes in.
use Rattle.std.specs.Prelude.{ℕ, ◌≡◌, List, length}
use Rattle.scope.specs.Outcome.{Answer}
use Rattle.scope.specs.Outcome.{gives}
use Rattle.scope.specs.Plan.{plan_of}
use Rattle.scope.specs.Cuts.{check_cuts}
use Rattle.scope.specs.Cycle.{event_row}
use Rattle.scope.specs.Questions.{replay}
use Rattle.plan.specs.Answers.{Answers, GoodRow}

-- a good row, and a cut list without refusal 12
pub record Checked (row cuts : List ℕ) : Type 0 where
  pub judged : GoodRow row
  pub count : ℕ
  pub good : check_cuts (plan_of row) cuts ≡ gives count

-- the replay of a row under a cut list, with a buffer that held `entry`
abbrev pub Replays : List ℕ → List ℕ → List ℕ → List ℕ → Answer → Type 0
Replays row cuts entry exit r = Answers (replay row cuts (length entry)) (event_row (plan_of row) cuts) entry exit r
