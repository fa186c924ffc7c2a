-- What the functions that fill the answers promise each other.
use Rattle.std.specs.Prelude.{ℕ, ◌*◌, ◌≤◌, ◌<◌, ◌≡◌, List, ◌∷◌, drop}
use Rattle.scope.specs.Limits.{most_cuts}
use Rattle.scope.specs.Plan.{plan_of}
use Rattle.plan.specs.Answers.{GoodRow}
use Rattle.all_verdicts.specs.Answers.{answer_size, seven, needed}

-- the answers for `from` on and below `to` have these numbers, and what comes after them is as it was
pub record Filled (from to head : ℕ) (numbers entry exit : List ℕ) : Type 0 where
  pub inside : (l : ℕ) → from ≤ l → l < to → seven l exit ≡ head ∷ numbers
  pub above : (l : ℕ) → to ≤ l → drop (answer_size * l) exit ≡ drop (answer_size * l) entry

-- all answers of a row may be filled
pub record MayFill (row : List ℕ) (k room : ℕ) : Type 0 where
  pub good : GoodRow row
  pub few : k ≤ most_cuts
  pub enough : needed (plan_of row) ≤ room
