-- What is laid of one plan, and what the sums are with it.
use Rattle.std.specs.Prelude.{ℕ, ◌+◌, ◌^◌, ◌≤◌, ◌<◌, List, length}
use Rattle.scope.specs.Limits.{longest_name}
use Rattle.scope.specs.Plan.{plan_of}
use Rattle.scope.specs.Game.{figures}
use Rattle.scope.specs.Lines.{highest_k}
use Rattle.scope.specs.Shelf.{Rated, rate, plan_line}
use Rattle.text.specs.Text.{Puts}
use Rattle.sheet_lines.specs.declared.Tally.{Tally}
use Rattle.sheet_lines.specs.Sheet.{figures_line}
use Rattle.sheet_lines.specs.Tally.{rated, Tallies, Adds}
use Rattle.shelf_text.specs.declared.Laid.{Laid}

-- a name that is not too long, an index that can be told, and the sums of so few plans that one more can be added
pub record MayLay (name : List ℕ) (t : Tally) (at : ℕ) : Type 0 where
  pub short : length name ≤ longest_name
  pub early : at < 2 ^ 63
  pub plans : List Rated
  pub tallies : Tallies plans t
  pub few : length plans < 2 ^ 32

-- a plan's figures "for those k that the verdict program prints for it"
abbrev pub figures_on : List ℕ → List ℕ
figures_on row = figures (plan_of row) 0 (1 + highest_k (plan_of row))

-- of a good row
pub record Rates (row name : List ℕ) (t : Tally) (entry exit : List ℕ) (at : ℕ) (r : Laid) : Type 0 where
  pub puts : Puts (figures_line (figures_on row) name) entry exit at r.next
  pub adds : Adds t (rated (length (plan_of row).messages) (figures_on row)) r.tally

-- of a plan file
pub record Lays (file name : List ℕ) (t : Tally) (entry exit : List ℕ) (at : ℕ) (r : Laid) : Type 0 where
  pub puts : Puts (plan_line (record { name = name; file = file })) entry exit at r.next
  pub adds : Adds t (rate file) r.tally
