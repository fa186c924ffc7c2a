-- What the programs `verdict` and `deep` print: they differ in how high k goes.
use Rattle.std.specs.Prelude.{ℕ, ◌+◌, ◌*◌, ◌≡◌, cond, List, length, leb}
use Rattle.scope.specs.Limits.{longest_row}
use Rattle.scope.specs.Outcome.{Outcome, gives, refused}
use Rattle.scope.specs.File.{row_of}
use Rattle.scope.specs.Plan.{Plan, plan_of}
use Rattle.scope.specs.Questions.{read_file}
use Rattle.scope.specs.Lines.{refused_line, VerdictLines}

-- what the program `deep` prints for a plan file: as `VerdictText` of scope, and for k 0 to 3 whatever the size
unfoldable pub DeepText : List ℕ → List ℕ → Type 0
DeepText file text = Said (read_file file longest_row)
  where
    Said : Outcome → Type 0
    Said (refused r) = text ≡ refused_line r
    Said (gives n) = VerdictLines (plan_of (row_of file)) 0 4 text

-- how high k goes: "up to k 3 if E × t is at most 64", else to this one
abbrev pub highest_or : ℕ → Plan → ℕ
highest_or large plan = cond (leb (length plan.links * plan.timeout) 64) 3 large

-- the text of a program that goes up to k `large` where E × t is above 64: of `verdict` for 1, of `deep` for 3 (proofs/Theorems,
-- `verdict_text_lem`, `deep_text_lem`)
unfoldable pub TextUpTo : ℕ → List ℕ → List ℕ → Type 0
TextUpTo large file text = Said (read_file file longest_row)
  where
    Said : Outcome → Type 0
    Said (refused r) = text ≡ refused_line r
    Said (gives n) = VerdictLines (plan_of (row_of file)) 0 (1 + highest_or large (plan_of (row_of file))) text
