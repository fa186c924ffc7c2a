-- What a plan file adds to the sheet, by what reading it gives: its rating, its text, its line.
use Prim.Native.Nat.{ℕ, ◌+◌, ◌*◌, ◌≤◌}
use mathlib.Core.Path.{◌≡◌, refl, ap}
use mathlib.Core.Bool.{Bool, true, false, cond}
use mathlib.Core.List.{List, [], ◌++◌}
use native.Mathlib.Omega.{arith}
use lib.ListN.{length}
use lib.Dec.{leb}
use Rattle.scope.specs.declared.Refusal.{Refusal}
use Rattle.scope.specs.Limits.{longest_row}
use Rattle.scope.specs.Outcome.{Outcome, gives, refused}
use Rattle.scope.specs.File.{row_of}
use Rattle.scope.specs.Plan.{plan_of}
use Rattle.scope.specs.Questions.{read_file}
use Rattle.scope.specs.Game.{figures}
use Rattle.scope.specs.Lines.{parted, refused_text, highest_k}
use Rattle.scope.specs.Shelf.{Rated, rate, rated_text, plan_line}
use Rattle.order.proofs.Game.{figures-length}
use Rattle.sheet_lines.specs.Sheet.{name_ending, figures_line, refused_plan}
use Rattle.sheet_lines.specs.Tally.{rated, sums}

module _ (file : List ℕ) where
  -- refused
  module _ (r : Refusal) (e : read_file file longest_row ≡ refused r) where
    pub rate-refused : rate file ≡ rated 0 []
    unfolding rate
    rate-refused = rw e

    pub text-refused : rated_text file ≡ refused_text r
    unfolding rated_text
    text-refused = rw e

    pub line_refused : (name : List ℕ) → plan_line (record { name = name; file = file }) ≡ refused_plan r name
    line_refused name = ap (λ (text : List ℕ). text ++ name_ending name) text-refused

  -- with figures for each k up to the highest
  module _ (n : ℕ) (e : read_file file longest_row ≡ gives n) where
    pub rate_given : rate file ≡
        rated (length (plan_of (row_of file)).messages) (figures (plan_of (row_of file)) 0 (1 + highest_k (plan_of (row_of file))))
    unfolding rate
    rate_given = rw e

    pub text_given : rated_text file ≡ parted (rate file).figures
    unfolding rated_text
    text_given = rw e

    pub line_given : (name : List ℕ) → plan_line (record { name = name; file = file }) ≡ figures_line (rate file).figures name
    line_given name = ap (λ (text : List ℕ). text ++ name_ending name) text_given

-- a plan has no more figures than there are k
pub figures-few : (file : List ℕ) → length (rate file).figures ≤ sums
figures-few file = by (read_file file longest_row) refl
  where
    highest : (t : Bool) → 1 + cond t 3 1 ≤ sums
    highest true = omega arith
    highest false = omega arith

    by : (o : Outcome) → read_file file longest_row ≡ o → length (rate file).figures ≤ sums
    by (refused r) e = let l = ap (λ (p : Rated). length p.figures) (rate-refused file r e) in omega arith
    by (gives n) e =
        let plan = plan_of (row_of file) in
        let l = ap (λ (p : Rated). length p.figures) (rate_given file n e) in
        let f = figures-length plan 0 (1 + highest_k plan) in
        let h = highest (leb (length plan.links * plan.timeout) 64) in
        omega arith
