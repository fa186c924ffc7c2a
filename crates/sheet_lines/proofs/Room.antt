-- How many bytes the lines of the sheet can have. A number has at most 20 digits, so that up to four figures have no more bytes than a refusal.
use Prim.Native.Nat.{ℕ, zero, suc, ◌+◌, ◌*◌, ◌^◌, ◌≤◌, ◌<◌}
use mathlib.Core.Path.{◌≡◌, refl, ap}
use mathlib.Core.List.{List, [], ◌∷◌}
use native.Mathlib.Omega.{arith}
use lib.ListN.{length, length-append}
use Rattle.scope.specs.declared.Refusal.{Refusal}
use Rattle.scope.specs.Limits.{longest_row, most_names, longest_name}
use Rattle.scope.specs.Outcome.{Outcome, gives, refused}
use Rattle.scope.specs.Questions.{read_file}
use Rattle.scope.specs.Lines.{decimal, line_feed, spaced, parted, refused_text}
use Rattle.scope.specs.Shelf.{Rated, Shelved, name_of, rate, rated_text, plan_line, plan_lines}
use Rattle.scope.specs.Shelf.{unharmed, loss_sum, sum_line, sum_lines, ratings, sheet}
use Rattle.text.specs.Text.{Told}
use Rattle.text.proofs.Decimal.{decimal-all}
use Rattle.text.proofs.Refused.{refused_text_size}
use Rattle.sheet_lines.specs.Sheet.{name_ending, figures_line, refused_plan, sums_line, tally_lines, names_on}
use Rattle.sheet_lines.specs.Tally.{sums, sums_at}
use Rattle.sheet_lines.specs.declared.Tally.{Tally}
use Rattle.sheet_lines.proofs.Rated.{text-refused, text_given, figures-few}

spaced-size : (ns : List ℕ) → length (spaced ns) ≤ 21 * length ns
unfolding spaced
spaced-size [] = omega arith
spaced-size (n ∷ ns) =
    let d = decimal-all n in
    let r = spaced-size ns in
    simp length-append (omega arith)

parted-size : (ns : List ℕ) → length ns ≤ sums → length (parted ns) ≤ 83
unfolding parted
parted-size [] h = omega arith
parted-size (n ∷ ns) h =
    let d = decimal-all n in
    let r = spaced-size ns in
    let a = length-append (decimal n) (spaced ns) in
    omega arith

-- A plan's line.
module _ (name : List ℕ) (short : length name ≤ longest_name) where
  ending-size : length (name_ending name) ≤ 257
  ending-size = let a = length-append name line_feed in omega arith

  pub figures_line_size : (figures : List ℕ) → length figures ≤ sums → length (figures_line figures name) ≤ 340
  figures_line_size figures h =
      let p = parted-size figures h in
      let e = ending-size in
      let a = length-append (parted figures) (name_ending name) in
      omega arith

  pub refused_plan_size : (r : Refusal) → length (refused_plan r name) ≤ 354
  refused_plan_size r =
      let p = refused_text_size r in
      let e = ending-size in
      let a = length-append (refused_text r) (name_ending name) in
      omega arith

  -- so the index after it can be told
  module _ (at : ℕ) (h : at < 2 ^ 63) where
    pub figures-told : (figures : List ℕ) → length figures ≤ sums → Told at (figures_line figures name)
    figures-told figures few = record { fits = omega (arith, figures_line_size figures few) }

    pub refused-told : (r : Refusal) → Told at (refused_plan r name)
    refused-told r = record { fits = omega (arith, refused_plan_size r) }

rated-size : (file : List ℕ) → length (rated_text file) ≤ 97
rated-size file = by (read_file file longest_row) refl
  where
    by : (o : Outcome) → read_file file longest_row ≡ o → length (rated_text file) ≤ 97
    by (refused r) e = let l = ap length (text-refused file r e) in let s = refused_text_size r in omega arith
    by (gives n) e =
        let l = ap length (text_given file n e) in
        let s = parted-size (rate file).figures (figures-few file) in
        omega arith

pub plan_line_size : (s : Shelved) → length s.name ≤ longest_name → length (plan_line s) ≤ 354
plan_line_size s h =
    let r = rated-size s.file in
    let e = ending-size s.name h in
    let a = length-append (rated_text s.file) (name_ending s.name) in
    omega arith

-- The lines of all plans of a shelf, whose names are short.
abbrev pub Short : List (List ℕ) → Type 0
Short names = (i : ℕ) → i < length names → length (name_of names i) ≤ longest_name

pub plan_lines_size : (shelf : List Shelved) → Short (names_on shelf) → length (plan_lines shelf) ≤ 354 * length shelf
unfolding plan_lines
plan_lines_size [] short = omega arith
plan_lines_size (s ∷ shelf) short =
    let p = plan_line_size s (short 0 (omega arith)) in
    let r = plan_lines_size shelf (λ i h. short (suc i) (omega arith)) in
    let a = length-append (plan_line s) (plan_lines shelf) in
    omega arith

-- The lines of the sums.
line-size : (k u l : ℕ) → length (sums_line k u l) ≤ 63
line-size k u l =
    let a = decimal-all k in
    let b = decimal-all u in
    let c = decimal-all l in
    simp length-append (omega arith)

pub tally_lines_size : (t : Tally) (k n : ℕ) → length (tally_lines t k n) ≤ 63 * n
unfolding tally_lines
tally_lines_size t k zero = omega arith
tally_lines_size t k (suc n) =
    let u = (sums_at t k).unharmed in
    let l = (sums_at t k).lost in
    let h = line-size k u l in
    let r = tally_lines_size t (k + 1) n in
    let a = length-append (sums_line k u l) (tally_lines t (k + 1) n) in
    omega arith

pub sum_lines_size : (ps : List Rated) (k n : ℕ) → length (sum_lines ps k n) ≤ 63 * n
unfolding sum_lines
sum_lines_size ps k zero = omega arith
sum_lines_size ps k (suc n) =
    let h = line-size k (unharmed k ps) (loss_sum k ps) in
    let r = sum_lines_size ps (k + 1) n in
    let a = length-append (sum_line k ps) (sum_lines ps (k + 1) n) in
    omega arith

pub sums-told : (t : Tally) (at : ℕ) → at < 2 ^ 63 → Told at (tally_lines t 0 sums)
sums-told t at h = record { fits = omega (arith, tally_lines_size t 0 sums) }

-- "at most 250" plans: so many bytes are enough for every sheet
pub sheet-size : (shelf : List Shelved) → length shelf ≤ most_names → Short (names_on shelf) → length (sheet shelf) ≤ 88752
unfolding sheet
sheet-size shelf few short =
    let p = plan_lines_size shelf short in
    let s = sum_lines_size (ratings shelf) 0 sums in
    let a = length-append (plan_lines shelf) (sum_lines (ratings shelf) 0 sums) in
    omega arith
