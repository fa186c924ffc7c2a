-- The lines of the sheet, each from what it tells.
use Rattle.std.specs.Prelude.{ℕ, zero, suc, ◌+◌, List, [], ◌++◌, map}
use Rattle.scope.specs.declared.Refusal.{Refusal}
use Rattle.scope.specs.Lines.{space, line_feed, decimal, parted, refused_text}
use Rattle.scope.specs.Shelf.{Shelved}
use Rattle.sheet_lines.specs.declared.Tally.{Tally}
use Rattle.sheet_lines.specs.Tally.{sums_at}

-- the names on a shelf
abbrev pub names_on : List Shelved → List (List ℕ)
names_on shelf = map (λ s. s.name) shelf

-- "then a space and the name as it was given"
abbrev pub name_ending : List ℕ → List ℕ
name_ending name = space ++ (name ++ line_feed)

-- the line of a plan that has these figures, and of one that is refused
abbrev pub figures_line : List ℕ → List ℕ → List ℕ
figures_line figures name = parted figures ++ name_ending name

abbrev pub refused_plan : Refusal → List ℕ → List ℕ
refused_plan r name = refused_text r ++ name_ending name

-- the line of two sums for k
abbrev pub sums_line : ℕ → ℕ → ℕ → List ℕ
sums_line k unharmed lost = decimal k ++ (space ++ (decimal unharmed ++ (space ++ (decimal lost ++ line_feed))))

-- the lines of so many numbers from k on
unfoldable pub tally_lines : Tally → ℕ → ℕ → List ℕ
tally_lines t k zero = []
tally_lines t k (suc n) = sums_line k (sums_at t k).unharmed (sums_at t k).lost ++ tally_lines t (k + 1) n
