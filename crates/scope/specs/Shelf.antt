-- Document 02, [2]: "Worst figures for a shelf of plans": the names that the program reads, and the sheet that it prints.
use Rattle.std.specs.Prelude.{ℕ, zero, suc, ◌+◌, ◌-◌, Bool, cond, ◌&&◌, ◌||◌, List, [], ◌∷◌, ◌++◌, map, length, get_or, ltb, eqb}
use Rattle.scope.specs.Limits.{longest_row, most_cuts, most_names, longest_name}
use Rattle.scope.specs.Outcome.{Outcome, gives, refused, unless_some}
use Rattle.scope.specs.File.{row_of}
use Rattle.scope.specs.Plan.{plan_of}
use Rattle.scope.specs.Questions.{read_file}
use Rattle.scope.specs.Game.{figures}
use Rattle.scope.specs.Lines.{space, line_feed, decimal, parted, refused_text, refused_line, highest_k}

-- "names of plan files, one a line": a last line without a line feed is a name too
abbrev pub begins : ℕ → List (List ℕ) → List (List ℕ)
begins b [] = (b ∷ []) ∷ []
begins b (name ∷ names) = (b ∷ name) ∷ names

unfoldable pub names_of : List ℕ → List (List ℕ)
names_of [] = []
names_of (b ∷ text) = cond (eqb b 10) ([] ∷ names_of text) (begins b (names_of text))

abbrev pub name_of : List (List ℕ) → ℕ → List ℕ
name_of names i = get_or names i []

-- "at most 250, each of 1 to 255 bytes": "a name of another length, or a name too many"
abbrev pub bad_name : List (List ℕ) → ℕ → Bool
bad_name names i = ltb most_names (i + 1) || eqb (length (name_of names i)) 0 || ltb longest_name (length (name_of names i))

-- "is 24 with its line": the first, or how many names there are
unfoldable pub check_names : List (List ℕ) → Outcome
check_names names = unless_some 24 (bad_name names) (length names) (gives (length names))

-- a plan file on the shelf, by the name that was given, and what it holds: nothing where it is missing or cannot be read
pub record Shelved : Type 0 where
  pub name : List ℕ
  pub file : List ℕ

-- how many messages a plan has, and its figures "for those k that the verdict program prints for it"; no figure where it is refused
pub record Rated : Type 0 where
  pub messages : ℕ
  pub figures : List ℕ

unfoldable pub rate : List ℕ → Rated
rate file = said (read_file file longest_row)
  where
    said : Outcome → Rated
    said (refused r) = record { messages = 0; figures = [] }
    said (gives n) =
        record {
          messages = length (plan_of (row_of file)).messages;
          figures = figures (plan_of (row_of file)) 0 (1 + highest_k (plan_of (row_of file)));
        }

-- "a plan with a figure for it", and its loss: "M less the figure"
abbrev pub has_figure : ℕ → Rated → Bool
has_figure k p = ltb k (length p.figures)

abbrev pub loss : ℕ → Rated → ℕ
loss k p = p.messages - get_or p.figures k 0

-- "how many plans with a figure for it lose nothing", and "the exact sum of losses"
unfoldable pub unharmed : ℕ → List Rated → ℕ
unharmed k [] = 0
unharmed k (p ∷ ps) = cond (has_figure k p && eqb (loss k p) 0) 1 0 + unharmed k ps

unfoldable pub loss_sum : ℕ → List Rated → ℕ
loss_sum k [] = 0
loss_sum k (p ∷ ps) = cond (has_figure k p) (loss k p) 0 + loss_sum k ps

-- the figures of a plan, or "a plan that is refused prints its refusal"
unfoldable pub rated_text : List ℕ → List ℕ
rated_text file = said (read_file file longest_row)
  where
    said : Outcome → List ℕ
    said (refused r) = refused_text r
    said (gives n) = parted (rate file).figures

-- its line: "then a space and the name as it was given"
abbrev pub plan_line : Shelved → List ℕ
plan_line s = rated_text s.file ++ (space ++ (s.name ++ line_feed))

unfoldable pub plan_lines : List Shelved → List ℕ
plan_lines [] = []
plan_lines (s ∷ shelf) = plan_line s ++ plan_lines shelf

-- "for each k" the line of its two sums, for so many numbers from k on
abbrev pub sum_line : ℕ → List Rated → List ℕ
sum_line k ps = decimal k ++ (space ++ (decimal (unharmed k ps) ++ (space ++ (decimal (loss_sum k ps) ++ line_feed))))

unfoldable pub sum_lines : List Rated → ℕ → ℕ → List ℕ
sum_lines ps k zero = []
sum_lines ps k (suc n) = sum_line k ps ++ sum_lines ps (k + 1) n

-- the sums follow from the figures alone
abbrev pub ratings : List Shelved → List Rated
ratings shelf = map (λ s. rate s.file) shelf

unfoldable pub sheet : List Shelved → List ℕ
sheet shelf = plan_lines shelf ++ sum_lines (ratings shelf) 0 (1 + most_cuts)

-- what the program prints for an input whose names are those of a shelf: "24 with its line, and then no plan is read", or the sheet
unfoldable pub shelf_text : List ℕ → List Shelved → List ℕ
shelf_text input shelf = said (check_names (names_of input))
  where
    said : Outcome → List ℕ
    said (refused r) = refused_line r
    said (gives n) = sheet shelf
