-- What the program `explain` prints once the plan's row and the capture are known, and what is refused before it.
use Rattle.std.specs.Prelude.{ℕ, ◌≤◌, ◌≡◌, true, List, ◌++◌, length}
use Rattle.scope.specs.Outcome.{Answer}
use Rattle.scope.specs.Outcome.{Outcome, gives, refused, and_then}
use Rattle.scope.specs.Limits.{longest_row}
use Rattle.scope.specs.File.{row_of}
use Rattle.scope.specs.Plan.{plan_of}
use Rattle.scope.specs.Cuts.{is_cut_list}
use Rattle.scope.specs.Questions.{read_file, may_explain}
use Rattle.scope.specs.Lines.{capture_of, parted, line_feed, refused_line, Explanation}
use Rattle.capture.specs.declared.Kept.{Kept}
use Rattle.capture.specs.Kept.{Keeps}
use Rattle.listing.specs.Prints.{Says}

-- "its pairs' numbers on one line"
abbrev pub list_line : List ℕ → List ℕ
list_line cuts = parted cuts ++ line_feed

-- for a row and a capture: what is said of it, or its refusal
unfoldable pub CaptureText : List ℕ → List ℕ → List ℕ → Type 0
CaptureText row capture text = Asked (may_explain row 2 capture 4)
  where
    Asked : Outcome → Type 0
    Asked (refused r) = text ≡ refused_line r
    Asked (gives n) = Explanation (plan_of row) 2 capture text

-- what stands before the text of a plan file and an input: the plan's refusals 1, 2, 4 to 10, 14 to 19, and then that of the capture
unfoldable pub may_tell : List ℕ → List ℕ → Outcome
may_tell file input = and_then (read_file file longest_row) (λ _. may_explain (row_of file) 2 (capture_of input) 4)

-- a text of this kind is said, or refused by what stands before it, or where the buffer is too short for it
pub record SaysOne (may : Outcome) (Kind : List ℕ → Type 0) (entry exit : List ℕ) (r : Answer) : Type 0 where
  pub text : List ℕ
  pub kind : Kind text
  pub says : Says may text entry exit r

-- a list of at most two cuts, for the plan of a row
pub record MayList (row cuts : List ℕ) : Type 0 where
  pub list : is_cut_list (plan_of row) cuts ≡ true
  pub few : length cuts ≤ 4

-- what is kept of a capture
pub record MaySay (row crossed : List ℕ) (kept : Kept) : Type 0 where
  pub seen : List ℕ
  pub keeps : Keeps (plan_of row) seen crossed kept
