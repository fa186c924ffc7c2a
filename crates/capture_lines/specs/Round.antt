-- The lines of a capture, printed and read: both ways round give the same back.
use Rattle.std.specs.Prelude.{ℕ, ◌+◌, ◌≤◌, ◌≡◌, true, List, [], ◌∷◌, ◌++◌}
use Rattle.std.proofs.Math.Seq.{slice}
use Rattle.scope.specs.Lines.{number_at, triple_line, second_number, third_number, end_of_triple, is_triple_line, capture_of}
use Rattle.capture.specs.Kept.{Whole}

-- the lines of a capture
unfoldable pub triple_lines : List ℕ → List ℕ
triple_lines [] = []
triple_lines (i ∷ []) = []
triple_lines (i ∷ e ∷ []) = []
triple_lines (i ∷ e ∷ m ∷ capture) = triple_line i e m ++ triple_lines capture

-- triples of numbers of at most 63
pub data Small : List ℕ → Type 0 where
  none : Small []
  triple : {i e m : ℕ} {capture : List ℕ} → i ≤ 63 → e ≤ 63 → m ≤ 63 → Small capture → Small (i ∷ e ∷ m ∷ capture)

-- a capture of such triples, written and read back, is the same numbers
abbrev pub CaptureBack : Type 0
CaptureBack = (capture : List ℕ) → Small capture → capture_of (triple_lines capture) ≡ capture

-- a line that is accepted is the printed line of the three numbers that are read there
abbrev pub LinePrinted : Type 0
LinePrinted = (text : List ℕ) (i : ℕ) → is_triple_line text i ≡ true →
    slice i (end_of_triple text i + 1) text ≡
    triple_line (number_at text i) (number_at text (second_number text i)) (number_at text (third_number text i))

-- a text of which every line is accepted, so that no lone number ends its capture, read and written back, is the same bytes
abbrev pub TextBack : Type 0
TextBack = (text : List ℕ) → Whole (capture_of text) → Small (capture_of text) × (triple_lines (capture_of text) ≡ text)
