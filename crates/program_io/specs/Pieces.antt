-- What comes from standard input piece by piece. As with `Came`, only the functions of this crate say so, and no proof of another crate unfolds
-- it: a program that leaves out a piece, invents one, or takes a failed read for the end, is refused.
use Rattle.std.specs.Prelude.{ℕ, ◌+◌, ◌≡◌, List, ◌++◌, take, Option, Some, None}
use Rattle.program_io.specs.Counts.{IsPrefixLen}

-- these bytes came in so many reads, one piece after another
unfoldable pub CameIn : ℕ → List ℕ → Type 0
CameIn turns input = Unit {0}

-- they are all that there were: a read gave nothing
unfoldable pub CameWhole : List ℕ → Type 0
CameWhole input = Unit {0}

-- what one read says after so many: which bytes came, and that nothing is the end
pub record Piece (n turns : ℕ) (buffer : List ℕ) : Type 0 where
  pub counts : IsPrefixLen n buffer
  pub more : (before : List ℕ) → CameIn turns before → CameIn (turns + 1) (before ++ take n buffer)
  pub end : n ≡ 0 → (before : List ℕ) → CameIn turns before → CameWhole before

abbrev pub ReadsPiece : Option ℕ → ℕ → List ℕ → Type 0
ReadsPiece (Some n) turns buffer = Piece n turns buffer
ReadsPiece None turns buffer = Unit {0}
