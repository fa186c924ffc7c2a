-- What packing a row asks for and gives.
use Rattle.std.specs.Prelude.{ℕ, ◌≤◌, ◌≡◌, List, length, take}
use Rattle.scope.specs.Outcome.{gives}
use Rattle.scope.specs.Row.{walk_row}
use Rattle.scope.specs.Bits.{bits}
use Rattle.scope.specs.File.{row_bits, file_of}
use Rattle.scope.specs.Limits.{longest_file}

-- a row without refusals 1 to 4
abbrev pub Complete : List ℕ → Type 0
Complete row = walk_row row ≡ gives (length row)

-- r is how many bytes the row's file has
pub record Sized (row : List ℕ) (r : ℕ) : Type 0 where
  pub is : r ≡ length (file_of row)
  pub most : r ≤ longest_file

-- a row without those refusals, and a part of exactly as many bytes as its file has
pub record Fitting (row file : List ℕ) : Type 0 where
  pub complete : Complete row
  pub room : length file ≡ length (file_of row)

-- the first r bits are those of the row
pub record Packed (row file : List ℕ) (r : ℕ) : Type 0 where
  pub end : r ≡ length (row_bits row)
  pub written : take r (bits file) ≡ row_bits row
