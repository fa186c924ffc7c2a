-- A number "in decimal without needless zeros", of at most `most`, read from a text: as many digits as go on with it.
use Rattle.std.specs.Prelude.{ℕ, suc, ◌+◌, ◌-◌, ◌*◌, ◌≤◌, ◌≡◌, Bool, true, false, not, cond, ◌&&◌, ◌||◌, List, [], ◌∷◌, length, drop, ltb, leb, eqb}
use Rattle.scope.specs.Lines.{byte_at, is_digit}
use Rattle.text.specs.declared.Number.{Number}

-- `begun` says that a number has begun, and a is what its digits say so far: a byte is a digit that goes on with it
abbrev pub goes_on : ℕ → Bool → ℕ → ℕ → Bool
goes_on most begun a b = is_digit b && ((not begun || ltb 0 a) && leb (a * 10 + (b - 48)) most)

-- how many bytes go on with it, and what it then is
unfoldable pub size_from : ℕ → Bool → ℕ → List ℕ → ℕ
size_from most begun a [] = 0
size_from most begun a (b ∷ text) = cond (goes_on most begun a b) (suc (size_from most true (a * 10 + (b - 48)) text)) 0

unfoldable pub value_from : ℕ → Bool → ℕ → List ℕ → ℕ
value_from most begun a [] = a
value_from most begun a (b ∷ text) = cond (goes_on most begun a b) (value_from most true (a * 10 + (b - 48)) text) a

-- how many bytes the number at an index has, 0 where there is none, and what it says
abbrev pub size_at : ℕ → List ℕ → ℕ → ℕ
size_at most text at = size_from most false 0 (drop at text)

abbrev pub value_at : ℕ → List ℕ → ℕ → ℕ
value_at most text at = value_from most false 0 (drop at text)

-- the number at an index was read: what it says, and the index behind it
pub record Reads (most : ℕ) (text : List ℕ) (at : ℕ) (r : Number) : Type 0 where
  pub value : r.value ≡ value_at most text at
  pub next : r.next ≡ at + size_at most text at
  pub small : r.value ≤ most
  pub within : r.next ≤ at + (length text - at)

-- a word stands at an index of a text
unfoldable pub stands : List ℕ → ℕ → List ℕ → Bool
stands text i [] = true
stands text i (b ∷ word) = eqb (byte_at text i) b && stands text (i + 1) word
