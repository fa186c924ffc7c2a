-- Where a name ends in the text that is read, and which names are refused.
use Rattle.std.specs.Prelude.{ℕ, ◌+◌, Bool, ◌||◌, List, drop, ltb, eqb}
use Rattle.std.specs.List.{position_or_len}
use Rattle.scope.specs.Limits.{most_names, longest_name}

-- how many bytes stand before the first line feed, or all
unfoldable pub name_size : List ℕ → ℕ
name_size text = position_or_len (λ b. eqb b 10) text

-- the index of the first line feed from an index on, or the text's length; past the end the index itself
abbrev pub name_end : List ℕ → ℕ → ℕ
name_end text from = from + name_size (drop from text)

-- a name of so many bytes is bad in line i, as `bad_name` says of a list of names
abbrev pub bad_size : ℕ → ℕ → Bool
bad_size i size = ltb most_names (i + 1) || eqb size 0 || ltb longest_name size
