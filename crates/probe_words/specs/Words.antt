-- What the words of a line say, and the words that are written: the probe's own forms, beside those of document 01 (`Lines`).
use Rattle.std.specs.Prelude.{ℕ, zero, suc, ◌+◌, ◌-◌, ◌*◌, ◌/◌, ◌%◌, ◌≤◌, ◌≡◌, Bool, cond, Option, Some, None, Result, Ok, Err, ◌&&◌, ◌||◌, List, [], ◌∷◌, ◌++◌, length, take, drop, ltb, leb, eqb}
use Rattle.std.specs.List.{list_all}
use Rattle.scope.specs.Lines.{byte_at, is_digit}
use Rattle.text.specs.Text.{Puts}
use Rattle.text.specs.Reading.{size_at, value_at}
use Rattle.text.specs.declared.Number.{Number}

-- a part of a list, empty where there is no such part
abbrev pub part_of : List ℕ → ℕ → ℕ → List ℕ
part_of s from to = cond (leb from to && leb to (length s)) (take (to - from) (drop from s)) []

-- what stands behind one space at an index of a line, to its end
abbrev pub last_word : List ℕ → ℕ → List ℕ
last_word line at = cond (eqb (byte_at line at) 32) (drop (at + 1) line) []

-- Things that stand one after another in a line. `value` says what the one at an index is, and `next` is the index behind it; it is the
-- index itself where there is none. As many of them from an index on as there is room for, and where they end:
unfoldable pub items : {A : Type 0} → (ℕ → A) → (ℕ → ℕ) → ℕ → ℕ → List A
items value next zero i = []
items value next (suc room) i = cond (ltb i (next i)) (value i ∷ items value next room (next i)) []

unfoldable pub items_end : (ℕ → ℕ) → ℕ → ℕ → ℕ
items_end next zero i = i
items_end next (suc room) i = cond (ltb i (next i)) (items_end next room (next i)) i

-- one of them was read, at most `most`; the value is 0 where there is none
pub record Finds (value next : ℕ → ℕ) (most size i : ℕ) (r : Number) : Type 0 where
  pub behind : r.next ≡ next i
  pub is : r.value ≡ cond (ltb i (next i)) (value i) 0
  pub small : r.value ≤ most
  pub within : r.next ≤ i + (size - i)

-- one of them with the index behind it, none where there is none
abbrev pub found : {A : Type 0} → (ℕ → A) → (ℕ → ℕ) → ℕ → Option (A × ℕ)
found value next i = cond (ltb i (next i)) (Some (value i, next i)) None

-- that is what calls give
abbrev pub ReadsThem : {A : Type 0} → (ℕ → Option (A × ℕ) → Type 0) → (ℕ → A) → (ℕ → ℕ) → Type 0
ReadsThem {A} gives value next = (i : ℕ) (r : Option (A × ℕ)) → gives i r → r ≡ found value next i

-- they were written to the front of a buffer, as many as it has room for: how many, and where they end
pub record Lists {A : Type 0} (value : ℕ → A) (next : ℕ → ℕ) (at : ℕ) (entry exit : List A) (r : ℕ × ℕ) : Type 0 where
  pub buffer : exit ≡ items value next (length entry) at ++ drop r.0 entry
  pub count : r.0 ≡ length (items value next (length entry) at)
  pub end : r.1 ≡ items_end next (length entry) at
  pub few : r.0 ≤ length entry

-- a number of 16 bits behind one space
abbrev pub is_number : List ℕ → ℕ → Bool
is_number line i = eqb (byte_at line i) 32 && ltb 0 (size_at 65535 line (i + 1))

abbrev pub number_next : List ℕ → ℕ → ℕ
number_next line i = cond (is_number line i) (i + 1 + size_at 65535 line (i + 1)) i

abbrev pub number_value : List ℕ → ℕ → ℕ
number_value line i = value_at 65535 line (i + 1)

-- what a hexadecimal digit stands for, 16 for any other byte
abbrev pub hex_of : ℕ → ℕ
hex_of b = cond (is_digit b) (b - 48) (cond (leb 97 b && leb b 102) (b - 87) 16)

-- a byte as a pair of them
abbrev pub is_pair : List ℕ → ℕ → Bool
is_pair word i = ltb (hex_of (byte_at word i)) 16 && ltb (hex_of (byte_at word (i + 1))) 16

abbrev pub pair_next : List ℕ → ℕ → ℕ
pair_next word i = cond (is_pair word i) (i + 2) i

abbrev pub pair_value : List ℕ → ℕ → ℕ
pair_value word i = hex_of (byte_at word i) * 16 + hex_of (byte_at word (i + 1))

-- `-`, which is no bytes
abbrev pub is_dash : List ℕ → Bool
is_dash word = eqb (length word) 1 && eqb (byte_at word 0) 45

-- the bytes of a word, as many as there is room for: pairs of digits, at least one, and nothing else; or `-`
abbrev pub bytes_in : ℕ → List ℕ → List ℕ
bytes_in room word = items (pair_value word) (pair_next word) room 0

abbrev pub is_bytes : ℕ → List ℕ → Bool
is_bytes room word = is_dash word || (ltb 0 (length word) && leb (length word) (items_end (pair_next word) room 0))

-- they were written to the front of a buffer: how many, as an error where it is no such word
pub record Bytes (word entry exit : List ℕ) (r : Result ℕ ℕ) : Type 0 where
  pub buffer : Puts (bytes_in (length entry) word) entry exit 0 (length (bytes_in (length entry) word))
  pub count : r ≡ cond (is_bytes (length entry) word) (Ok (length (bytes_in (length entry) word))) (Err (length (bytes_in (length entry) word)))
  pub few : length (bytes_in (length entry) word) ≤ length entry

-- the numbers of a line from an index on, as many as there is room for, and whether the line then ends
abbrev pub numbers_from : ℕ → List ℕ → ℕ → List ℕ
numbers_from room line at = items (number_value line) (number_next line) room at

abbrev pub are_all : ℕ → List ℕ → ℕ → Bool
are_all room line at = leb (length line) (items_end (number_next line) room at)

-- they were written: how many, 0 where the line has anything else
pub record Numbers (line : List ℕ) (at : ℕ) (entry exit : List ℕ) (r : ℕ) : Type 0 where
  pub buffer : Puts (numbers_from (length entry) line at) entry exit 0 (length (numbers_from (length entry) line at))
  pub count : r ≡ cond (are_all (length entry) line at) (length (numbers_from (length entry) line at)) 0
  pub few : r ≤ length entry

-- bytes as pairs of digits, `-` for none
abbrev pub glyph_of : ℕ → ℕ
glyph_of d = cond (ltb d 10) (48 + d) (87 + d)

unfoldable pub pairs_of : List ℕ → List ℕ
pairs_of [] = []
pairs_of (b ∷ bytes) = (glyph_of (b / 16) ∷ glyph_of (b % 16) ∷ []) ++ pairs_of bytes

abbrev pub hex_word : List ℕ → List ℕ
hex_word [] = 45 ∷ []
hex_word (b ∷ bytes) = pairs_of (b ∷ bytes)

-- what a lent buffer is filled with before a call, as a byte and as a number
abbrev pub filler : ℕ
filler = 165

abbrev pub filler16 : ℕ
filler16 = 42405

-- all the numbers of a list are this one
abbrev pub all_are : ℕ → List ℕ → Bool
all_are x = list_all (λ y. eqb y x)
