-- A row as a line of decimals, and the row that a text says: what the programs `row` and `pack` print and read.
use Rattle.std.specs.Prelude.{ℕ, ◌+◌, ◌-◌, ◌*◌, Bool, true, false, cond, ◌&&◌, ◌||◌, List, [], ◌∷◌, ◌++◌, eqb}
use Rattle.scope.specs.Outcome.{Answer}
use Rattle.scope.specs.Outcome.{Outcome, gives, refused}
use Rattle.scope.specs.File.{row_of}
use Rattle.scope.specs.Questions.{read_file}
use Rattle.scope.specs.Limits.{longest_row}
use Rattle.scope.specs.Lines.{decimal, refused_line}
use Rattle.text.specs.Reading.{goes_on}
use Rattle.listing.specs.Prints.{Front}
use Rattle.plan.specs.Answers.{Writes}

-- the byte after a number of a row: a space, or a line feed after the last
abbrev pub mark : List ℕ → ℕ
mark [] = 10
mark (n ∷ row) = 32

-- a row as text
unfoldable pub row_line : List ℕ → List ℕ
row_line [] = []
row_line (n ∷ row) = (decimal n ++ (mark row ∷ [])) ++ row_line row

-- what the program `row` prints for a plan file: its row, or its refusal
unfoldable pub row_text : List ℕ → List ℕ
row_text file = said (read_file file longest_row)
  where
    said : Outcome → List ℕ
    said (refused r) = refused_line r
    said (gives n) = row_line (row_of file)

-- bytes enough for it, with at most six bytes a number
abbrev pub row_text_room : ℕ
row_text_room = 62430

-- what the program `pack` reads of a text: six bytes for each of one number more than the longest row has
abbrev pub pack_room : ℕ
pack_room = 62436

-- A text is read byte by byte. `begun` says that a number has begun, and a is what its digits say so far; a digit goes on with it as long as
-- it has no needless zero, and 16 bits (`goes_on` of `text`).

-- a space or a line feed ends it
abbrev pub ends : Bool → ℕ → Bool
ends begun b = begun && (eqb b 32 || eqb b 10)

-- a word that is no number counts as this one, which no field can hold, and nothing is read behind it. So it is refusal 1 as the first
-- word, 4 after the last field, and else 3, at its index
abbrev pub no_number : ℕ
no_number = 65535

-- the numbers of a text from here on
unfoldable pub numbers_from : Bool → ℕ → List ℕ → List ℕ
numbers_from begun a [] = cond begun (a ∷ []) []
numbers_from begun a (b ∷ text) =
    cond (goes_on 65535 begun a b) (numbers_from true (a * 10 + (b - 48)) text)
    (cond (ends begun b) (a ∷ numbers_from false 0 text) (no_number ∷ []))

-- the row that a text says
abbrev pub numbers_of : List ℕ → List ℕ
numbers_of text = numbers_from false 0 text

-- a text packed of which the first n bytes of a buffer were read: as the whole text is, however long
pub record Packs (text : List ℕ) (n : ℕ) (entry exit : List ℕ) (r : Answer) : Type 0 where
  pub all : (whole : List ℕ) → Front text n whole → Writes (numbers_of whole) entry exit r
