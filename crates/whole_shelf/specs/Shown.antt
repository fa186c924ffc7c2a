-- What the program shows, for the names and the plan files that it has read.
use Rattle.std.specs.Prelude.{ℕ, ◌≡◌, List, [], ◌∷◌, ◌++◌, length, take}
use Rattle.scope.specs.Outcome.{Answer}
use Rattle.scope.specs.declared.Refusal.{Refusal}
use Rattle.scope.specs.Limits.{plan_room}
use Rattle.scope.specs.Outcome.{gives, refused}
use Rattle.scope.specs.Shelf.{Shelved, names_of, check_names, sheet, shelf_text}
use Rattle.text.specs.Text.{Puts}
use Rattle.listing.specs.Prints.{Printed}
use Rattle.program_io.specs.Came.{Came, named}
use Rattle.sheet_lines.specs.declared.Tally.{Tally}
use Rattle.sheet_lines.specs.Sheet.{names_on}
use Rattle.shelf_text.specs.declared.Laid.{Laid}
use Rattle.shelf_text.specs.Lines.{Lays}
use Rattle.shelf_text.specs.Whole.{FrontsOf}

-- what each of these names stands for came from the file of that name, as much of it as can matter, one after another
pub data AllCame : List Shelved → Type 0 where
  none : AllCame []
  more : (read : List Shelved) → AllCame read → (name buffer : List ℕ) (n : ℕ) → Came (named name) n buffer → length buffer ≡ plan_room →
      AllCame (read ++ (record { name = name; file = take n buffer } ∷ []))

-- the file of one name came, and its line is laid
pub record ReadAndLaid (name : List ℕ) (t : Tally) (entry exit : List ℕ) (at : ℕ) (r : Laid) : Type 0 where
  pub buffer : List ℕ
  pub n : ℕ
  pub came : Came (named name) n buffer
  pub long : length buffer ≡ plan_room
  pub lays : Lays (take n buffer) name t entry exit at r

-- no line is refused, and there are so many
pub record MayRead (input : List ℕ) (count : ℕ) : Type 0 where
  pub checked : check_names (names_of input) ≡ gives count

-- the sheet of what came under all names is laid from the front on
pub record Sheets (input entry exit : List ℕ) (r : ℕ) : Type 0 where
  pub read : List Shelved
  pub came : AllCame read
  pub names : names_on read ≡ names_of input
  pub puts : Puts (sheet read) entry exit 0 r

-- what is shown for an input: that of the plan files that came, however long they are. Where a line is refused none came; else one for each
-- name
pub record Shown (input entry exit : List ℕ) (r : Answer) : Type 0 where
  pub read : List Shelved
  pub came : AllCame read
  pub unread : (x : Refusal) → check_names (names_of input) ≡ refused x → read ≡ []
  pub names : (count : ℕ) → check_names (names_of input) ≡ gives count → names_on read ≡ names_of input
  pub printed : (whole : List Shelved) → FrontsOf whole read → Printed (shelf_text input whole) entry exit r
