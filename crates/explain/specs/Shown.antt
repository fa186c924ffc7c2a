-- What the program shows, for the plan file and the input that it has read.
use Rattle.std.specs.Prelude.{ℕ, ◌≡◌, List, length, replicate, Option, Some, None}
use Rattle.scope.specs.Outcome.{Answer}
use Rattle.scope.specs.Limits.{crossed_size}
use Rattle.scope.specs.Plan.{Plan}
use Rattle.scope.specs.Lines.{capture_of, ExplainText}
use Rattle.capture.specs.declared.Kept.{Kept}
use Rattle.capture.specs.Kept.{Keeps, Fits, Small}
use Rattle.capture_lines.specs.declared.Reading.{Reading}
use Rattle.capture_lines.specs.Rest.{SmallLine}
use Rattle.capture_lines.specs.Reads.{Reads}
use Rattle.explain_text.specs.Text.{CaptureText}
use Rattle.listing.specs.Prints.{Front, PrintedOne}
use Rattle.program_io.specs.Pieces.{CameIn, CameWhole}

-- the pieces of so many turns are read
pub record Going (plan : Plan) (crossed : List ℕ) (r : Reading) (turns : ℕ) : Type 0 where
  pub before : List ℕ
  pub came : CameIn turns before
  pub reads : Reads plan before crossed r
  pub size : length crossed ≡ crossed_size
  pub fits : Fits r.kept
  pub line : SmallLine r.line

-- the table has no crossing yet
pub record MayStart (row crossed : List ℕ) : Type 0 where
  pub small : Small row
  pub zeros : crossed ≡ replicate crossed_size 0

-- all of standard input came, and so much is kept of its capture
pub record WholeInput (plan : Plan) (crossed : List ℕ) (kept : Kept) : Type 0 where
  pub input : List ℕ
  pub came : CameWhole input
  pub keeps : Keeps plan (capture_of input) crossed kept

abbrev pub Captured : Plan → List ℕ → Option Kept → Type 0
Captured plan crossed (Some kept) = WholeInput plan crossed kept
Captured plan crossed None = Unit {0}

-- what is shown of a good row: the text of its capture, for an input that came
pub record ShownOf (row entry exit : List ℕ) (r : Answer) : Type 0 where
  pub input : List ℕ
  pub came : CameWhole input
  pub shows : PrintedOne (CaptureText row (capture_of input)) entry exit r

abbrev pub ShowsRow : List ℕ → List ℕ → List ℕ → Option Answer → Type 0
ShowsRow row entry exit (Some r) = ShownOf row entry exit r
ShowsRow row entry exit None = Unit {0}

-- what is shown of a plan file: a text that stands for every input, where the plan is refused before any is read, or that of the input that
-- came
pub data Shown (file entry exit : List ℕ) (r : Answer) : Type 0 where
  whatever : ((input : List ℕ) → PrintedOne (ExplainText file input) entry exit r) → Shown file entry exit r
  of : (input : List ℕ) → CameWhole input → PrintedOne (ExplainText file input) entry exit r → Shown file entry exit r

-- of the whole plan file, however long it is; nothing where standard input could not be read
abbrev pub Shows : List ℕ → ℕ → List ℕ → List ℕ → Option Answer → Type 0
Shows plan p entry exit (Some r) = (file : List ℕ) → Front plan p file → Shown file entry exit r
Shows plan p entry exit None = Unit {0}
