-- What was read of the lines of a capture, and what is kept of them.
use Rattle.std.specs.Prelude.{ℕ, ◌≡◌, true, false, List, [], ◌++◌, length, replicate}
use Rattle.scope.specs.Limits.{crossed_size}
use Rattle.scope.specs.Plan.{Plan}
use Rattle.scope.specs.Lines.{capture_of}
use Rattle.capture.specs.Kept.{Keeps, Fits, Small, Whole}
use Rattle.capture.specs.declared.Kept.{Kept}
use Rattle.capture_lines.specs.Rest.{rest_of, SmallLine}
use Rattle.capture_lines.specs.declared.Reading.{Reading}

-- `before` is read. Either its whole lines have the triples `seen`, of which none is bad, and whatever follows adds its numbers to them from
-- the midst of the line on; or a bad triple or a line out of form is there, and whatever follows, so much is kept of the whole text's capture
pub data Reads (plan : Plan) (before crossed : List ℕ) (r : Reading) : Type 0 where
  going : {seen : List ℕ} → r.kept.bad ≡ false → Whole seen → Keeps plan seen crossed r.kept →
      ((rest : List ℕ) → capture_of (before ++ rest) ≡ seen ++ rest_of r.line rest) → Reads plan before crossed r
  decided : r.kept.bad ≡ true → ((rest : List ℕ) → Keeps plan (capture_of (before ++ rest)) crossed r.kept) → Reads plan before crossed r

-- bytes may be read
pub record MayRead (row crossed : List ℕ) (r : Reading) : Type 0 where
  pub small : Small row
  pub size : length crossed ≡ crossed_size
  pub fits : Fits r.kept
  pub line : SmallLine r.line

-- a piece was read, whatever was before it
pub record Feeds (plan : Plan) (piece crossed : List ℕ) (r : Reading) (crossed' : List ℕ) (r' : Reading) : Type 0 where
  pub size : length crossed' ≡ crossed_size
  pub fits : Fits r'.kept
  pub line : SmallLine r'.line
  pub reads : (before : List ℕ) → Reads plan before crossed r → Reads plan (before ++ piece) crossed' r'

-- nothing is read, beside a table of zeros
pub record Starts (r : Reading) : Type 0 where
  pub fits : Fits r.kept
  pub line : SmallLine r.line
  pub reads : (plan : Plan) → Reads plan [] (replicate crossed_size 0) r

-- all is read: so much is kept of the text's capture
abbrev pub Finishes : Reading → Kept → Type 0
Finishes r kept = (plan : Plan) (text crossed : List ℕ) → Reads plan text crossed r → Keeps plan (capture_of text) crossed kept
