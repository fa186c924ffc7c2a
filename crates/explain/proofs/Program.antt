-- What the program has read and what it shows: the pieces of standard input turn by turn, and the text of what came.
use Prim.Native.Nat.{ℕ, ◌+◌}
use mathlib.Core.Path.{◌≡◌, sym, subst}
use mathlib.Core.List.{List, [], ◌++◌}
use lib.ListN.{length, take}
use Rattle.std.proofs.Common.{Option, Some, None}
use Rattle.scope.specs.Outcome.{Answer}
use Rattle.scope.specs.declared.Refusal.{Refusal}
use Rattle.scope.specs.Limits.{crossed_size, plan_room, longest_row}
use Rattle.scope.specs.Outcome.{gives, refused}
use Rattle.scope.specs.File.{row_of}
use Rattle.scope.specs.Plan.{Plan}
use Rattle.scope.specs.Questions.{read_file}
use Rattle.scope.specs.Lines.{refused_line}
use Rattle.capture.specs.declared.Kept.{Kept}
use Rattle.capture_lines.specs.declared.Reading.{Reading}
use Rattle.capture_lines.specs.Reads.{Starts, Feeds, Finishes, Reads}
use Rattle.listing.specs.Prints.{Prints}
use Rattle.explain_text.specs.Room.{explain_room}
use Rattle.explain_text.proofs.Theorems.{shown-refused, shown_given}
use Rattle.program_io.specs.Pieces.{Piece}
use Rattle.program_io.proofs.Pieces.{none_came}
use Rattle.explain.specs.Shown.{Going, MayStart, WholeInput, ShowsRow, whatever, of, Shows}

-- before the first turn
pub going-first : (plan : Plan) (row crossed : List ℕ) (r : Reading) → MayStart row crossed → length crossed ≡ crossed_size → Starts r →
    Going plan crossed r 0
going-first plan row crossed r may size s = record {
  before = [];
  came = none_came;
  reads = subst (λ (c : List ℕ). Reads plan [] c r) (sym may.zeros) (s.reads plan);
  size = size;
  fits = s.fits;
  line = s.line;
}

module _ (plan : Plan) (crossed : List ℕ) (r : Reading) (turn n : ℕ) (piece : List ℕ) (g : Going plan crossed r turn) (p : Piece n turn
    piece) where
  -- a piece more
  pub going_more : (crossed' : List ℕ) (r' : Reading) → Feeds plan (take n piece) crossed r crossed' r' → Going plan crossed' r' (turn + 1)
  going_more crossed' r' f = record {
    before = g.before ++ take n piece;
    came = p.more g.before g.came;
    reads = f.reads g.before g.reads;
    size = f.size;
    fits = f.fits;
    line = f.line;
  }

  -- the end
  pub going-whole : (kept : Kept) → n ≡ 0 → Finishes r kept → WholeInput plan crossed kept
  going-whole kept z f = record {
    input = g.before;
    came = p.end z g.before g.came;
    keeps = f plan g.before crossed g.reads;
  }

-- what is shown of a plan file, by what is shown of its row
module _ (plan : List ℕ) (p : ℕ) (entry exit : List ℕ) (l : length plan ≡ plan_room) where
  pub shows-refused : (r : Refusal) → read_file (take p plan) longest_row ≡ refused r → (a : Answer) → length entry ≡ explain_room →
      Prints (refused_line r) entry exit a → Shows plan p entry exit (Some a)
  shows-refused r e a room q file f = whatever (shown-refused plan p file l f r e room q)

  pub shows_given : (n : ℕ) → read_file (take p plan) longest_row ≡ gives n → (row : List ℕ) → row ≡ row_of (take p plan) → (t : Option Answer) →
      ShowsRow row entry exit t → Shows plan p entry exit t
  shows_given n e row is (Some a) s = λ file f. of s.input s.came (shown_given plan p file l f n e row is s.input s.shows)
  shows_given n e row is None s = tt
