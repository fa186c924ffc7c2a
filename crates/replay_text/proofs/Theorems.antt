-- What holds of the text that the replay program prints: the first 7,349 bytes of a plan file and the first 651 of an input decide it, it has
-- room in 36,942 bytes, and a call of `replay_text` allows one outcome.
use Prim.Native.Nat.{ℕ, ◌≤◌, ◌<◌}
use mathlib.Core.Path.{◌≡◌, refl, sym, ◌∙◌, ap}
use mathlib.Core.List.{List}
use native.Mathlib.Omega.{arith}
use lib.ListN.{length, get_or, take}
use lib.Seq.{take-take}
use borrow.Author.Tests.{le-leb}
use Rattle.scope.specs.Outcome.{Answer}
use Rattle.scope.specs.Outcome.{Outcome, gives, refused, outcome_of, and_then}
use Rattle.scope.specs.File.{row_of}
use Rattle.scope.specs.Plan.{plan_of}
use Rattle.scope.specs.Cycle.{event_row}
use Rattle.scope.specs.Questions.{read_file, replay}
use Rattle.scope.specs.Lines.{cuts_from, cuts_of, replay_text}
use Rattle.scope.specs.Limits.{longest_row, longest_events, plan_room, cuts_room}
use Rattle.rows.proofs.Walked.{walked}
use Rattle.rows.proofs.Parts.{message-count, timeout-is}
use Rattle.plan.proofs.Reading.{read-good}
use Rattle.listing.proofs.Lines.{refused-size}
use Rattle.listing.proofs.Room.{listing-room}
use Rattle.listing.proofs.Fronts.{from_front}
use Rattle.listing.specs.Room.{listing_room}
use Rattle.listing.specs.Prints.{Says, Front}
use Rattle.listing.proofs.Printing.{says-only}
use Rattle.cut_lines.proofs.Replay.{replay-enough}
use Rattle.replay_text.specs.Text.{text_of, may_list}
use Rattle.replay_text.proofs.Text.{text-refused, text_given}
use Rattle.replay_text.proofs.Low.{event-numbers}

file-front : (file input : List ℕ) → replay_text (take plan_room file) input ≡ replay_text file input
file-front file input =
    from_front (λ (f : List ℕ). replay_text (take plan_room file) input ≡ replay_text f input) file
    (λ r front whole _. text-refused (take plan_room file) input r front ∙ sym (text-refused file input r whole)) refl

input-front : (file input : List ℕ) → replay_text file (take cuts_room input) ≡ replay_text file input
input-front file input = by (read_file file longest_row) refl
  where
    by : (o : Outcome) → read_file file longest_row ≡ o → replay_text file (take cuts_room input) ≡ replay_text file input
    by (gives n) e =
        text_given file (take cuts_room input) n e
        ∙ sym (replay-enough (row_of file) (take cuts_room input) longest_events cuts_room (omega arith))
        ∙ ap (λ (t : List ℕ). text_of (row_of file) (cuts_from 65 t 0)) (take-take cuts_room cuts_room input (omega arith))
        ∙ replay-enough (row_of file) input longest_events cuts_room (omega arith)
        ∙ sym (text_given file input n e)
    by (refused r) e = text-refused file (take cuts_room input) r e ∙ sym (text-refused file input r e)

-- so many bytes of the file and of the input print what the whole prints, however long they are
pub front-prints : (file input : List ℕ) → replay_text (take plan_room file) (take cuts_room input) ≡ replay_text file input
front-prints file input = file-front file (take cuts_room input) ∙ input-front file input

-- 36,942 bytes, which `listing` calls its room, are room for every text: so the program, which lends as many, is never refused for room
pub text-room : (file input : List ℕ) → length (replay_text file input) ≤ listing_room
text-room file input = by (read_file file longest_row) refl
  where
    by : (o : Outcome) → read_file file longest_row ≡ o → length (replay_text file input) ≤ listing_room
    by (refused r) e = omega (arith, refused-size r, ap length (text-refused file input r e))
    by (gives n) e =
        let row = row_of file in
        let cuts = cuts_of input in
        let good = read-good file row longest_row n e refl in
        let lies = walked row good.form in
        let m = message-count row in
        let few = lies.messages in
        let time : (plan_of row).timeout ≤ 64 = rw (timeout-is row) lies.timeout in
        let small : (i : ℕ) → get_or (event_row (plan_of row) cuts) i 0 < 65536 = λ i. omega (arith, event-numbers row lies cuts i) in
        let r = listing-room (replay row cuts longest_events) (plan_of row) (event_row (plan_of row) cuts) (omega arith) (omega arith) time small in
        omega (arith, ap length (text_given file input n e))

pub never_short : (file input entry exit : List ℕ) (r : Answer) → listing_room ≤ length entry →
    Says (may_list file input) (replay_text file input) entry exit r →
    outcome_of r ≡ and_then (may_list file input) (λ _. gives (length (replay_text file input)))
never_short file input entry exit r enough s =
    let fits : length (replay_text file input) ≤ length entry = omega (arith, text-room file input) in
    s.answer ∙ rw (le-leb (length (replay_text file input)) (length entry) fits)

-- two outcomes that the promise of `replay_text` allows are equal
pub one_text : (file input entry exit exit' : List ℕ) (r r' : Answer) → Says (may_list file input) (replay_text file input) entry exit r →
    Says (may_list file input) (replay_text file input) entry exit' r' → (r ≡ r') × (exit ≡ exit')
one_text file input entry exit exit' r r' p q = says-only p q

-- what the program has read prints what there is
pub fronts : (plan cuts file input : List ℕ) (p i : ℕ) → length plan ≡ plan_room → length cuts ≡ cuts_room →
    Front plan p file → Front cuts i input →
    replay_text (take p plan) (take i cuts) ≡ replay_text file input
fronts plan cuts file input p i l m f g =
    let a : take p plan ≡ take plan_room file = f ∙ ap (λ (n : ℕ). take n file) l in
    let b : take i cuts ≡ take cuts_room input = g ∙ ap (λ (n : ℕ). take n input) m in
    rw (a, b) (front-prints file input)
