-- What the program prints: the text of the file that it has read, or the line of its refusal.
use Prim.Native.Nat.{ℕ, ◌≤◌}
use mathlib.Core.Path.{◌≡◌}
use mathlib.Core.List.{List}
use native.Mathlib.Omega.{arith}
use lib.ListN.{length, take}
use Rattle.scope.specs.Outcome.{Answer}
use Rattle.std.specs.Prelude.{Ok, Err}
use Rattle.scope.specs.declared.Refusal.{Refusal}
use Rattle.scope.specs.Limits.{plan_room, longest_row}
use Rattle.scope.specs.Questions.{read_file}
use Rattle.scope.specs.Lines.{refused_line}
use Rattle.listing.specs.Prints.{Says, Prints, Printed, Front}
use Rattle.listing.proofs.Printing.{printed_given, printed-refused}
use Rattle.row_text.specs.Rows.{row_text, row_text_room}
use Rattle.row_text.proofs.Ways.{text-refused}
use Rattle.row_text.proofs.Theorems.{text-room, front}

module _ (plan : List ℕ) (p : ℕ) (entry exit : List ℕ) (a : Answer) (l : length plan ≡ plan_room) (room : length entry ≡ row_text_room)
    (s : Says (read_file (take p plan) longest_row) (row_text (take p plan)) entry exit a) where
  fits : length (row_text (take p plan)) ≤ length entry
  fits = omega (arith, text-room (take p plan))

  pub given : (n : ℕ) → a ≡ Ok n → (file : List ℕ) → Front plan p file → Printed (row_text file) entry exit (Ok n)
  given n e file f =
      printed_given (row_text (take p plan)) entry fits (read_file (take p plan) longest_row) (row_text file) (front plan file p l f) a s n e

  pub refuses : (r : Refusal) → a ≡ Err r → (exit' : List ℕ) (b : Answer) → Prints (refused_line r) exit exit' b →
      (file : List ℕ) → Front plan p file → Printed (row_text file) entry exit' b
  refuses r e exit' b q file f =
      printed-refused (row_text (take p plan)) entry fits (read_file (take p plan) longest_row) (row_text file) (front plan file p l f) a s r e
      (text-refused (take p plan)) q
