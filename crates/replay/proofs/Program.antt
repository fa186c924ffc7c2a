-- What the program prints: the text of the file and the input that it has read, or the line of a refusal.
use Prim.Native.Nat.{ℕ, ◌≤◌}
use mathlib.Core.Path.{◌≡◌}
use mathlib.Core.List.{List}
use native.Mathlib.Omega.{arith}
use lib.ListN.{length, take}
use Rattle.scope.specs.Outcome.{Answer}
use Rattle.std.specs.Prelude.{Ok, Err}
use Rattle.scope.specs.declared.Refusal.{Refusal}
use Rattle.scope.specs.Limits.{plan_room, cuts_room}
use Rattle.scope.specs.Lines.{replay_text, refused_line}
use Rattle.listing.specs.Prints.{Says, Prints, Printed, Front}
use Rattle.listing.specs.Room.{listing_room}
use Rattle.listing.proofs.Printing.{printed_given, printed-refused}
use Rattle.replay_text.specs.Text.{may_list}
use Rattle.replay_text.proofs.Text.{text-line}
use Rattle.replay_text.proofs.Theorems.{text-room, fronts}

module _ (plan : List ℕ) (p : ℕ) (input : List ℕ) (i : ℕ) (entry exit : List ℕ) (a : Answer)
    (l : length plan ≡ plan_room) (m : length input ≡ cuts_room) (room : length entry ≡ listing_room)
    (s : Says (may_list (take p plan) (take i input)) (replay_text (take p plan) (take i input)) entry exit a) where
  fits : length (replay_text (take p plan) (take i input)) ≤ length entry
  fits = omega (arith, text-room (take p plan) (take i input))

  pub given : (n : ℕ) → a ≡ Ok n → (file cuts : List ℕ) → Front plan p file → Front input i cuts →
      Printed (replay_text file cuts) entry exit (Ok n)
  given n e file cuts f g =
      printed_given (replay_text (take p plan) (take i input)) entry fits (may_list (take p plan) (take i input)) (replay_text file cuts)
      (fronts plan input file cuts p i l m f g) a s n e

  pub refuses : (r : Refusal) → a ≡ Err r → (exit' : List ℕ) (b : Answer) → Prints (refused_line r) exit exit' b →
      (file cuts : List ℕ) → Front plan p file → Front input i cuts → Printed (replay_text file cuts) entry exit' b
  refuses r e exit' b q file cuts f g =
      printed-refused (replay_text (take p plan) (take i input)) entry fits (may_list (take p plan) (take i input)) (replay_text file cuts)
      (fronts plan input file cuts p i l m f g) a s r e (text-line (take p plan) (take i input)) q
