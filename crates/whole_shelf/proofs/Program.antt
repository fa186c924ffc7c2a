-- What the program shows: of all of standard input, and of plan files however long they are.
use Prim.Native.Nat.{ℕ, ◌≤◌}
use native.Mathlib.Omega.{arith}
use mathlib.Core.Path.{◌≡◌, refl, sym, ◌∙◌, ap, subst}
use mathlib.Core.List.{List, []}
use lib.ListN.{length, take, length-map}
use Rattle.scope.specs.Outcome.{Answer}
use Rattle.std.specs.Prelude.{Ok, Err}
use Rattle.scope.specs.declared.Refusal.{Refusal}
use Rattle.scope.specs.Limits.{names_room}
use Rattle.scope.specs.Outcome.{outcome_of, gives, refused}
use Rattle.scope.specs.Lines.{refused_line}
use Rattle.scope.specs.Shelf.{Shelved, names_of, check_names, sheet, shelf_text}
use Rattle.scope.proofs.Outcomes.{not-both}
use Rattle.plan.proofs.Ways.{gave, refused_as}
use Rattle.text.proofs.Laid.{laid-front}
use Rattle.listing.specs.Prints.{Printed, Prints, Front}
use Rattle.listing.proofs.Printing.{printed}
use Rattle.listing.proofs.Lines.{refused-size}
use Rattle.names.proofs.Check.{Checked, checked}
use Rattle.names.proofs.Front.{Decides, front_decides}
use Rattle.sheet_lines.specs.Sheet.{names_on}
use Rattle.sheet_lines.proofs.Room.{Short, sheet-size}
use Rattle.shelf_text.specs.Room.{sheet_room}
use Rattle.shelf_text.proofs.Fronts.{same-sheet}
use Rattle.whole_shelf.specs.Shown.{none, MayRead, Sheets, Shown}

text-refused : (input : List ℕ) (shelf : List Shelved) (x : Refusal) → check_names (names_of input) ≡ refused x → shelf_text input shelf ≡
    refused_line x
unfolding shelf_text
text-refused input shelf x e = rw e

text_given : (input : List ℕ) (shelf : List Shelved) (n : ℕ) → check_names (names_of input) ≡ gives n → shelf_text input shelf ≡ sheet shelf
unfolding shelf_text
text_given input shelf n e = rw e

module _ (buffer : List ℕ) (n : ℕ) (entry exit : List ℕ) (long : length buffer ≡ names_room) (room : length entry ≡ sheet_room) where
  decides : (whole : List ℕ) → Front buffer n whole → Decides (take n buffer) whole
  decides whole f = front_decides buffer n whole long f

  -- a line is refused
  pub shown-refused : (a : Answer) (x : Refusal) → outcome_of a ≡ check_names (names_of (take n buffer)) → a ≡ Err x → (r : Answer) →
      Prints (refused_line x) entry exit r → (whole : List ℕ) → Front buffer n whole → Shown whole entry exit r
  shown-refused a x told is r line whole f =
      let all : Printed (refused_line x) entry exit r = printed (refused_line x) entry (omega (arith, refused-size x)) line in
      let e : check_names (names_of whole) ≡ refused x = sym (decides whole f).same ∙ refused_as x is told in
      record {
        read = [];
        came = none;
        unread = λ y h. refl;
        names = λ count h. not-both (sym e ∙ h);
        printed = λ shelf h. subst (λ (text : List ℕ). Printed text entry exit r) (sym (text-refused whole shelf x e)) all;
      }

  -- the sheet
  module _ (a : Answer) (count : ℕ) (told : outcome_of a ≡ check_names (names_of (take n buffer))) (is : a ≡ Ok count) where
    given : check_names (names_of (take n buffer)) ≡ gives count
    given = gave count is told

    pub may_read : MayRead (take n buffer) count
    may_read = record { checked = given }

    pub shown-sheet : (r : ℕ) → Sheets (take n buffer) entry exit r → (whole : List ℕ) → Front buffer n whole → Shown whole entry exit (Ok r)
    shown-sheet r sheets whole f =
        let same : take n buffer ≡ whole = (decides whole f).all count given in
        let here : Sheets whole entry exit r = subst (λ (input : List ℕ). Sheets input entry exit r) same sheets in
        let e : check_names (names_of whole) ≡ gives count = sym (decides whole f).same ∙ given in
        let are : Checked (names_of whole) count = checked (names_of whole) count e in
        let short : Short (names_on here.read) =
        subst Short (sym here.names) (λ i h. (are.each i h).short) in
        let few : length here.read ≤ 250 =
        omega (arith, are.few, ap length here.names, length-map here.read (λ (s : Shelved). s.name)) in
        let size = sheet-size here.read few short in
        let end : r ≡ length (sheet here.read) = omega (arith, here.puts.ends) in
        let laid : Printed (sheet here.read) entry exit (Ok r) =
        record { answer = ap gives end; buffer = here.puts.buffer ∙ laid-front entry (sheet here.read) (omega (arith, size, room)) } in
        record {
          read = here.read;
          came = here.came;
          unread = λ x h. not-both (sym h ∙ e);
          names = λ c h. here.names;
          printed = λ shelf h.
              subst (λ (text : List ℕ). Printed text entry exit (Ok r))
              (ap sheet h ∙ same-sheet shelf ∙ sym (text_given whole shelf count e)) laid;
        }
