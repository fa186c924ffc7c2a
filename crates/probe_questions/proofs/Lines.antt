-- The lines of the questions that lend nothing, of what the calls gave.
use Prim.Native.Nat.{ℕ, ◌<◌, ◌≤◌}
use mathlib.Core.Path.{◌≡◌, refl, sym, ◌∙◌, ap, ap₂, subst}
use mathlib.Core.List.{List}
use lib.ListN.{length, drop}
use lib.IntN.{ℤ, pos, negsuc}
use native.Mathlib.Omega.{arith}
use mir.Syntax.{w32}
use mir.Val.{SFits, to_z, of_z}
use mir.ValLaws.{to_z-of_z}
use lib.Dec.{leb→le}
use Rattle.scope.specs.declared.Refusal.{Refusal}
use Rattle.std.specs.Prelude.{Option, Ok, Err}
use Rattle.spare.proofs.Bounds.{answer-lies}
use borrow.Author.Tests.{lt-ltb, le-ltb, eq-eqb, ne_eqb}
use Rattle.scope.specs.Outcome.{Outcome, gives, refused}
use Rattle.scope.specs.Plan.{at}
use Rattle.scope.specs.Lines.{refused_line}
use Rattle.scope.specs.Questions.{may_spare, slack}
use Rattle.text.specs.Text.{Puts}
use Rattle.spare.specs.Slack.{Spare}
use Rattle.spare.specs.Slack.{said, value, unless_refused, Slacks, Between}
use Rattle.probe_lines.specs.Answers.{unknown_line, part_line, place_line, slack_line}
use Rattle.probe_questions.specs.Asked.{Lays, part_or_none, slack_or, spare_line, of_place, place_answer, found_line}
use Rattle.probe_questions.specs.Asked.{spoilt_row, spoilt_bytes, spoil_answer}
use Rattle.probe_questions.specs.declared.OfPlace.{OfPlace}
use Rattle.verdicts.specs.Verdict.{Ruling}
use Rattle.probe_questions.proofs.Lent.{enough}

-- a text is laid, and so is another that is the same
pub puts_as : {s t before after : List ℕ} {at next : ℕ} → s ≡ t → Puts s before after at next → Puts t before after at next
puts_as {before} {after} {at} {next} e p = subst (λ (x : List ℕ). Puts x before after at next) e p

pub lays : {Says : List ℕ → Type 0} {line before after : List ℕ} {from next : ℕ} → Says line → Puts line before after from next →
    Lays Says before after from next
lays {line} says puts = record { line = line; says = says; puts = puts }

pub place_as : {i j : ℕ} {links path : List ℕ} → i ≡ j → links ≡ path → place_line i (length links) ≡ place_line j (length path)
place_as e s = ap₂ (λ (k : ℕ) (l : List ℕ). place_line k (length l)) e s

pub part-long : (links path : List ℕ) → links ≡ path → 65536 < length links → unknown_line ≡ part_or_none path
part-long links path e h = subst (λ (l : List ℕ). unknown_line ≡ part_or_none l) e (sym (rw (lt-ltb 65536 (length links) h)))

pub part-short : (links path : List ℕ) → links ≡ path → length links ≤ 65536 → part_line links ≡ part_or_none path
part-short links path e h = subst (λ (l : List ℕ). part_line links ≡ part_or_none l) e (sym (rw (le-ltb 65536 (length links) h)))

-- a refusal's line has no slack in it
spare_either : (o : Outcome) (z : ℤ) → slack_or o (unless_refused o z) ≡ slack_or o z
spare_either (gives n) z = refl
spare_either (refused r) z = refl

-- a slack fits 32 bits
fits : (z : ℤ) → Between z → SFits w32 z
fits (pos n) h = record { sfits = let l = leb→le n 63 h.high.le in omega arith }
fits (negsuc n) h = record { sfits = let l = leb→le n 1534 h.low.le in omega arith }

module _ (row : List ℕ) (m p : ℕ) where
  answered : (s : Spare) → Slacks row m p s → slack_or (said s) (value s) ≡ spare_line row m p
  answered s a = ap₂ slack_or a.answer a.value ∙ spare_either (may_spare row m p) (slack row m p)

  pub slots_line : (s : Spare) (z : ℤ) → Slacks row m p s → s ≡ Ok z → slack_line (to_z w32 (of_z w32 z)) ≡ spare_line row m p
  slots_line s z given e =
      let a : Slacks row m p (Ok z) = rw e at given in
      ap slack_line (to_z-of_z w32 z (fits z (answer-lies row m p z a))) ∙ answered (Ok z) a

  pub no_slots_line : (s : Spare) (r : Refusal) → Slacks row m p s → s ≡ Err r → refused_line r ≡ spare_line row m p
  no_slots_line s r given e =
      let a : Slacks row m p (Err r) = rw e at given in
      answered (Err r) a

-- what is asked of a place
pub placed : (asks is : OfPlace) (given row : List ℕ) (m p : ℕ) → asks ≡ is → row ≡ drop 2 given → m ≡ at given 0 → p ≡ at given 1 →
    2 ≤ length given → of_place is row m p ≡ place_answer asks given
placed asks is given row m p e f g h long =
    ap (λ (s : List ℕ). of_place is s m p) f
    ∙ ap₂ (of_place is (drop 2 given)) g h
    ∙ ap (λ (a : OfPlace). of_place a (drop 2 given) (at given 0) (at given 1)) (sym e)
    ∙ enough 2 2 (length given) (of_place asks (drop 2 given) (at given 0) (at given 1)) refl long

pub found_within : {r : Ruling} (inner : Option ℕ) {is : Option ℕ} → r ≡ Ok inner → inner ≡ is → r ≡ Ok is
found_within inner e f = e ∙ ap Ok f

pub found_as : {r is : Ruling} (none some lent : List ℕ) → r ≡ is → found_line none some is lent ≡ found_line none some r lent
found_as none some lent e = ap (λ (r : Ruling). found_line none some r lent) (sym e)

-- which of them is spoilt
module _ (lent file : ℕ) (given : List ℕ) where
  pub spoil_none : (length given ≡ 2 → ⊥) → unknown_line ≡ spoil_answer lent file given
  spoil_none n = sym (rw (ne_eqb (length given) 2 n))

  module _ (bits index : ℕ) (e : bits ≡ at given 0) (f : index ≡ at given 1) (two : length given ≡ 2) where
    pub spoil_numbers : bits ≡ 16 → spoilt_row lent index ≡ spoil_answer lent file given
    spoil_numbers h = ap (spoilt_row lent) f ∙ sym (rw (eq-eqb (length given) 2 two, eq-eqb (at given 0) 16 (sym e ∙ h)))

    pub spoil_others : (bits ≡ 16 → ⊥) → spoilt_bytes file index ≡ spoil_answer lent file given
    spoil_others h =
        ap (spoilt_bytes file) f ∙ sym (rw (eq-eqb (length given) 2 two, ne_eqb (at given 0) 16 (λ (k : at given 0 ≡ 16). h (e ∙ k))))
