-- A text that was first laid over nothing, which tells how long it is, and then, where there is room, over the whole buffer.
use Prim.Native.Nat.{ℕ, ◌≤◌, ◌<◌}
use mathlib.Core.Path.{◌≡◌, refl, sym, ◌∙◌, ap, subst}
use mathlib.Core.List.{List, [], ◌++◌}
use native.Mathlib.Omega.{arith}
use lib.ListN.{length}
use borrow.Author.Tests.{le-leb, lt-leb}
use Rattle.scope.specs.Outcome.{Answer}
use Rattle.std.specs.Prelude.{Ok, Err}
use Rattle.scope.specs.declared.Refusal.{Refusal}
use Rattle.scope.proofs.Outcomes.{not-both, same_answer}
use Rattle.scope.specs.Outcome.{Outcome, outcome_of, gives, refused, refuse, and_then, room}
use Rattle.scope.specs.Lines.{refused_line}
use Rattle.scope.specs.Questions.{after}
use Rattle.text.specs.Text.{Puts, laid}
use Rattle.text.proofs.Laid.{laid_none, laid-front}
use Rattle.listing.specs.Prints.{Says, Prints, Printed}

module _ {text b : List ℕ} {n : ℕ} (p : Puts text [] b 0 n) where
  -- nothing was written, and n is the text's length
  pub counted : b ≡ []
  counted = p.buffer ∙ laid_none [] 0 text (omega arith)

  pub needed : n ≡ length text
  needed = let e = p.ends in omega arith

  same : (entry : List ℕ) → length (b ++ entry) ≡ length entry
  same entry = rw counted

  pub prints-short : (entry : List ℕ) (a : Answer) → length (b ++ entry) < n → outcome_of a ≡ refuse 13 n → Prints text entry (b ++ entry) a
  unfolding after
  prints-short entry a h is =
      let short : length entry < length text = omega (arith, needed, same entry) in
      record {
        answer = is ∙ rw (needed, lt-leb (length text) (length entry) short);
        buffer = rw (is, counted);
      }

  pub prints-whole : (entry : List ℕ) {c : List ℕ} {m : ℕ} → n ≤ length (b ++ entry) → Puts text (b ++ entry) c 0 m →
      Prints text entry c (Ok n)
  unfolding after
  prints-whole entry h q =
      let room : length text ≤ length entry = omega (arith, needed, same entry) in
      record {
        answer = rw (needed, le-leb (length text) (length entry) room);
        buffer = q.buffer ∙ ap (λ (x : List ℕ). laid (x ++ entry) 0 text) counted ∙ laid-front entry text room;
      }

-- a text under another name
pub prints_as : {text text' entry exit : List ℕ} {r : Answer} → text ≡ text' → Prints text entry exit r → Prints text' entry exit r
prints_as e p = rw e at p

-- what may be said, and a text, under other names; what stands before a text has let it through; what stands before it has refused
pub says_as : {may may' : Outcome} {text text' entry exit : List ℕ} {r : Answer} → may ≡ may' → text ≡ text' →
    Says may text entry exit r → Says may' text' entry exit r
says_as d e p = rw (d, e) at p

pub says_given : {may : Outcome} {text entry exit : List ℕ} {r : Answer} (n : ℕ) → may ≡ gives n → Prints text entry exit r →
    Says may text entry exit r
says_given {may} {text} {entry} n e p =
    record { answer = p.answer ∙ sym (ap (λ (o : Outcome). and_then o (λ _. room (length text) (length entry))) e); buffer = p.buffer }

pub says-refused : {may : Outcome} (text entry : List ℕ) (r : Refusal) → may ≡ refused r → Says may text entry entry (Err r)
unfolding after
says-refused text entry r e = record { answer = rw e; buffer = refl }

-- A program that prints what was said, or else the line of the refusal.
module _ (text entry : List ℕ) (fits : length text ≤ length entry) where
  has_room : room (length text) (length entry) ≡ gives (length text)
  has_room = rw (le-leb (length text) (length entry) fits)

  pub printed : {exit : List ℕ} {r : Answer} → Prints text entry exit r → Printed text entry exit r
  unfolding after
  printed {exit} {r} p =
      let e : outcome_of r ≡ gives (length text) = p.answer ∙ has_room in
      record { answer = e; buffer = p.buffer ∙ ap (λ (o : Outcome). after o text entry) e }

  gave : (may : Outcome) (n : ℕ) {exit : List ℕ} → Says may text entry exit (Ok n) → Printed text entry exit (Ok n)
  gave (gives m) n s = printed (record { answer = s.answer; buffer = s.buffer })
  gave (refused r) n s = not-both (sym s.answer)

  refuses : (may : Outcome) → ((r : Refusal) → may ≡ refused r → text ≡ refused_line r) → (r : Refusal) {exit exit' : List ℕ} {a : Answer} →
      Says may text entry exit (Err r) → Prints (refused_line r) exit exit' a → Printed text entry exit' a
  unfolding after
  refuses (gives m) line r s p = not-both (s.answer ∙ has_room)
  refuses (refused q) line r {exit} {exit'} {a} s p =
      let is : text ≡ refused_line r = line r (sym s.answer) in
      let same : exit ≡ entry = s.buffer in
      printed (prints_as (sym is) (rw same at p))

  -- under the name that the text has for the whole of what was read
  module _ (may : Outcome) (whole : List ℕ) (is : text ≡ whole) (a : Answer) {exit : List ℕ} (s : Says may text entry exit a) where
    pub printed_given : (n : ℕ) → a ≡ Ok n → Printed whole entry exit (Ok n)
    printed_given n e = subst (λ (t : List ℕ). Printed t entry exit (Ok n)) is (gave may n (rw e at s))

    pub printed-refused : (r : Refusal) → a ≡ Err r → ((r : Refusal) → may ≡ refused r → text ≡ refused_line r) →
        {exit' : List ℕ} {b : Answer} → Prints (refused_line r) exit exit' b → Printed whole entry exit' b
    printed-refused r e line {exit'} {b} p = subst (λ (t : List ℕ). Printed t entry exit' b) is (refuses may line r (rw e at s) p)

-- two outcomes that the statement allows are equal
pub says-only : {may : Outcome} {text entry exit exit' : List ℕ} {r r' : Answer} → Says may text entry exit r → Says may text entry exit' r' →
    (r ≡ r') × (exit ≡ exit')
says-only {may} {text} {entry} {exit} {exit'} {r} {r'} p q =
    let e : outcome_of r ≡ outcome_of r' = p.answer ∙ sym q.answer in
    (same_answer r r' e, p.buffer ∙ ap (λ (o : Outcome). after o text entry) e ∙ sym q.buffer)
