-- All answers at once: one law for each answer, that a row, k and a list allow one outcome, and that each answer is the verdict's.
use Prim.Native.Nat.{ℕ, zero, suc, ◌+◌, ◌*◌, ◌≤◌, ◌<◌}
use native.Mathlib.Omega.{arith}
use mathlib.Core.Path.{◌≡◌, refl, sym, ◌∙◌, ap, ap₂, subst}
use mathlib.Core.Logic.{inl, inr}
use mathlib.Core.List.{List, ◌++◌}
use lib.ListN.{length, take, take-append-drop}
use lib.Seq.{take-add}
use borrow.Author.Tests.{lt-ltb, le-ltb, le-leb, lt-leb}
use Rattle.scope.specs.Outcome.{Answer}
use Rattle.std.specs.Prelude.{Ok, Err}
use Rattle.scope.specs.declared.Refusal.{Refusal}
use Rattle.scope.specs.Outcome.{Outcome, gives, refused, refuse, outcome_of}
use Rattle.scope.specs.Plan.{Plan, plan_of, message_count}
use Rattle.scope.specs.Questions.{judge}
use Rattle.scope.specs.Verdict.{Fails}
use Rattle.scope.proofs.Order.{first_once_lem, resistant_or_failing}
use Rattle.rows.proofs.Parts.{message-count}
use Rattle.scope.proofs.Outcomes.{same_answer}
use Rattle.plan.specs.Answers.{GoodRow}
use Rattle.plan.proofs.Theorems.{judged}
use Rattle.all_verdicts.specs.Answers.{Says, failing, seven, needed, may_answer, AllSaid, After, AnswersAll}
use Rattle.all_verdicts.specs.Filling.{MayFill}

-- the answers
written : (o : Outcome) (plan : Plan) (k : ℕ) (entry : List ℕ) (r : Refusal) → o ≡ refused r → After o plan k entry entry
written o plan k entry r e = rw e refl

refuses : (row : List ℕ) (k : ℕ) (entry : List ℕ) (r : Refusal) (a : Answer) → may_answer row k (length entry) ≡ refused r →
    outcome_of a ≡ refused r →
    AnswersAll row k entry entry a
refuses row k entry r a e is = record { answer = is ∙ sym e; buffer = written (may_answer row k (length entry)) (plan_of row) k entry r e }

pub bad-row : (row : List ℕ) (k : ℕ) (entry : List ℕ) (r : Refusal) → judge row ≡ refused r → AnswersAll row k entry entry (Err r)
unfolding may_answer
bad-row row k entry r e = refuses row k entry r (Err r) (rw e) refl

module _ (row : List ℕ) (k : ℕ) (entry : List ℕ) (g : GoodRow row) where
  pub k_too_large : (a : Answer) → 3 < k → outcome_of a ≡ refuse 11 0 → AnswersAll row k entry entry a
  unfolding may_answer
  k_too_large a h is = refuses row k entry _ a (rw (judged row g, lt-ltb 3 k h)) is

  module _ (few : k ≤ 3) (m n : ℕ) (hm : m ≡ message_count row) (hn : n ≡ 7 * (m + 1)) where
    room-is : needed (plan_of row) ≡ n
    room-is = omega (arith, message-count row)

    pub too_short : (a : Answer) → length entry < n → outcome_of a ≡ refuse 13 n → AnswersAll row k entry entry a
    unfolding may_answer
    too_short a h is = refuses row k entry _ a (rw (judged row g, le-ltb 3 k few, room-is, lt-leb n (length entry) h)) is

    module _ (enough : n ≤ length entry) where
      pub may_fill : MayFill row k (length entry)
      may_fill = record { good = g; few = few; enough = omega (arith, room-is) }

      pub answered : (exit : List ℕ) → AllSaid (plan_of row) k entry exit → AnswersAll row k entry exit (Ok n)
      unfolding may_answer
      answered exit all =
          let o : may_answer row k (length entry) ≡ gives n = rw (judged row g, le-ltb 3 k few, room-is, le-leb n (length entry) enough) in
          record { answer = sym o; buffer = subst (λ (x : Outcome). After x (plan_of row) k entry exit) (sym o) all }

-- the seven numbers for an l follow from the plan
pub says_once : (plan : Plan) (k l : ℕ) (a b : List ℕ) → Says plan k l a → Says plan k l b → a ≡ b
says_once plan k l a b (inl x) (inl y) = x.is ∙ sym y.is
says_once plan k l a b (inl x) (inr y) = absurd (resistant_or_failing plan k l y.cuts x.resists y.first)
says_once plan k l a b (inr x) (inl y) = absurd (resistant_or_failing plan k l x.cuts y.resists x.first)
says_once plan k l a b (inr x) (inr y) = x.is ∙ ap failing (first_once_lem plan (Fails plan l) k x.cuts y.cuts x.first y.first) ∙ sym y.is

fronts : (plan : Plan) (k : ℕ) (x y : List ℕ) → ((l : ℕ) → l ≤ length plan.messages → Says plan k l (seven l x)) →
    ((l : ℕ) → l ≤ length plan.messages → Says plan k l (seven l y)) → (n : ℕ) → n ≤ length plan.messages + 1 →
    take (7 * n) x ≡ take (7 * n) y
fronts plan k x y f g zero h = refl
fronts plan k x y f g (suc n) h =
    let e : 7 * suc n ≡ 7 * n + 7 = omega arith in
    ap (λ (i : ℕ). take i x) e ∙ take-add (7 * n) 7 x ∙
    ap₂ ◌++◌ (fronts plan k x y f g n (omega arith)) (says_once plan k n (seven n x) (seven n y) (f n (omega arith)) (g n (omega arith))) ∙
    sym (take-add (7 * n) 7 y) ∙ ap (λ (i : ℕ). take i y) (sym e)

said_once : (o : Outcome) (plan : Plan) (k : ℕ) (entry x y : List ℕ) → After o plan k entry x → After o plan k entry y → x ≡ y
said_once (gives n) plan k entry x y a b =
    sym (take-append-drop (needed plan) x) ∙
    ap₂ ◌++◌ (fronts plan k x y a.each b.each (length plan.messages + 1) (omega arith)) (a.rest ∙ sym b.rest) ∙
    take-append-drop (needed plan) y
said_once (refused r) plan k entry x y a b = a ∙ sym b

-- two outcomes that the statement allows are equal
pub one_outcome : (row : List ℕ) (k : ℕ) (entry x y : List ℕ) (r s : Answer) → AnswersAll row k entry x r → AnswersAll row k entry y s →
    (r ≡ s) × (x ≡ y)
one_outcome row k entry x y r s a b =
    (same_answer r s (a.answer ∙ sym b.answer), said_once (may_answer row k (length entry)) (plan_of row) k entry x y a.buffer b.buffer)
