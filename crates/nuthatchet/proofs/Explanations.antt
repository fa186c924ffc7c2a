-- An explanation told as five numbers: a list has no more pairs than can be asked for, and what the numbers say.
use Prim.Native.Nat.{ℕ, suc, ◌+◌, ◌*◌, ◌≤◌}
use native.Mathlib.Omega.{arith}
use mathlib.Core.Path.{◌≡◌, refl, sym}
use mathlib.Core.Bool.{Bool, true, false, cond}
use mathlib.Core.List.{List}
use lib.ListN.{length}
use lib.Dec.{ltb}
use borrow.Author.Tests.{ltb-false}
use Rattle.scope.specs.declared.Refusal.{Refusal}
use Rattle.scope.specs.Outcome.{Outcome, gives, refused, refuse, and_then, room}
use Rattle.scope.specs.Plan.{plan_of}
use Rattle.scope.specs.Capture.{check_capture}
use Rattle.scope.specs.Questions.{judge, may_explain}
use Rattle.scope.proofs.Outcomes.{not-both}
use Rattle.plan.proofs.Outcomes.{then-back}
use Rattle.explanations.specs.Explained.{Explanation}
use Rattle.std.specs.Prelude.{Some, None, Ok, Err}
use Rattle.explanations.specs.Explained.{Answered, IsUnexplained, IsListed}
use Rattle.nuthatchet.specs.Told.{Told}
use Rattle.nuthatchet.specs.Explained.{explained, Few, TellsExplanation, ResultSays}
use Rattle.nuthatchet.proofs.Numbered.{zero_says_none}

module _ (row : List ℕ) (k : ℕ) (capture entry exit : List ℕ) where
  within : (t : Bool) (after : Outcome) → ltb 3 k ≡ t → cond t (refuse 11 0) after ≡ gives (2 * k) → k ≤ 3
  within true after e h = not-both h
  within false after e h = ltb-false 3 k e

  at_most : may_explain row k capture (length entry) ≡ gives (2 * k) → k ≤ 3
  unfolding may_explain
  at_most e =
      let b =
      then-back (judge row)
      (λ _. cond (ltb 3 k) (refuse 11 0) (and_then (check_capture (plan_of row) capture) (λ _. room (2 * k) (length entry)))) (2 * k) e in
      within (ltb 3 k) _ refl b.2

  pub few : (r : Explanation) → Answered row k capture entry exit r → Few r
  few (Ok None) a n e = let z : ◌≡◌ {A = ℕ} 0 1 = cc in absurd (omega arith)
  few (Ok (Some i)) a n e = let s : i ≡ n = cc in omega (arith, at_most a.may, a.list.few, a.count)
  few (Err r) a n e = let z : ◌≡◌ {A = ℕ} 0 1 = cc in absurd (omega arith)

  pub tells-explanation : (r : Explanation) {n p q s v : ℕ} → Answered row k capture entry exit r → Told (explained r) n p q s v →
      TellsExplanation row k capture entry exit n p q s v
  tells-explanation r a t = record { explanation = r; answered = a; told = t }

  module _ (p q s : ℕ) where
    none-refused : (r : Refusal) → 0 ≡ r.no → may_explain row k capture (length entry) ≡ refused r → ⊥
    none-refused r is e = zero_says_none.explains row k capture (length entry) r e (sym is)

    says_none : (r : Explanation) → Answered row k capture entry exit r → Told (explained r) 0 p q s 0 → IsUnexplained row k capture entry exit
    says_none (Ok None) a t = a
    says_none (Ok (Some i)) a t =
        let none : 0 ≡ i + 1 = t.result in
        absurd (omega arith)
    says_none (Err r) a t = absurd (none-refused r t.refusal.number a.may)

    says-list : (n : ℕ) (r : Explanation) → Answered row k capture entry exit r → Told (explained r) 0 p q s (suc n) →
        IsListed row k capture entry exit n
    says-list n (Ok None) a t =
        let none : suc n ≡ 0 = t.result in
        absurd (omega arith)
    says-list n (Ok (Some i)) a t =
        let count : suc n ≡ i + 1 = t.result in
        let same : n ≡ i = omega arith in
        rw same a
    says-list n (Err r) a t = absurd (none-refused r t.refusal.number a.may)

pub result_says : ResultSays
result_says =
    record {
      unexplained = λ row k capture entry exit p q s h. says_none row k capture entry exit p q s h.explanation h.answered h.told;
      listed = λ row k capture entry exit p q s n h. says-list row k capture entry exit p q s n h.explanation h.answered h.told;
    }
