-- An outcome gives or refuses, never both, and an answer is known by its outcome.
use Rattle.std.proofs.Common.{◌≡◌, ℕ, Result, Ok, Err, sym, ap, subst, arith}
use Rattle.std.specs.Prelude.{IsErrAnd}
use Rattle.scope.specs.declared.Refusal.{Refusal}
use Rattle.scope.specs.Outcome.{Outcome, Answer, outcome_of, gives, refused}

pub not-both : {A : Type 0} {r : Refusal} {n : ℕ} → refused r ≡ gives n → A
not-both e = absurd (let z : ◌≡◌ {A = ℕ} 0 1 = cc in omega arith)

pub same_answer : (a b : Answer) → outcome_of a ≡ outcome_of b → a ≡ b
same_answer (Ok m) (Ok n) e = ap Ok (let f : m ≡ n = cc in f)
same_answer (Ok m) (Err r) e = not-both (sym e)
same_answer (Err r) (Ok n) e = not-both e
same_answer (Err r) (Err s) e = ap Err (let f : r ≡ s = cc in f)

-- what a `?` returns is the refusal that it met
pub passed : {T : Type 0} (P : Result T Refusal → Type 0) (r : Result T Refusal) (e : Refusal) → IsErrAnd r (λ y. y ≡ e) → P (Err e) → P r
passed P (Ok x) e h p = absurd h
passed P (Err y) e h p = subst (λ (z : Refusal). P (Err z)) (sym h) p

pub passed_as : (P : Outcome → Type 0) (r : Answer) (e : Refusal) → IsErrAnd r (λ y. y ≡ e) → P (refused e) → P (outcome_of r)
passed_as P = passed (λ (r : Answer). P (outcome_of r))

pub passed_on : (r : Answer) (e : Refusal) (o : Outcome) → IsErrAnd r (λ y. y ≡ e) → refused e ≡ o → outcome_of r ≡ o
passed_on r e o = passed_as (λ (q : Outcome). q ≡ o) r e
