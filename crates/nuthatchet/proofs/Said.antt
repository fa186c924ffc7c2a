-- What the numbers of a verdict say.
use Prim.Native.Nat.{ℕ, suc, ◌<◌}
use native.Mathlib.Omega.{arith}
use mathlib.Core.Path.{◌≡◌, refl, sym}
use mathlib.Core.List.{List}
use lib.ListN.{length}
use Rattle.scope.specs.declared.Refusal.{Refusal}
use Rattle.scope.specs.Outcome.{refused}
use Rattle.scope.specs.Questions.{may_judge}
use Rattle.verdicts.specs.Verdict.{Ruling}
use Rattle.std.specs.Prelude.{Some, None, Ok, Err}
use Rattle.verdicts.specs.Verdict.{Answered, IsResistant, IsFailing}
use Rattle.nuthatchet.specs.Told.{Told}
use Rattle.nuthatchet.specs.Ruled.{ruled, PairsSay}
use Rattle.nuthatchet.proofs.Numbered.{zero_says_none}

module _ (row : List ℕ) (k l : ℕ) (entry exit : List ℕ) (p q s : ℕ) where
  none-refused : (r : Refusal) → 0 ≡ r.no → may_judge row k l (length entry) ≡ refused r → ⊥
  none-refused r is e = zero_says_none.rules row k l (length entry) r e (sym is)

  resists : (r : Ruling) → Answered row k l entry exit r → Told (ruled r) 0 p q s 0 → ((i : ℕ) → r ≡ Ok (Some i) → 0 < i) →
      IsResistant row k l entry exit
  resists (Ok None) a t s = a
  resists (Ok (Some i)) a t s =
      let some : 0 < i = s i refl in
      let none : 0 ≡ i = t.result in
      absurd (omega arith)
  resists (Err r) a t s = absurd (none-refused r t.refusal.number a.may)

  fails : (v : ℕ) (r : Ruling) → Answered row k l entry exit r → Told (ruled r) 0 p q s (suc v) → IsFailing row k l entry exit (suc v)
  fails v (Ok None) a t =
      let none : suc v ≡ 0 = t.result in
      absurd (omega arith)
  fails v (Ok (Some i)) a t =
      let count : suc v ≡ i = t.result in
      rw count a
  fails v (Err r) a t = absurd (none-refused r t.refusal.number a.may)

pub pairs_say : PairsSay
pairs_say =
    record {
      resistant = λ row k l entry exit p q s h. resists row k l entry exit p q s h.ruling h.answered h.told h.some;
      failing = λ row k l entry exit p q s v h. fails row k l entry exit p q s v h.ruling h.answered h.told;
    }
