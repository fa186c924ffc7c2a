-- A failing list has a pair: without cuts every message of a good plan arrives, and l is at most the number of messages.
use Prim.Native.Nat.{ℕ, zero, suc, ◌*◌, ◌≤◌, ◌<◌}
use native.Mathlib.Omega.{arith}
use mathlib.Core.Path.{◌≡◌, refl}
use mathlib.Core.Bool.{Bool, true, false, cond, ◌||◌}
use mathlib.Core.List.{List, []}
use lib.ListN.{length}
use lib.Dec.{ltb}
use borrow.Author.Tests.{ltb-false}
use Rattle.scope.proofs.Outcomes.{not-both}
use Rattle.scope.specs.Outcome.{gives, refuse, room}
use Rattle.scope.specs.Plan.{plan_of}
use Rattle.scope.specs.Cycle.{arrivals}
use Rattle.scope.specs.Verdict.{FirstFailing}
use Rattle.scope.specs.Questions.{judge, may_judge}
use Rattle.scope.proofs.Bools.{or_right}
use Rattle.laws.proofs.Cuts.{all_arrive_without_cuts_lem}
use Rattle.plan.proofs.Outcomes.{then-back}
use Rattle.plan.proofs.Ways.{good-row}
use Rattle.verdicts.specs.Verdict.{Ruling}
use Rattle.std.specs.Prelude.{Some, None, Ok, Err}
use Rattle.verdicts.specs.Verdict.{Answered, IsFailing}
use Rattle.nuthatchet.specs.Told.{Told}
use Rattle.nuthatchet.specs.Ruled.{ruled, TellsRuling}

module _ (row : List ℕ) (k l : ℕ) (entry exit : List ℕ) where
  within : (t : Bool) → (ltb 3 k || ltb (length (plan_of row).messages) l) ≡ t →
      cond t (refuse 11 0) (room (2 * k) (length entry)) ≡ gives (2 * k) →
      l ≤ length (plan_of row).messages
  within true e h = not-both h
  within false e h = ltb-false (length (plan_of row).messages) l (or_right (ltb 3 k) (ltb (length (plan_of row).messages) l) e)

  no_cut_fails : may_judge row k l (length entry) ≡ gives (2 * k) → FirstFailing (plan_of row) k l [] → ⊥
  unfolding may_judge
  no_cut_fails e f =
      let b =
      then-back (judge row) (λ _. cond (ltb 3 k || ltb (length (plan_of row).messages) l) (refuse 11 0)
      (room (2 * k) (length entry))) (2 * k) e in
      let all : arrivals (plan_of row) [] ≡ length (plan_of row).messages = all_arrive_without_cuts_lem (plan_of row)
      (good-row row b.0 b.1).keeps in
      let low : l ≤ length (plan_of row).messages = within (ltb 3 k || ltb (length (plan_of row).messages) l) refl b.2 in
      let less : arrivals (plan_of row) [] < l = f.answers in
      omega arith

  some : (n : ℕ) → IsFailing row k l entry exit n → 0 < n
  some zero a = absurd (no_cut_fails a.may a.list)
  some (suc n) a = omega arith

  pub failing-some : (r : Ruling) → Answered row k l entry exit r → (i : ℕ) → r ≡ Ok (Some i) → 0 < i
  failing-some (Ok None) a i e = let z : ◌≡◌ {A = ℕ} 0 1 = cc in absurd (omega arith)
  failing-some (Ok (Some n)) a i e = let s : n ≡ i = cc in rw (← s) (some n a)
  failing-some (Err r) a i e = let z : ◌≡◌ {A = ℕ} 0 1 = cc in absurd (omega arith)

  pub tells-ruling : (r : Ruling) {n p q s v : ℕ} → Answered row k l entry exit r → Told (ruled r) n p q s v →
      TellsRuling row k l entry exit n p q s v
  tells-ruling r a t = record { ruling = r; answered = a; told = t; some = failing-some r a }
