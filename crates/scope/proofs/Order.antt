-- The order of cut lists is total, so that a plan has at most one first failing list, and none if it is resistant.
use Prim.Native.Nat.{ℕ, ◌≤◌}
use mathlib.Core.Path.{◌≡◌, refl, sym, ap₂}
use mathlib.Core.Bool.{false, ◌&&◌, true≢false}
use mathlib.Core.List.{List, [], ◌∷◌}
use native.Mathlib.Omega.{arith}
use lib.Dec.{ltb, eqb}
use borrow.Author.Tests.{ltb-false, le-ltb, eq-eqb}
use Rattle.scope.specs.Plan.{Plan}
use Rattle.scope.specs.Cuts.{pairs}
use Rattle.scope.specs.Cycle.{arrivals}
use Rattle.scope.specs.Verdict.{earlier, goes_before, First, FirstFailing, Resistant}
use Rattle.scope.proofs.Bools.{or_left, or_right}

-- no number comes before itself, and of two numbers of which neither is lower each is the other
below_itself : (c : ℕ) → ltb c c ≡ false
below_itself c = le-ltb c c (omega arith)

equal : (c d : ℕ) → ltb c d ≡ false → ltb d c ≡ false → c ≡ d
equal c d h k =
    let l : d ≤ c = ltb-false c d h in
    let g : c ≤ d = ltb-false d c k in
    omega arith

pub earlier_self : (cs : List ℕ) → earlier cs cs ≡ false
unfolding earlier
earlier_self [] = refl
earlier_self (c ∷ cs) = rw (below_itself c, eq-eqb c c refl) (earlier_self cs)

pub earlier_total : (cs ds : List ℕ) → earlier cs ds ≡ false → earlier ds cs ≡ false → cs ≡ ds
unfolding earlier
earlier_total [] [] h k = refl
earlier_total [] (d ∷ ds) h k = absurd (true≢false h)
earlier_total (c ∷ cs) [] h k = absurd (true≢false k)
earlier_total (c ∷ cs) (d ∷ ds) h k =
    let e : c ≡ d = equal c d (or_left _ _ h) (or_left _ _ k) in
    ap₂ ◌∷◌ e
    (earlier_total cs ds
    (rw (eq-eqb c d e) at (or_right (ltb c d) (eqb c d && earlier cs ds) h))
    (rw (eq-eqb d c (sym e)) at (or_right (ltb d c) (eqb d c && earlier ds cs) k)))

pub before_self : (cs : List ℕ) → goes_before cs cs ≡ false
unfolding goes_before
before_self cs = rw (below_itself (pairs cs), eq-eqb (pairs cs) (pairs cs) refl) (earlier_self cs)

pub before_total : (cs ds : List ℕ) → goes_before cs ds ≡ false → goes_before ds cs ≡ false → cs ≡ ds
unfolding goes_before
before_total cs ds h k =
    let e : pairs cs ≡ pairs ds = equal (pairs cs) (pairs ds) (or_left _ _ h) (or_left _ _ k) in
    earlier_total cs ds
    (rw (eq-eqb (pairs cs) (pairs ds) e) at (or_right (ltb (pairs cs) (pairs ds)) (eqb (pairs cs) (pairs ds) && earlier cs ds) h))
    (rw (eq-eqb (pairs ds) (pairs cs) (sym e)) at (or_right (ltb (pairs ds) (pairs cs)) (eqb (pairs ds) (pairs cs) && earlier ds cs) k))

-- two answers of a question are one
pub first_once_lem : (plan : Plan) (Answers : List ℕ → Type 0) (k : ℕ) (cs ds : List ℕ) → First plan Answers k cs → First plan Answers k ds → cs ≡ ds
first_once_lem plan Answers k cs ds a b =
    before_total cs ds (b.first cs a.good a.answers) (a.first ds b.good b.answers)

pub resistant_or_failing : (plan : Plan) (k l : ℕ) (cs : List ℕ) → Resistant plan k l → FirstFailing plan k l cs → ⊥
unfolding Resistant
resistant_or_failing plan k l cs r f =
    let enough : l ≤ arrivals plan cs = r cs f.good f.few in
    omega (arith, f.answers)
