-- What a message does in a slot, by cases: what holds in each line of document 01's table holds of its turn and of its act.
use Prim.Native.Nat.{ℕ, ◌-◌, ◌≤◌, ◌<◌}
use native.Mathlib.Omega.{arith}
use mathlib.Core.Path.{◌≡◌, refl}
use mathlib.Core.Bool.{Bool, true, false, cond}
use mathlib.Core.List.{List, [], ◌∷◌}
use lib.Dec.{ltb, eqb}
use borrow.Author.Tests.{ltb-true, ltb-false, eqb-true, eqb-false}
use Rattle.scope.specs.Plan.{Place}
use Rattle.scope.specs.Slot.{Position, on_first, on_second, Moved, moved, turned, turn, on_second_path}
use Rattle.scope.specs.Cycle.{foremost}
use Rattle.laws.proofs.One.{acts}

pub cond_cases : {A : Type 0} (P : A → Type 0) (b : Bool) (x y : A) → (b ≡ true → P x) → (b ≡ false → P y) → P (cond b x y)
cond_cases P true x y f g = f refl
cond_cases P false x y f g = g refl

-- the turn of a message on its first path
pub turn_cases : (P : Position → Type 0) (down : ℕ → Bool) (p : Place) (ps : List Place) →
    (down p.link ≡ true → (e : ℕ) (es : List ℕ) → p.second ≡ e ∷ es → P (on_second (e ∷ es))) →
    (down p.link ≡ true → p.second ≡ [] → P (on_first (p ∷ ps))) →
    (down p.link ≡ false → P (on_first (p ∷ ps))) → P (turn down (on_first (p ∷ ps)))
turn_cases P down p ps turns none whole =
    cond_cases P (down p.link) (turned (p ∷ ps) p.second) (on_first (p ∷ ps)) (λ c. by p.second (turns c) (none c)) whole
  where
    by : (second : List ℕ) → ((e : ℕ) (es : List ℕ) → second ≡ e ∷ es → P (on_second (e ∷ es))) → (second ≡ [] → P (on_first (p ∷ ps))) →
        P (turned (p ∷ ps) second)
    by [] t n = n refl
    by (e ∷ es) t n = t e es refl

-- the act of a message on its second path: kinds 7, 4, 5, 3
second_cases : (P : Moved → Type 0) (cut : Bool) (entry a b first e : ℕ) (es : List ℕ) →
    (cut ≡ true → P (moved (on_second (e ∷ es)) 7 e)) →
    (cut ≡ false → 0 < entry → P (moved (on_second (e ∷ es)) 4 (entry - 1))) →
    (cut ≡ false → entry ≡ 0 → a < b → P (moved (on_second (e ∷ es)) 5 first)) →
    (cut ≡ false → entry ≡ 0 → b ≤ a → P (moved (on_second es) 3 e)) →
    P (on_second_path cut entry (ltb a b) first e es)
second_cases P cut entry a b first e es seven four five three =
    cond_cases P cut _ _ seven
    (λ c. cond_cases P (ltb 0 entry) _ _ (λ t. four c (ltb-true 0 entry t))
    (λ t. let z : entry ≡ 0 = omega (arith, ltb-false 0 entry t) in
    cond_cases P (ltb a b) _ _ (λ h. five c z (ltb-true a b h)) (λ h. three c z (ltb-false a b h))))

pub act-second : (P : Moved → Type 0) (rank : ℕ → ℕ) (down : ℕ → Bool) (owner : ℕ → ℕ) (i : ℕ) (tried : List ℕ) (m e : ℕ) (es : List ℕ) →
    (down e ≡ true → P (moved (on_second (e ∷ es)) 7 e)) →
    (down e ≡ false → 0 < owner e → P (moved (on_second (e ∷ es)) 4 (owner e - 1))) →
    (down e ≡ false → owner e ≡ 0 → rank (foremost rank e m 0 tried) < rank m → P (moved (on_second (e ∷ es)) 5 (foremost rank e m 0 tried))) →
    (down e ≡ false → owner e ≡ 0 → rank m ≤ rank (foremost rank e m 0 tried) → P (moved (on_second es) 3 e)) →
    P (acts rank down owner i tried m (on_second (e ∷ es)))
act-second P rank down owner i tried m e es =
    second_cases P (down e) (owner e) (rank (foremost rank e m 0 tried)) (rank m) (foremost rank e m 0 tried) e es

-- the act of a message on its first path: kinds 6, 2, 1
pub act-first : (P : Moved → Type 0) (rank : ℕ → ℕ) (down : ℕ → Bool) (owner : ℕ → ℕ) (i : ℕ) (tried : List ℕ) (m : ℕ)
    (p : Place) (ps : List Place) →
    (down p.link ≡ true → P (moved (on_first (p ∷ ps)) 6 p.link)) →
    (down p.link ≡ false → p.slot ≡ i → P (moved (on_first ps) 2 p.link)) →
    (down p.link ≡ false → (p.slot ≡ i → ⊥) → P (moved (on_first (p ∷ ps)) 1 p.link)) →
    P (acts rank down owner i tried m (on_first (p ∷ ps)))
act-first P rank down owner i tried m p ps six two one =
    cond_cases P (down p.link) _ _ six
    (λ c. cond_cases P (eqb p.slot i) _ _ (λ t. two c (eqb-true p.slot i t)) (λ t. one c (eqb-false p.slot i t)))
