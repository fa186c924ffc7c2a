-- One slot of one message, by the whole table of kinds; what each slot keeps is kept by many.
use Prim.Native.Nat.{ℕ, zero, suc, ◌+◌, ◌-◌, ◌≤◌, ◌<◌}
use native.Mathlib.Omega.{arith}
use mathlib.Core.Path.{◌≡◌, refl, sym, ◌∙◌, ap, subst}
use mathlib.Core.Logic.{◌⊎◌, inl, inr}
use mathlib.Core.Bool.{Bool, true, false, cond, true≢false}
use mathlib.Core.List.{List, [], ◌∷◌}
use Rattle.scope.specs.Plan.{Place}
use Rattle.scope.specs.Slot.{Position, on_first, on_second, Moved, moved, at_target, turned, turn}
use Rattle.scope.specs.Cycle.{foremost, slot, nexts, positions}
use Rattle.scope.specs.Spare.{no_second}
use Rattle.laws.specs.Message.{position_of}
use Rattle.laws.proofs.One.{acts, tried_in}
use Rattle.laws.proofs.Cases.{turn_cases, act-first, act-second}
use Rattle.laws.proofs.Turned.{step-at}

-- what has to be shown in each line of the table, so that it holds of what a message does from position p
pub record Kinds (P : Moved → Type 0) (rank : ℕ → ℕ) (down : ℕ → Bool) (owner : ℕ → ℕ) (i : ℕ) (tried : List ℕ)
    (m : ℕ) (p : Position) : Type 0 where
  pub kind0 : at_target p ≡ true → P (moved p 0 0)
  pub kind1 : (q : Place) (qs : List Place) → p ≡ on_first (q ∷ qs) → down q.link ≡ false → (q.slot ≡ i → ⊥) →
      P (moved (on_first (q ∷ qs)) 1 q.link)
  pub kind2 : (q : Place) (qs : List Place) → p ≡ on_first (q ∷ qs) → down q.link ≡ false → q.slot ≡ i → P (moved (on_first qs) 2 q.link)
  pub kind3 : (e : ℕ) (es : List ℕ) → turn down p ≡ on_second (e ∷ es) → down e ≡ false → owner e ≡ 0 →
      rank m ≤ rank (foremost rank e m 0 tried) → P (moved (on_second es) 3 e)
  pub kind4 : (e : ℕ) (es : List ℕ) → turn down p ≡ on_second (e ∷ es) → down e ≡ false → 0 < owner e →
      P (moved (on_second (e ∷ es)) 4 (owner e - 1))
  pub kind5 : (e : ℕ) (es : List ℕ) → turn down p ≡ on_second (e ∷ es) → down e ≡ false → owner e ≡ 0 →
      rank (foremost rank e m 0 tried) < rank m → P (moved (on_second (e ∷ es)) 5 (foremost rank e m 0 tried))
  pub kind6 : (q : Place) (qs : List Place) → p ≡ on_first (q ∷ qs) → down q.link ≡ true → q.second ≡ [] →
      P (moved (on_first (q ∷ qs)) 6 q.link)
  pub kind7 : (e : ℕ) (es : List ℕ) → turn down p ≡ on_second (e ∷ es) → down e ≡ true → P (moved (on_second (e ∷ es)) 7 e)

module _ (P : Moved → Type 0) (rank : ℕ → ℕ) (down : ℕ → Bool) (owner : ℕ → ℕ) (i : ℕ) (tried : List ℕ) (m : ℕ) where
  on_second_lem : (p : Position) → Kinds P rank down owner i tried m p → (e : ℕ) (es : List ℕ) → turn down p ≡ on_second (e ∷ es) →
      P (acts rank down owner i tried m (on_second (e ∷ es)))
  on_second_lem p t e es h =
      act-second P rank down owner i tried m e es (t.kind7 e es h) (t.kind4 e es h) (t.kind5 e es h) (t.kind3 e es h)

  pub one_slot : (p : Position) → Kinds P rank down owner i tried m p → P (acts rank down owner i tried m (turn down p))
  one_slot (on_first []) t = t.kind0 refl
  one_slot (on_first (q ∷ qs)) t =
      let f = act-first P rank down owner i tried m q qs in
      turn_cases (λ (r : Position). P (acts rank down owner i tried m r)) down q qs
      (λ c e es h. on_second_lem (on_first (q ∷ qs)) t e es (rw (c, h)))
      (λ c h. f (λ d. t.kind6 q qs refl c h) (λ d. absurd (true≢false (sym c ∙ d))) (λ d. absurd (true≢false (sym c ∙ d))))
      (λ c. f (λ d. absurd (true≢false (sym d ∙ c))) (t.kind2 q qs refl) (t.kind1 q qs refl))
  one_slot (on_second []) t = t.kind0 refl
  one_slot (on_second (e ∷ es)) t = on_second_lem (on_second (e ∷ es)) t e es refl

-- a message that stands on a second path after its turn was there before, or has just turned
pub record JustTurned (down : ℕ → Bool) (p : Position) (es : List ℕ) : Type 0 where
  pub place : Place
  pub rest : List Place
  pub before : p ≡ on_first (place ∷ rest)
  pub cut : down place.link ≡ true
  pub second : place.second ≡ es
  pub some : no_second es ≡ false

pub turned-from : (down : ℕ → Bool) (p : Position) (es : List ℕ) → turn down p ≡ on_second es → (p ≡ on_second es) ⊎ JustTurned down p es
turned-from down (on_first []) es h = let z : ◌≡◌ {A = ℕ} 0 1 = cc in absurd (omega arith)
turned-from down (on_second fs) es h = inl h
turned-from down (on_first (q ∷ qs)) es h = by (down q.link) refl q.second refl h
  where
    by : (b : Bool) → down q.link ≡ b → (second : List ℕ) → q.second ≡ second →
        cond b (turned (q ∷ qs) second) (on_first (q ∷ qs)) ≡ on_second es →
        (on_first (q ∷ qs) ≡ on_second es) ⊎ JustTurned down (on_first (q ∷ qs)) es
    by false c fs s g = let z : ◌≡◌ {A = ℕ} 0 1 = cc in absurd (omega arith)
    by true c [] s g = let z : ◌≡◌ {A = ℕ} 0 1 = cc in absurd (omega arith)
    by true c (f ∷ fs) s g =
        let same : es ≡ f ∷ fs = cc in
        inr (record { place = q; rest = qs; before = refl; cut = c; second = s ∙ sym same; some = ap no_second same })

-- what one slot keeps of a message, n slots keep
pub kept : (rank : ℕ → ℕ) (down : ℕ → ℕ → Bool) (owner : ℕ → ℕ → ℕ) (m : ℕ) (I : ℕ → Position → Type 0) →
    ((i : ℕ) (tried : List ℕ) (p : Position) → I i p → I (i + 1) (acts rank (down i) (owner i) i tried m (turn (down i) p)).next) →
    (n i : ℕ) (ps : List Position) → I i (position_of m ps) → I (i + n) (position_of m (positions rank down owner i n ps))
unfolding positions
kept rank down owner m I step zero i ps h = let e : i ≡ i + 0 = omega arith in subst (λ (j : ℕ). I j (position_of m ps)) e h
kept rank down owner m I step (suc n) i ps h =
    let e : i + 1 + n ≡ i + suc n = omega arith in
    let qs = nexts (slot rank down owner i ps) in
    let now : I (i + 1) (position_of m qs) =
    subst (I (i + 1)) (sym (step-at rank down owner m i ps (position_of m ps) refl)) (step i (tried_in (down i) ps) (position_of m ps) h) in
    subst (λ (j : ℕ). I j (position_of m (positions rank down owner (i + 1) n qs))) e (kept rank down owner m I step n (i + 1) qs now)
