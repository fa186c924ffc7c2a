-- A message past its slot at a place has no second path there, and one that can turn is not past it; what a message has left is its first
-- path from a place on.
use Prim.Native.Nat.{ℕ, ◌+◌, ◌≤◌, ◌<◌}
use native.Mathlib.Omega.{arith}
use mathlib.Core.Path.{◌≡◌, refl, sym, ◌∙◌, ap, subst}
use mathlib.Core.Logic.{◌⊎◌, inl, inr, ⊎_elim}
use mathlib.Core.Bool.{Bool, true, false, true≢false, false≢true}
use mathlib.Core.List.{List, [], ◌∷◌}
use lib.ListN.{length, drop, length-drop}
use lib.Seq.{drop-drop}
use lib.Dec.{ltb, eqb}
use borrow.Author.Tests.{ltb-true, ltb-false, eqb-true, eqb-false}
use Rattle.scope.specs.Plan.{Place}
use Rattle.scope.specs.Good.{slots_rise}
use Rattle.scope.specs.Slot.{Position, on_first, on_second, Moved, at_target, turn}
use Rattle.scope.specs.Spare.{no_second}
use Rattle.laws.specs.Message.{stands_at, position_of}
use Rattle.laws.specs.Diverted.{Stranded, TurnsInTime}
use Rattle.laws.proofs.One.{acts}
use Rattle.laws.proofs.Rising.{Rises, rises, rising, earlier}
use Rattle.laws.proofs.Slots.{one_slot, kept}

-- past its slot at a place without a second path, whose link was down in that slot
abbrev Late : (ℕ → ℕ → Bool) → ℕ → List Place → Type 0
Late down i [] = ⊥
Late down i (q ∷ qs) = (q.slot < i) × (q.second ≡ []) × (down q.slot q.link ≡ true)

abbrev InTime : (ℕ → ℕ → Bool) → ℕ → ℕ → Position → Type 0
InTime down t i (on_first ps) = (slots_rise t i ps ≡ true) ⊎ Late down i ps
InTime down t i (on_second es) = Unit {0}

module _ (down : ℕ → ℕ → Bool) (t i : ℕ) where
  home : (p : Position) → at_target p ≡ true → InTime down t (i + 1) p
  unfolding slots_rise
  home (on_first []) h = inl refl
  home (on_first (q ∷ qs)) h = absurd (false≢true h)
  home (on_second es) h = tt

  -- on its first path, and not crossing: its slot is still to come, or there is no second path and the link is down
  waits : (q : Place) (qs : List Place) → (q.slot ≡ i → (q.second ≡ []) × (down i q.link ≡ true)) → InTime down t i (on_first (q ∷ qs)) →
      InTime down t (i + 1) (on_first (q ∷ qs))
  waits q qs none =
      ⊎_elim
      (λ r. let s = rises t i q qs r in by s (eqb q.slot i) refl)
      (λ l. inr (omega (arith, l.0), l.1, l.2))
    where
      by : Rises t i q qs → (b : Bool) → eqb q.slot i ≡ b → InTime down t (i + 1) (on_first (q ∷ qs))
      by s true e =
          let same : q.slot ≡ i = eqb-true q.slot i e in
          inr (omega arith, (none same).0, ap (λ (j : ℕ). down j q.link) same ∙ (none same).1)
      by s false e =
          inl (rising t (i + 1) q qs (record { low = omega (arith, s.low, eqb-false q.slot i e); high = s.high; rest = s.rest }))

  crossed : (q : Place) (qs : List Place) → q.slot ≡ i → InTime down t i (on_first (q ∷ qs)) → InTime down t (i + 1) (on_first qs)
  crossed q qs same =
      ⊎_elim (λ r. let s = rises t i q qs r in inl (earlier t (i + 1) (q.slot + 1) qs (omega arith) s.rest))
      (λ l. absurd (omega (arith, l.0)))

  step : (rank : ℕ → ℕ) (owner : ℕ → ℕ) (tried : List ℕ) (m : ℕ) (p : Position) →
      InTime down t i p → InTime down t (i + 1) (acts rank (down i) owner i tried m (turn (down i) p)).next
  step rank owner tried m p g =
      one_slot (λ (v : Moved). InTime down t (i + 1) v.next) rank (down i) owner i tried m p
      (record {
        kind0 = λ h. home p h;
        kind1 = λ q qs h d n. waits q qs (λ s. absurd (n s)) (subst (InTime down t i) h g);
        kind2 = λ q qs h d s. crossed q qs s (subst (InTime down t i) h g);
        kind3 = λ f fs h d o r. tt;
        kind4 = λ f fs h d o. tt;
        kind5 = λ f fs h d o r. tt;
        kind6 = λ q qs h d n. waits q qs (λ s. (n, d)) (subst (InTime down t i) h g);
        kind7 = λ f fs h d. tt;
      })

pub stranded : Stranded
stranded rank down owner t m s path ps h r q qs stands past =
    let z : 0 + s ≡ s = omega arith in
    let at = kept rank down owner m (InTime down t) (λ i tried p. step down t i rank (owner i) tried m p) s 0 ps
    (subst (InTime down t 0) (sym h) (inl r)) in
    let here : InTime down t s (on_first (q ∷ qs)) =
    subst (InTime down t s) stands (subst (λ (i : ℕ). InTime down t i (stands_at rank down owner m s ps)) z at) in
    ⊎_elim (λ x. absurd (omega (arith, (rises t s q qs x).low))) (λ l. (l.1, l.2)) here

pub turns_in_time_lem : TurnsInTime
turns_in_time_lem rank down owner t m s path ps h r q qs stands second = by (ltb q.slot s) refl
  where
    by : (b : Bool) → ltb q.slot s ≡ b → s ≤ q.slot
    by true e =
        let none = (stranded rank down owner t m s path ps h r q qs stands (ltb-true q.slot s e)).0 in
        absurd (true≢false (sym (ap no_second none) ∙ second))
    by false e = ltb-false q.slot s e

-- what it has left
abbrev FromPlace : List Place → Position → Type 0
FromPlace path (on_first ps) = (k : ℕ) × (ps ≡ drop k path)
FromPlace path (on_second es) = Unit {0}

next_place : (path : List Place) (q : Place) (qs : List Place) → FromPlace path (on_first (q ∷ qs)) → FromPlace path (on_first qs)
next_place path q qs g = (g.0 + 1, ap (drop 1) g.1 ∙ drop-drop 1 g.0 path)

place-step : (path : List Place) (rank : ℕ → ℕ) (down : ℕ → Bool) (owner : ℕ → ℕ) (i : ℕ) (tried : List ℕ) (m : ℕ) (p : Position) →
    FromPlace path p → FromPlace path (acts rank down owner i tried m (turn down p)).next
place-step path rank down owner i tried m p g =
    one_slot (λ (v : Moved). FromPlace path v.next) rank down owner i tried m p
    (record {
      kind0 = λ h. g;
      kind1 = λ q qs h d n. subst (FromPlace path) h g;
      kind2 = λ q qs h d s. next_place path q qs (subst (FromPlace path) h g);
      kind3 = λ f fs h d o r. tt;
      kind4 = λ f fs h d o. tt;
      kind5 = λ f fs h d o r. tt;
      kind6 = λ q qs h d n. subst (FromPlace path) h g;
      kind7 = λ f fs h d. tt;
    })

-- on its first path at time s, it has its first path left from a place on
pub left-from : (rank : ℕ → ℕ) (down : ℕ → ℕ → Bool) (owner : ℕ → ℕ → ℕ) (m s : ℕ) (path : List Place) (ps : List Position) →
    position_of m ps ≡ on_first path → (q : Place) (qs : List Place) → stands_at rank down owner m s ps ≡ on_first (q ∷ qs) →
    (k : ℕ) × (k < length path) × (drop k path ≡ q ∷ qs)
left-from rank down owner m s path ps h q qs stands =
    let at = kept rank down owner m (λ i p. FromPlace path p) (λ i tried p. place-step path rank (down i) (owner i) i tried m p) s 0 ps
    (subst (FromPlace path) (sym h) (0, refl)) in
    let here : FromPlace path (on_first (q ∷ qs)) = subst (FromPlace path) stands at in
    (here.0, omega (arith, length-drop here.0 path, ap length here.1), sym here.1)
