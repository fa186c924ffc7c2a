-- A message whose second path is whole comes closer to its target with each slot: the sum over its links left of one, the table's entries
-- still to come and the lower messages that may still cross falls, and when the sum is used up it has arrived.
use Prim.Native.Nat.{ℕ, zero, suc, ◌+◌, ◌≤◌, ◌<◌}
use native.Mathlib.Omega.{arith}
use mathlib.Core.Path.{◌≡◌, refl, sym, ◌∙◌, ap, subst}
use mathlib.Core.Logic.{⊎_elim}
use mathlib.Core.Bool.{Bool, true, false, true≢false}
use mathlib.Core.List.{List, [], ◌∷◌}
use Rattle.scope.specs.Good.{has}
use Rattle.scope.specs.Slot.{Position, on_first, on_second, Moved, at_target, turn}
use Rattle.scope.specs.Cycle.{slot, nexts, positions}
use Rattle.laws.specs.Message.{position_of}
use Rattle.laws.specs.Links.{NoLinkTwiceLeft}
use Rattle.laws.proofs.One.{acts, tried_in, move_at, next-at}
use Rattle.laws.proofs.Cases.{turn_cases, act-second}
use Rattle.laws.proofs.Turned.{at_target_stays_lem}
use Rattle.laws.proofs.Slots.{turned-from}
use Rattle.laws.proofs.Kept.{once_slot}
use Rattle.laws.proofs.Pending.{pending, has_more, pending_falls}
use Rattle.laws.proofs.Held.{has_first, held_falls}

-- the sum over the links of a path of one and a link's weight
unfoldable pub potential : (ℕ → ℕ) → List ℕ → ℕ
potential w [] = 0
potential w (e ∷ es) = 1 + w e + potential w es

pub potential_most : (v w : ℕ → ℕ) → ((e : ℕ) → v e ≤ w e) → (es : List ℕ) → potential v es ≤ potential w es
unfolding potential
potential_most v w h [] = omega arith
potential_most v w h (e ∷ es) = omega (arith, h e, potential_most v w h es)

lighter : (v w : ℕ → ℕ) → ((e : ℕ) → v e ≤ w e) → (e : ℕ) (es : List ℕ) → v e < w e → potential v (e ∷ es) < potential w (e ∷ es)
unfolding potential
lighter v w h e es l = omega (arith, potential_most v w h es)

shorter : (v w : ℕ → ℕ) → ((e : ℕ) → v e ≤ w e) → (e : ℕ) (es : List ℕ) → potential v es < potential w (e ∷ es)
unfolding potential
shorter v w h e es = omega (arith, potential_most v w h es)

-- a count of the table's entries still to come, by slot and link
pub record Counts (owner tab : ℕ → ℕ → ℕ) : Type 0 where
  pub falls : (i e : ℕ) → tab (i + 1) e ≤ tab i e
  pub strictly : (i e : ℕ) → 0 < owner i e → tab (i + 1) e < tab i e

-- after a slot: what is left of a path, with weights v and w after and before it
record Closer (v w : ℕ → ℕ) (path : List ℕ) (next : Position) : Type 0 where
  left : List ℕ
  after : next ≡ on_second left
  falls : potential v left < potential w path
  part : (x : ℕ) → has x left ≡ true → has x path ≡ true

-- who has nothing left of a second path after its turn was there before
arrived-before : (down : ℕ → Bool) (p : Position) → turn down p ≡ on_second [] → at_target p ≡ true
arrived-before down (on_first []) h = refl
arrived-before down (on_second es) h = ap at_target h
arrived-before down (on_first (q ∷ qs)) h =
    turn_cases (λ (r : Position). r ≡ on_second [] → at_target (on_first (q ∷ qs)) ≡ true) down q qs
    (λ c e es s g. let z : ◌≡◌ {A = ℕ} 0 1 = cc in absurd (omega arith))
    (λ c s g. let z : ◌≡◌ {A = ℕ} 0 1 = cc in absurd (omega arith))
    (λ c g. let z : ◌≡◌ {A = ℕ} 0 1 = cc in absurd (omega arith)) h

-- and who has a link left was not
not-before : (down : ℕ → Bool) (p : Position) (e : ℕ) (es : List ℕ) → turn down p ≡ on_second (e ∷ es) → at_target p ≡ false
not-before down p e es h =
    ⊎_elim (λ s. ap at_target s) (λ t. ap at_target t.before) (turned-from down p (e ∷ es) h)

module _ (rank : ℕ → ℕ) (down : ℕ → ℕ → Bool) (owner tab : ℕ → ℕ → ℕ) (m : ℕ) where
  unfoldable pub weight : ℕ → List Position → ℕ → ℕ
  weight i ps e = tab i e + pending rank m e 0 ps

  module _ (counts : Counts owner tab) where
    weight_falls : (i : ℕ) (ps : List Position) (e : ℕ) → weight (i + 1) (nexts (slot rank down owner i ps)) e ≤ weight i ps e
    unfolding weight
    weight_falls i ps e = omega (arith, counts.falls i e, pending_falls rank down owner m e i ps)

    closer : (i : ℕ) (ps : List Position) → ((k : ℕ) → NoLinkTwiceLeft (position_of k ps)) → (e : ℕ) (es : List ℕ) →
        turn (down i) (position_of m ps) ≡ on_second (e ∷ es) → down i e ≡ false →
        Closer (weight (i + 1) (nexts (slot rank down owner i ps))) (weight i ps) (e ∷ es) (position_of m (nexts (slot rank down owner i ps)))
    unfolding weight
    closer i ps once e es h whole =
        let w = weight i ps in
        let v = weight (i + 1) (nexts (slot rank down owner i ps)) in
        let next : position_of m (nexts (slot rank down owner i ps)) ≡
        (acts rank (down i) (owner i) i (tried_in (down i) ps) m (on_second (e ∷ es))).next =
        next-at (slot rank down owner i ps) m ∙
        ap (λ (x : Moved). x.next) (move_at rank down owner i ps m ∙ ap (acts rank (down i) (owner i) i (tried_in (down i) ps) m) h) in
        let lower = weight_falls i ps in
        let stays : v e < w e → Closer v w (e ∷ es) (on_second (e ∷ es)) =
        λ l. record { left = e ∷ es; after = refl; falls = lighter v w lower e es l; part = λ x k. k } in
        subst (Closer v w (e ∷ es)) (sym next)
        (act-second (λ (x : Moved). Closer v w (e ∷ es) x.next) rank (down i) (owner i) i (tried_in (down i) ps) m e es
        (λ c. absurd (true≢false (sym c ∙ whole)))
        (λ c o. stays (omega (arith, counts.strictly i e o, pending_falls rank down owner m e i ps)))
        (λ c o l. stays (omega (arith, counts.falls i e, held_falls rank down owner m i e ps once o l)))
        (λ c o l. record { left = es; after = refl; falls = shorter v w lower e es; part = λ x k. has_more x e es k }))

    -- with n slots to come, and the sum at most n, it has arrived after them
    pub arrives : (n i : ℕ) (ps : List Position) → ((k : ℕ) → NoLinkTwiceLeft (position_of k ps)) → (path : List ℕ) →
        turn (down i) (position_of m ps) ≡ on_second path → potential (weight i ps) path ≤ n →
        ((k : ℕ) → k < n → at_target (position_of m (positions rank down owner i k ps)) ≡ false →
        (x : ℕ) → has x path ≡ true → down (i + k) x ≡ false) →
        at_target (position_of m (positions rank down owner i n ps)) ≡ true
    unfolding positions potential
    arrives zero i ps once [] h l whole = arrived-before (down i) (position_of m ps) h
    arrives zero i ps once (e ∷ es) h l whole = absurd (omega arith)
    arrives (suc n) i ps once [] h l whole =
        let home = arrived-before (down i) (position_of m ps) h in
        ap at_target ((at_target_stays_lem rank down owner m i ps home).there (suc n)) ∙ home
    arrives (suc n) i ps once (e ∷ es) h l whole =
        let z : i + 0 ≡ i = omega arith in
        let now : down i e ≡ false =
        subst (λ (j : ℕ). down j e ≡ false) z
        (whole 0 (omega arith) (not-before (down i) (position_of m ps) e es h) e (has_first e es)) in
        let c = closer i ps once e es h now in
        let qs = nexts (slot rank down owner i ps) in
        arrives n (i + 1) qs (λ k. once_slot rank down owner k i ps (once k)) c.left (ap (turn (down (i + 1))) c.after)
        (omega (arith, c.falls))
        (λ k b a x t. let s : i + suc k ≡ i + 1 + k = omega arith in
        subst (λ (j : ℕ). down j x ≡ false) s (whole (suc k) (omega arith) a x (c.part x t)))
