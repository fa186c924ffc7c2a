-- How many lower messages may still cross a link on a second path: it never rises, and falls where one of them crosses the link.
use Prim.Native.Nat.{ℕ, zero, suc, ◌+◌, ◌≤◌, ◌<◌}
use native.Mathlib.Omega.{arith}
use mathlib.Core.Path.{◌≡◌, refl, sym, ◌∙◌, ap, subst}
use mathlib.Core.Logic.{⊎_elim}
use mathlib.Core.Bool.{Bool, true, false, cond, ◌&&◌, or-true, true≢false}
use mathlib.Core.List.{List, [], ◌∷◌, map}
use lib.ListN.{length}
use lib.Dec.{ltb, eqb}
use borrow.Author.Tests.{lt-ltb}
use Rattle.scope.specs.Plan.{Place}
use Rattle.scope.specs.Good.{has}
use Rattle.scope.specs.Slot.{Position, on_first, on_second, Moved, turn}
use Rattle.scope.specs.Cycle.{slot, nexts, positions}
use Rattle.scope.specs.Spare.{has_second_through, lower_through}
use Rattle.laws.specs.Message.{position_of}
use Rattle.laws.proofs.One.{acts, tried_in}
use Rattle.laws.proofs.Replay.{length-nexts}
use Rattle.laws.proofs.Turned.{step-at}
use Rattle.laws.proofs.Slots.{one_slot, turned-from}

-- a message may still cross link e on a second path: on the one it is on, or on one that it may turn to
abbrev pub may_cross : ℕ → Position → Bool
may_cross e (on_first ps) = has_second_through e ps
may_cross e (on_second es) = has e es

-- how many of rank lower than m's may, among message j and those after it
pub pending : (ℕ → ℕ) → ℕ → ℕ → ℕ → List Position → ℕ
pending rank m e j [] = 0
pending rank m e j (p ∷ ps) = cond (ltb (rank j) (rank m) && may_cross e p) 1 0 + pending rank m e (j + 1) ps

-- at the start it is b(m, e)
pub pending_start : (rank : ℕ → ℕ) (m e j : ℕ) (paths : List (List Place)) →
    pending rank m e j (map on_first paths) ≡ lower_through rank m e j paths
unfolding pending lower_through
pending_start rank m e j [] = refl
pending_start rank m e j (path ∷ paths) =
    ap (λ (n : ℕ). cond (ltb (rank j) (rank m) && has_second_through e path) 1 0 + n) (pending_start rank m e (j + 1) paths)

-- a slot makes nobody cross who could not before
pub turn-from : (down : ℕ → Bool) (e : ℕ) (p : Position) (es : List ℕ) → turn down p ≡ on_second es → has e es ≡ true → may_cross e p ≡ true
unfolding has_second_through
turn-from down e p es h g =
    ⊎_elim (λ s. ap (may_cross e) s ∙ g)
    (λ t. let second : has e t.place.second ≡ true = ap (has e) t.second ∙ g in ap (may_cross e) t.before ∙ rw second)
    (turned-from down p es h)

pub has_more : (e f : ℕ) (fs : List ℕ) → has e fs ≡ true → has e (f ∷ fs) ≡ true
unfolding has
has_more e f fs h = rw h (or-true (eqb e f))

step_from : (rank : ℕ → ℕ) (down : ℕ → Bool) (owner : ℕ → ℕ) (i : ℕ) (tried : List ℕ) (m e : ℕ) (p : Position) →
    may_cross e (acts rank down owner i tried m (turn down p)).next ≡ true → may_cross e p ≡ true
unfolding has_second_through
step_from rank down owner i tried m e p =
    one_slot (λ (v : Moved). may_cross e v.next ≡ true → may_cross e p ≡ true) rank down owner i tried m p
    (record {
      kind0 = λ h g. g;
      kind1 = λ q qs h d n g. ap (may_cross e) h ∙ g;
      kind2 = λ q qs h d s g. ap (may_cross e) h ∙ rw g (or-true (has e q.second));
      kind3 = λ f fs h d o r g. turn-from down e p (f ∷ fs) h (has_more e f fs g);
      kind4 = λ f fs h d o g. turn-from down e p (f ∷ fs) h g;
      kind5 = λ f fs h d o r g. turn-from down e p (f ∷ fs) h g;
      kind6 = λ q qs h d n g. ap (may_cross e) h ∙ g;
      kind7 = λ f fs h d g. turn-from down e p (f ∷ fs) h g;
    })

pub slot-from : (rank : ℕ → ℕ) (down : ℕ → ℕ → Bool) (owner : ℕ → ℕ → ℕ) (i e k : ℕ) (ps : List Position) →
    may_cross e (position_of k (nexts (slot rank down owner i ps))) ≡ true → may_cross e (position_of k ps) ≡ true
slot-from rank down owner i e k ps h =
    step_from rank (down i) (owner i) i (tried_in (down i) ps) k e (position_of k ps)
    (sym (ap (may_cross e) (step-at rank down owner k i ps (position_of k ps) refl)) ∙ h)

-- counting
module _ (rank : ℕ → ℕ) (m e : ℕ) where
  one : (b x y : Bool) → (y ≡ true → x ≡ true) → cond (b && y) 1 0 ≤ cond (b && x) 1 0
  one true true true h = omega arith
  one true true false h = omega arith
  one true false true h = absurd (true≢false (sym (h refl)))
  one true false false h = omega arith
  one false x y h = omega arith

  falls : (ps qs : List Position) (j : ℕ) → length qs ≡ length ps →
      ((k : ℕ) → may_cross e (position_of k qs) ≡ true → may_cross e (position_of k ps) ≡ true) → pending rank m e j qs ≤ pending rank m e j ps
  unfolding pending
  falls [] [] j l h = omega arith
  falls [] (q ∷ qs) j l h = absurd (omega arith)
  falls (p ∷ ps) [] j l h = absurd (omega arith)
  falls (p ∷ ps) (q ∷ qs) j l h =
      omega (arith, one (ltb (rank j) (rank m)) (may_cross e p) (may_cross e q) (h 0), falls ps qs (j + 1) (omega arith) (λ k. h (suc k)))

  falls_at : (ps qs : List Position) (j k : ℕ) → length qs ≡ length ps →
      ((n : ℕ) → may_cross e (position_of n qs) ≡ true → may_cross e (position_of n ps) ≡ true) →
      k < length ps → rank (j + k) < rank m → may_cross e (position_of k ps) ≡ true → may_cross e (position_of k qs) ≡ false →
      pending rank m e j qs < pending rank m e j ps
  unfolding pending
  falls_at [] qs j k l h there r a b = absurd (omega arith)
  falls_at (p ∷ ps) [] j k l h there r a b = absurd (omega arith)
  falls_at (p ∷ ps) (q ∷ qs) j zero l h there r a b =
      let z : j + 0 ≡ j = omega arith in
      let low : rank j < rank m = rw z at r in
      rw (lt-ltb (rank j) (rank m) low, a, b) (omega (arith, falls ps qs (j + 1) (omega arith) (λ n. h (suc n))))
  falls_at (p ∷ ps) (q ∷ qs) j (suc k) l h there r a b =
      let z : j + suc k ≡ j + 1 + k = omega arith in
      let low : rank (j + 1 + k) < rank m = rw z at r in
      omega (
        arith,
        one (ltb (rank j) (rank m)) (may_cross e p) (may_cross e q) (h 0),
        falls_at ps qs (j + 1) k (omega arith) (λ n. h (suc n)) (omega arith) low a b,
      )

module _ (rank : ℕ → ℕ) (down : ℕ → ℕ → Bool) (owner : ℕ → ℕ → ℕ) (m e : ℕ) where
  pub pending_falls : (i : ℕ) (ps : List Position) → pending rank m e 0 (nexts (slot rank down owner i ps)) ≤ pending rank m e 0 ps
  pending_falls i ps =
      falls rank m e ps (nexts (slot rank down owner i ps)) 0 (length-nexts rank down owner i ps) (λ k. slot-from rank down owner i e k ps)

  pub pending_falls_strictly : (i k : ℕ) (ps : List Position) → k < length ps → rank k < rank m → may_cross e (position_of k ps) ≡ true →
      may_cross e (position_of k (nexts (slot rank down owner i ps))) ≡ false →
      pending rank m e 0 (nexts (slot rank down owner i ps)) < pending rank m e 0 ps
  pending_falls_strictly i k ps there low a b =
      let z : k ≡ 0 + k = omega arith in
      falls_at rank m e ps (nexts (slot rank down owner i ps)) 0 k (length-nexts rank down owner i ps)
      (λ n. slot-from rank down owner i e n ps) there (subst (λ (x : ℕ). rank x < rank m) z low) a b

  pub pending_falls_on : (n i : ℕ) (ps : List Position) → pending rank m e 0 (positions rank down owner i n ps) ≤ pending rank m e 0 ps
  unfolding positions
  pending_falls_on zero i ps = omega arith
  pending_falls_on (suc n) i ps =
      omega (arith, pending_falls_on n (i + 1) (nexts (slot rank down owner i ps)), pending_falls i ps)
