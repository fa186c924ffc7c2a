-- A link that a message has crossed on its second path it never tries again.
use Prim.Native.Nat.{ℕ, zero, suc, ◌+◌}
use native.Mathlib.Omega.{arith}
use mathlib.Core.Path.{◌≡◌, refl, sym, ◌∙◌, ap, subst}
use mathlib.Core.Bool.{Bool, true, false, cond, ◌||◌, true≢false}
use mathlib.Core.List.{List, [], ◌∷◌}
use lib.ListN.{drop}
use lib.Dec.{eqb}
use borrow.Author.Tests.{ne_eqb, eqb-false}
use Rattle.scope.specs.Good.{has}
use Rattle.scope.specs.Slot.{Position, on_second, Moved, turn, tries}
use Rattle.scope.specs.Cycle.{slot, nexts, positions}
use Rattle.laws.specs.Message.{position_of, move_in, tries_link}
use Rattle.laws.specs.Links.{FreeAndWhole, OnlyFreeLinks, NeverTriesAgain}
use Rattle.laws.proofs.One.{acts, tried_in, move_at, next-at}
use Rattle.laws.proofs.Slots.{one_slot}
use Rattle.laws.proofs.Turned.{never_returns_lem}
use Rattle.laws.proofs.Kept.{different-rest, turned_once}

pub or-false : (a b : Bool) → (a || b) ≡ false → (a ≡ false) × (b ≡ false)
or-false true b h = absurd (true≢false h)
or-false false b h = (refl, h)

pub has-drop : (e k : ℕ) (es : List ℕ) → has e es ≡ false → has e (drop k es) ≡ false
unfolding has
has-drop e zero es h = h
has-drop e (suc k) [] h = h
has-drop e (suc k) (f ∷ es) h = has-drop e k es (or-false (eqb e f) (has e es) h).1

-- whose links left do not have e does not try e
tries-none : (down : ℕ → Bool) (e : ℕ) (es : List ℕ) → has e es ≡ false → eqb (tries down (on_second es)) (e + 1) ≡ false
unfolding has
tries-none down e [] h = ne_eqb 0 (e + 1) (λ z. omega arith)
tries-none down e (f ∷ es) h = by (down f)
  where
    other : e ≡ f → ⊥
    other = eqb-false e f (or-false (eqb e f) (has e es) h).0

    by : (b : Bool) → eqb (cond b 0 (f + 1)) (e + 1) ≡ false
    by true = ne_eqb 0 (e + 1) (λ z. omega arith)
    by false = ne_eqb (f + 1) (e + 1) (λ z. other (omega arith))

pub record Third (down : ℕ → Bool) (owner : ℕ → ℕ) (e : ℕ) (p next : Position) : Type 0 where
  pub rest : List ℕ
  pub before : turn down p ≡ on_second (e ∷ rest)
  pub after : next ≡ on_second rest
  pub link : FreeAndWhole down owner e

pub third : (rank : ℕ → ℕ) (down : ℕ → Bool) (owner : ℕ → ℕ) (i : ℕ) (tried : List ℕ) (m e : ℕ) (p : Position) →
    let v = acts rank down owner i tried m (turn down p) in v.event.kind ≡ 3 → v.event.number ≡ e → Third down owner e p v.next
third rank down owner i tried m e p =
    one_slot (λ (v : Moved). v.event.kind ≡ 3 → v.event.number ≡ e → Third down owner e p v.next) rank down owner i tried m p
    (record {
      kind0 = λ h k n. absurd (omega arith);
      kind1 = λ q qs h d s k n. absurd (omega arith);
      kind2 = λ q qs h d s k n. absurd (omega arith);
      kind3 = λ f fs h d o r k n.
          subst (λ (x : ℕ). Third down owner x p (on_second fs)) n
          (record { rest = fs; before = h; after = refl; link = record { whole = d; free = o } });
      kind4 = λ f fs h d o k n. absurd (omega arith);
      kind5 = λ f fs h d o r k n. absurd (omega arith);
      kind6 = λ q qs h d s k n. absurd (omega arith);
      kind7 = λ f fs h d k n. absurd (omega arith);
    })

in_slot_lem : (rank : ℕ → ℕ) (down : ℕ → ℕ → Bool) (owner : ℕ → ℕ → ℕ) (m i e : ℕ) (ps : List Position) →
    (move_in rank down owner m i ps).event.kind ≡ 3 → (move_in rank down owner m i ps).event.number ≡ e →
    Third (down i) (owner i) e (position_of m ps) (move_in rank down owner m i ps).next
in_slot_lem rank down owner m i e ps kind number =
    let v = move_at rank down owner i ps m in
    subst (λ (x : Moved). Third (down i) (owner i) e (position_of m ps) x.next) (sym v)
    (third rank (down i) (owner i) i (tried_in (down i) ps) m e (position_of m ps)
    (subst (λ (x : Moved). x.event.kind ≡ 3) v kind) (subst (λ (x : Moved). x.event.number ≡ e) v number))

pub only_free_links_lem : OnlyFreeLinks
only_free_links_lem rank down owner m i e ps kind number = (in_slot_lem rank down owner m i e ps kind number).link

pub never_tries_again_lem : NeverTriesAgain
unfolding positions
never_tries_again_lem rank down owner m i e ps once kind number n =
    let t = in_slot_lem rank down owner m i e ps kind number in
    let qs = nexts (slot rank down owner i ps) in
    let gone = (different-rest e t.rest (turned_once (down i) (position_of m ps) (e ∷ t.rest) once t.before)).0 in
    let next : position_of m qs ≡ on_second t.rest =
    next-at (slot rank down owner i ps) m ∙ t.after in
    let later = never_returns_lem rank down owner m (i + 1) n t.rest qs next in
    let one : 1 + n ≡ suc n = omega arith in
    let d = down (i + (1 + n)) in
    ap (λ (k : ℕ). tries_link d e m (positions rank down owner i k ps)) one ∙
    ap (λ (q : Position). eqb (tries d (turn d q)) (e + 1)) later.2 ∙
    tries-none d e (drop later.0 t.rest) (has-drop e later.0 t.rest gone)
