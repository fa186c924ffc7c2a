-- Who crosses a link in a slot.
use Prim.Native.Nat.{ℕ, ◌+◌, ◌≤◌}
use native.Mathlib.Omega.{arith}
use mathlib.Core.Path.{◌≡◌, refl, sym, ◌∙◌, ap, ap₂, subst}
use mathlib.Core.Logic.{◌⊎◌, inl, inr, ⊎_elim}
use mathlib.Core.Bool.{Bool, true, false, cond, false≢true}
use mathlib.Core.List.{List, [], ◌∷◌}
use lib.ListN.{get_or}
use borrow.Author.Tests.{eqb-true, eq-eqb}
use Rattle.scope.specs.Plan.{Place}
use Rattle.scope.specs.Slot.{Position, on_first, on_second, Moved, moved, turn, tries}
use Rattle.scope.specs.Cycle.{foremost}
use Rattle.laws.specs.Message.{position_of, move_in, crosses, tries_link}
use Rattle.laws.specs.Links.{LowestCrosses, TableGives, TableGivesLeft, AtMostOneCrosses}
use Rattle.laws.proofs.One.{acts, tried_in, move_at, tried_at}
use Rattle.laws.proofs.Cases.{act-second}
use Rattle.laws.proofs.Foremost.{foremost-low, foremost-is}
use Rattle.laws.proofs.Slots.{one_slot}

-- a message that tries a link stands before it, and it is whole
pub tries-is : (down : ℕ → Bool) (e : ℕ) (p : Position) → tries down p ≡ e + 1 → (es : List ℕ) × (p ≡ on_second (e ∷ es)) × (down e ≡ false)
tries-is down e (on_first ps) h = absurd (omega arith)
tries-is down e (on_second []) h = absurd (omega arith)
tries-is down e (on_second (f ∷ es)) h = by (down f) refl h
  where
    by : (b : Bool) → down f ≡ b → cond b 0 (f + 1) ≡ e + 1 → (fs : List ℕ) × (on_second (f ∷ es) ≡ on_second (e ∷ fs)) × (down e ≡ false)
    by true c g = absurd (omega arith)
    by false c g =
        let same : f ≡ e = omega arith in
        (es, ap (λ (x : ℕ). on_second (x ∷ es)) same, subst (λ (x : ℕ). down x ≡ false) same c)

pub tries-number : (down : ℕ → Bool) (e m : ℕ) (ps : List Position) → get_or (tried_in down ps) m 0 ≡ e + 1 → tries_link down e m ps ≡ true
tries-number down e m ps h = eq-eqb (tries down (turn down (position_of m ps))) (e + 1) (sym (tried_at down ps m) ∙ h)

-- message m does not have to let anybody pass, if nobody who tries the link has a lower rank
nobody_lower : (rank : ℕ → ℕ) (down : ℕ → Bool) (e m : ℕ) (ps : List Position) →
    ((j : ℕ) → tries_link down e j ps ≡ true → rank m ≤ rank j) → rank m ≤ rank (foremost rank e m 0 (tried_in down ps))
nobody_lower rank down e m ps low =
    ⊎_elim
    (λ h. subst (λ (f : ℕ). rank m ≤ rank f) (sym h) (omega arith))
    (λ h. let z : foremost rank e m 0 (tried_in down ps) ≡ h.0 = omega (arith, h.1) in
    subst (λ (f : ℕ). rank m ≤ rank f) (sym z) (low h.0 (tries-number down e h.0 ps h.2)))
    (foremost-is rank e (tried_in down ps) m 0)

pub lowest-crosses : LowestCrosses
lowest-crosses rank down owner m i e ps t free low =
    let s = tries-is (down i) e (turn (down i) (position_of m ps)) (eqb-true (tries (down i) (turn (down i) (position_of m ps))) (e + 1) t) in
    let first = nobody_lower rank (down i) e m ps low in
    let does : move_in rank down owner m i ps ≡ moved (on_second s.0) 3 e =
    move_at rank down owner i ps m ∙ ap (acts rank (down i) (owner i) i (tried_in (down i) ps) m) s.1 ∙
    act-second (λ (v : Moved). v ≡ moved (on_second s.0) 3 e) rank (down i) (owner i) i (tried_in (down i) ps) m e s.0
    (λ c. absurd (false≢true (sym s.2 ∙ c))) (λ c o. absurd (omega arith)) (λ c o h. absurd (omega arith)) (λ c o h. refl) in
    record {
      kind = ap (λ (v : Moved). v.event.kind) does;
      number = ap (λ (v : Moved). v.event.number) does;
      rest = s.0;
      before = s.1;
      after = ap (λ (v : Moved). v.next) does;
    }

-- who crosses link e in slot i: on the first path, with this link and slot, or on the second path, with nobody's leave
pub record CrossesOnFirst (i e : ℕ) (p : Position) : Type 0 where
  pub place : Place
  pub rest : List Place
  pub before : p ≡ on_first (place ∷ rest)
  pub link : place.link ≡ e
  pub slot : place.slot ≡ i

pub record CrossesFree (rank : ℕ → ℕ) (down : ℕ → Bool) (owner : ℕ → ℕ) (e m : ℕ) (tried : List ℕ) (p : Position) : Type 0 where
  pub rest : List ℕ
  pub before : turn down p ≡ on_second (e ∷ rest)
  pub whole : down e ≡ false
  pub free : owner e ≡ 0
  pub first : rank m ≤ rank (foremost rank e m 0 tried)

pub crossing : (rank : ℕ → ℕ) (down : ℕ → Bool) (owner : ℕ → ℕ) (i : ℕ) (tried : List ℕ) (m e : ℕ) (p : Position) →
    crosses e (acts rank down owner i tried m (turn down p)).event ≡ true → CrossesOnFirst i e p ⊎ CrossesFree rank down owner e m tried p
crossing rank down owner i tried m e p =
    one_slot (λ (v : Moved). crosses e v.event ≡ true → CrossesOnFirst i e p ⊎ CrossesFree rank down owner e m tried p)
    rank down owner i tried m p
    (record {
      kind0 = λ h c. absurd (false≢true c);
      kind1 = λ q qs h d n c. absurd (false≢true c);
      kind2 = λ q qs h d s c. inl (record { place = q; rest = qs; before = h; link = eqb-true q.link e c; slot = s });
      kind3 = λ f fs h d o r c.
          inr (subst (λ (x : ℕ). CrossesFree rank down owner x m tried p) (eqb-true f e c)
          (record { rest = fs; before = h; whole = d; free = o; first = r }));
      kind4 = λ f fs h d o c. absurd (false≢true c);
      kind5 = λ f fs h d o r c. absurd (false≢true c);
      kind6 = λ q qs h d n c. absurd (false≢true c);
      kind7 = λ f fs h d c. absurd (false≢true c);
    })

pub crossed_in : (rank : ℕ → ℕ) (down : ℕ → ℕ → Bool) (owner : ℕ → ℕ → ℕ) (i e : ℕ) (ps : List Position) (m : ℕ) →
    crosses e (move_in rank down owner m i ps).event ≡ true →
    CrossesOnFirst i e (position_of m ps) ⊎ CrossesFree rank (down i) (owner i) e m (tried_in (down i) ps) (position_of m ps)
crossed_in rank down owner i e ps m c =
    crossing rank (down i) (owner i) i (tried_in (down i) ps) m e (position_of m ps)
    (subst (λ (v : Moved). crosses e v.event ≡ true) (move_at rank down owner i ps m) c)

pub given : (owner : ℕ → ℕ → ℕ) (i e m : ℕ) (p : Position) → TableGivesLeft owner m p → CrossesOnFirst i e p → owner i e ≡ m + 1
given owner i e m p g c =
    let h : TableGives owner m (c.place ∷ c.rest) = subst (TableGivesLeft owner m) c.before g in
    sym (ap₂ owner c.slot c.link) ∙ h.0

-- nobody who goes first on a link has a higher rank than one that crosses it
pub first_lower : (rank : ℕ → ℕ) (down : ℕ → Bool) (owner : ℕ → ℕ) (e a b : ℕ) (ps : List Position) →
    CrossesFree rank down owner e b (tried_in down ps) (position_of b ps) → rank (foremost rank e a 0 (tried_in down ps)) ≤ rank b
first_lower rank down owner e a b ps d =
    let whole = d.whole in
    let tried : tries down (on_second (e ∷ d.rest)) ≡ e + 1 = rw whole in
    let t : get_or (tried_in down ps) b 0 ≡ e + 1 = tried_at down ps b ∙ ap (tries down) d.before ∙ tried in
    let z : 0 + b ≡ b = omega arith in
    subst (λ (x : ℕ). rank (foremost rank e a 0 (tried_in down ps)) ≤ rank x) z (foremost-low rank e (tried_in down ps) a 0 b t)

-- of two that cross a free link neither has the lower rank
no_lower : (rank : ℕ → ℕ) (down : ℕ → Bool) (owner : ℕ → ℕ) (e a b : ℕ) (ps : List Position) →
    CrossesFree rank down owner e a (tried_in down ps) (position_of a ps) → CrossesFree rank down owner e b (tried_in down ps) (position_of b ps) →
    rank a ≤ rank b
no_lower rank down owner e a b ps c d = omega (arith, c.first, first_lower rank down owner e a b ps d)

pub at_most_one_crosses_lem : AtMostOneCrosses
at_most_one_crosses_lem rank down owner i e a b ps differ ga gb ca cb =
    let crossed = crossed_in rank down owner i e ps in
    ⊎_elim
    (λ x. ⊎_elim
    (λ y. omega (arith, given owner i e a (position_of a ps) ga x, given owner i e b (position_of b ps) gb y))
    (λ y. absurd (omega (arith, given owner i e a (position_of a ps) ga x, y.free))) (crossed b cb))
    (λ x. ⊎_elim
    (λ y. absurd (omega (arith, given owner i e b (position_of b ps) gb y, x.free)))
    (λ y. differ (omega (arith, no_lower rank (down i) (owner i) e a b ps x y, no_lower rank (down i) (owner i) e b a ps y x))) (crossed b cb))
    (crossed a ca)
