-- One message in two replays, the second with all that is down in the first and more. Where their crossings were the same it stands in both
-- at the same point, or it waits in the first at a place where it has turned in the second. In a slot from there it crosses the same, or it
-- names a link, or in both replays it tries a link that the table gives to nobody.
use Prim.Native.Nat.{ℕ, zero, suc}
use native.Mathlib.Omega.{arith}
use mathlib.Core.Path.{◌≡◌, refl, sym, ◌∙◌, subst, subst₂}
use mathlib.Core.Logic.{◌⊎◌, inl, inr, ⊎_elim}
use mathlib.Core.Bool.{Bool, true, false, cond, true≢false, false≢true}
use mathlib.Core.List.{List, [], ◌∷◌}
use lib.Dec.{ltb, eqb}
use borrow.Author.Tests.{lt-ltb, eqb-true, eq-eqb}
use Rattle.scope.specs.Plan.{Place}
use Rattle.scope.specs.Slot.{Position, on_first, on_second, Event, Moved, turned, turn, on_second_path, on_first_path}
use Rattle.scope.specs.Cycle.{foremost}
use Rattle.laws.specs.Message.{crosses}
use Rattle.laws.specs.Named.{SameCrossing, Convicts}
use Rattle.laws.proofs.One.{acts}
use Rattle.laws.proofs.Cases.{act-first, act-second}

-- in the first replay it stands before a place, and in the second it has turned there and crossed nothing since: the link is down
pub record Ahead (other : ℕ → Bool) (p l : Position) : Type 0 where
  pub place : Place
  pub rest : List Place
  pub waits : p ≡ on_first (place ∷ rest)
  pub link : ℕ
  pub after : List ℕ
  pub second : place.second ≡ link ∷ after
  pub turned : l ≡ on_second (link ∷ after)
  pub cut : other place.link ≡ true

abbrev pub Near : (ℕ → Bool) → Position → Position → Type 0
Near other p l = (l ≡ p) ⊎ Ahead other p l

-- the second path of the place before it does not begin with the link that it replaces
abbrev pub TurnsElsewhere : Position → Type 0
TurnsElsewhere (on_first []) = Unit {0}
TurnsElsewhere (on_first (q ∷ qs)) = (e : ℕ) (es : List ℕ) → q.second ≡ e ∷ es → e ≡ q.link → ⊥
TurnsElsewhere (on_second es) = Unit {0}

module _ (rank : ℕ → ℕ) (down other : ℕ → Bool) (owner : ℕ → ℕ) (i : ℕ) (here there : List ℕ) (m : ℕ)
    (within : (e : ℕ) → down e ≡ true → other e ≡ true) where
  -- in both replays it has this free link of its second path before it, and crosses it unless a lower message tries it
  pub record Contest (v w : Moved) : Type 0 where
    pub link : ℕ
    pub free : owner link ≡ 0
    pub alike : ltb (rank (foremost rank link m 0 here)) (rank m) ≡ ltb (rank (foremost rank link m 0 there)) (rank m) →
        SameCrossing v.event w.event

  -- what it does in the first replay, v, and in the second, w
  pub record Meets (v w : Moved) : Type 0 where
    pub near : SameCrossing v.event w.event → Near other v.next w.next
    pub why : SameCrossing v.event w.event ⊎ (Convicts down other v.event ⊎ Contest v w)

  same : (v w : Moved) → SameCrossing v.event w.event → w.next ≡ v.next → Meets v w
  same v w alike next = record { near = λ a. inl next; why = inl alike }

  names : (v w : Moved) → Convicts down other v.event → (SameCrossing v.event w.event → Near other v.next w.next) → Meets v w
  names v w convicts near = record { near = near; why = inr (inl convicts) }

  -- what crosses link e does not cross the same as what crosses none
  differ : (e : ℕ) → eqb e e ≡ false → ⊥
  differ e h = true≢false (sym (eq-eqb e e refl) ∙ h)

  -- in both before the link e of a second path
  on_second_lem : (e : ℕ) (es : List ℕ) →
      Meets (acts rank down owner i here m (on_second (e ∷ es))) (acts rank other owner i there m (on_second (e ∷ es)))
  on_second_lem e es = by (down e) refl (other e) refl (owner e) refl (ltb (rank f) (rank m)) refl (ltb (rank g) (rank m)) refl
    where
      f : ℕ
      f = foremost rank e m 0 here

      g : ℕ
      g = foremost rank e m 0 there

      by : (a : Bool) → down e ≡ a → (b : Bool) → other e ≡ b → (entry : ℕ) → owner e ≡ entry →
          (h : Bool) → ltb (rank f) (rank m) ≡ h → (k : Bool) → ltb (rank g) (rank m) ≡ k →
          Meets (on_second_path a entry h f e es) (on_second_path b entry k g e es)
      by true a true b entry o h x k y = same _ _ (λ z. refl) refl
      by true a false b entry o h x k y = absurd (true≢false (sym (within e a) ∙ b))
      by false a true b zero o true x k y = same _ _ (λ z. refl) refl
      by false a true b zero o false x k y =
          names _ _ (record { waits_or_crosses = (omega arith, omega arith); whole = a; cut = b }) (λ z. absurd (differ e (z e)))
      by false a true b (suc n) o h x k y =
          let given : ltb 0 (suc n) ≡ true = lt-ltb 0 (suc n) (omega arith) in
          rw given (same _ _ (λ z. refl) refl)
      by false a false b zero o true x true y = same _ _ (λ z. refl) refl
      by false a false b zero o false x false y = same _ _ (λ z. refl) refl
      by false a false b zero o true x false y =
          record {
            near = λ z. absurd (differ e (sym (z e)));
            why = inr (inr (record { link = e; free = o; alike = λ z. absurd (true≢false (sym x ∙ z ∙ y)) }));
          }
      by false a false b zero o false x true y =
          record {
            near = λ z. absurd (differ e (z e));
            why = inr (inr (record { link = e; free = o; alike = λ z. absurd (false≢true (sym x ∙ z ∙ y)) }));
          }
      by false a false b (suc n) o h x k y =
          let given : ltb 0 (suc n) ≡ true = lt-ltb 0 (suc n) (omega arith) in
          rw given (same _ _ (λ z. refl) refl)

  -- in the first before the place q, whose link is whole there and down in the second, and in the second on the second path of q
  on_ahead : (q : Place) (qs : List Place) (e : ℕ) (es : List ℕ) → q.second ≡ e ∷ es → (e ≡ q.link → ⊥) → down q.link ≡ false →
      other q.link ≡ true → Meets (acts rank down owner i here m (on_first (q ∷ qs))) (acts rank other owner i there m (on_second (e ∷ es)))
  on_ahead q qs e es second elsewhere whole cut =
      act-first (λ (v : Moved). Meets v w) rank down owner i here m q qs
      (λ c. absurd (false≢true (sym whole ∙ c)))
      (λ c s. names _ w (record { waits_or_crosses = (omega arith, omega arith); whole = whole; cut = cut })
      (λ z. absurd (not_crossed (sym (z q.link) ∙ eq-eqb q.link q.link refl))))
      (λ c s. names _ w (record { waits_or_crosses = (omega arith, omega arith); whole = whole; cut = cut }) stays)
    where
      w : Moved
      w = acts rank other owner i there m (on_second (e ∷ es))

      not_crossed : crosses q.link w.event ≡ true → ⊥
      not_crossed =
          act-second (λ (v : Moved). crosses q.link v.event ≡ true → ⊥) rank other owner i there m e es
          (λ c h. false≢true h) (λ c o h. false≢true h) (λ c o l h. false≢true h) (λ c o l h. elsewhere (eqb-true e q.link h))

      waits : Event
      waits = record { kind = 1; number = q.link }

      ahead : Ahead other (on_first (q ∷ qs)) (on_second (e ∷ es))
      ahead = record { place = q; rest = qs; waits = refl; link = e; after = es; second = second; turned = refl; cut = cut }

      stays : SameCrossing waits w.event → Near other (on_first (q ∷ qs)) w.next
      stays =
          act-second (λ (v : Moved). SameCrossing waits v.event → Near other (on_first (q ∷ qs)) v.next) rank other owner i there m e es
          (λ c h. inr ahead) (λ c o h. inr ahead) (λ c o l h. inr ahead) (λ c o l h. absurd (differ e (sym (h e))))

  -- in both before the place q of the first path, and it has turned in neither
  on_first_lem : (q : Place) (qs : List Place) →
      Meets (acts rank down owner i here m (on_first (q ∷ qs))) (acts rank other owner i there m (on_first (q ∷ qs)))
  on_first_lem q qs = by (down q.link) refl (other q.link) refl (eqb q.slot i) refl
    where
      by : (a : Bool) → down q.link ≡ a → (b : Bool) → other q.link ≡ b → (c : Bool) → eqb q.slot i ≡ c →
          Meets (on_first_path a i q qs) (on_first_path b i q qs)
      by true a true b c s = same _ _ (λ z. refl) refl
      by true a false b c s = absurd (true≢false (sym (within q.link a) ∙ b))
      by false a false b c s = same _ _ (λ z. refl) refl
      by false a true b true s =
          rw s
          (names _ _ (record { waits_or_crosses = (omega arith, omega arith); whole = a; cut = b })
          (λ z. absurd (differ q.link (z q.link))))
      by false a true b false s = rw s (same _ _ (λ z. refl) refl)

  -- from the same point
  from-same : (p : Position) → TurnsElsewhere p →
      Meets (acts rank down owner i here m (turn down p)) (acts rank other owner i there m (turn other p))
  from-same (on_first []) t = same _ _ (λ z. refl) refl
  from-same (on_second []) t = same _ _ (λ z. refl) refl
  from-same (on_second (e ∷ es)) t = on_second_lem e es
  from-same (on_first (q ∷ qs)) t = by (down q.link) refl (other q.link) refl q.second refl
    where
      by : (a : Bool) → down q.link ≡ a → (b : Bool) → other q.link ≡ b → (second : List ℕ) → q.second ≡ second →
          Meets (acts rank down owner i here m (cond a (turned (q ∷ qs) second) (on_first (q ∷ qs))))
          (acts rank other owner i there m (cond b (turned (q ∷ qs) second) (on_first (q ∷ qs))))
      by true a true b [] s = on_first_lem q qs
      by true a true b (e ∷ es) s = on_second_lem e es
      by true a false b second s = absurd (true≢false (sym (within q.link a) ∙ b))
      by false a false b second s = on_first_lem q qs
      by false a true b [] s = on_first_lem q qs
      by false a true b (e ∷ es) s = on_ahead q qs e es s (t e es s) a b

  -- from a place where it has turned in the second replay alone
  from_ahead : (q : Place) (qs : List Place) (e : ℕ) (es : List ℕ) → q.second ≡ e ∷ es → (e ≡ q.link → ⊥) → other q.link ≡ true →
      Meets (acts rank down owner i here m (turn down (on_first (q ∷ qs)))) (acts rank other owner i there m (on_second (e ∷ es)))
  from_ahead q qs e es s elsewhere b = by (down q.link) refl
    where
      by : (a : Bool) → down q.link ≡ a → Meets (acts rank down owner i here m (cond a (turned (q ∷ qs) q.second) (on_first (q ∷ qs))))
          (acts rank other owner i there m (on_second (e ∷ es)))
      by true a = rw s (on_second_lem e es)
      by false a = on_ahead q qs e es s elsewhere a b

  pub meets : (p l : Position) → TurnsElsewhere p → Near other p l →
      Meets (acts rank down owner i here m (turn down p)) (acts rank other owner i there m (turn other l))
  meets p l t =
      ⊎_elim
      (λ h. subst (λ (x : Position). Meets (acts rank down owner i here m (turn down p)) (acts rank other owner i there m (turn other x)))
      (sym h) (from-same p t))
      (λ h. let elsewhere : TurnsElsewhere (on_first (h.place ∷ h.rest)) = subst TurnsElsewhere h.waits t in
      subst₂ (λ (x y : Position). Meets (acts rank down owner i here m (turn down x)) (acts rank other owner i there m (turn other y)))
      (sym h.waits) (sym h.turned)
      (from_ahead h.place h.rest h.link h.after h.second (elsewhere h.link h.after h.second) h.cut))
