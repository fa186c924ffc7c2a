-- Laws of cables: the other way of a link, which links a pair cuts, and that a cable has one name.
use Prim.Native.Nat.{ℕ, ◌≤◌, ◌<◌}
use native.Mathlib.Omega.{arith}
use mathlib.Core.Path.{◌≡◌, refl, sym, ◌∙◌, ap}
use mathlib.Core.Bool.{Bool, true, false, ◌||◌, true≢false, and-eq-true_iff, or-true}
use lib.ListN.{length}
use lib.Dec.{ltb, eqb}
use borrow.Author.Tests.{ltb-true, ltb-false, eqb-true, eq-eqb}
use Rattle.scope.specs.Lowest.{lowest, some}
use Rattle.scope.specs.Plan.{Plan, link_of}
use Rattle.scope.specs.Good.{repeats, same_ends}
use Rattle.scope.specs.Cables.{goes_back, other_way, is_higher}
use Rattle.scope.specs.Cuts.{cuts_link}
use Rattle.scope.proofs.Lowest.{seek_is, seek-low}
use Rattle.scope.proofs.Some.{some_one, none_below}

module _ (plan : Plan) where
  -- of two links each goes back the other's way
  back_too : (d e : ℕ) → goes_back plan d e ≡ true → goes_back plan e d ≡ true
  back_too d e h =
      let a = link_of plan d in
      let b = link_of plan e in
      let two = (and-eq-true_iff (eqb a.from b.to) (eqb a.to b.from)).0 h in
      rw (
        eq-eqb b.from a.to (sym (eqb-true a.to b.from two.1)),
        eq-eqb b.to a.from (sym (eqb-true a.from b.to two.0)),
      )

  -- where a link goes back, the other way is the lowest that does
  found : (d : ℕ) → some (goes_back plan d) (length plan.links) ≡ true →
      (other_way plan d ≡ lowest (goes_back plan d) (length plan.links)) × (other_way plan d < length plan.links) ×
      (goes_back plan d (other_way plan d) ≡ true)
  unfolding other_way
  found d h =
      let l : lowest (goes_back plan d) (length plan.links) < length plan.links = ltb-true _ _ h in
      let is : other_way plan d ≡ lowest (goes_back plan d) (length plan.links) = rw h in
      (is, omega (arith, is), ap (goes_back plan d) is ∙ seek_is (goes_back plan d) (length plan.links) 0 (omega arith))

  -- so it is the link itself, or a link that goes back
  pub other-is : {P : Type 0} (d : ℕ) → (other_way plan d ≡ d → P) →
      (other_way plan d < length plan.links → goes_back plan d (other_way plan d) ≡ true → P) → P
  unfolding other_way
  other-is {P} d own other = by (some (goes_back plan d) (length plan.links)) refl
    where
      by : (b : Bool) → some (goes_back plan d) (length plan.links) ≡ b → P
      by false h = own (rw h)
      by true h = let f = found d h in other f.1 f.2

  pub other-below : (d : ℕ) → d < length plan.links → other_way plan d < length plan.links
  other-below d l = other-is d (λ own. omega arith) (λ below back. below)

  -- no link that goes back is lower
  other-lowest : (d e : ℕ) → e < length plan.links → goes_back plan d e ≡ true → other_way plan d ≤ e
  other-lowest d e l back = by (ltb e (other_way plan d)) refl
    where
      by : (b : Bool) → ltb e (other_way plan d) ≡ b → other_way plan d ≤ e
      by true h =
          let f = found d (some_one (goes_back plan d) (length plan.links) e l back) in
          absurd (true≢false (sym back ∙
          seek-low (goes_back plan d) (length plan.links) 0 e (omega arith) (omega (arith, f.0, ltb-true e (other_way plan d) h))))
      by false h = ltb-false e (other_way plan d) h

  -- a pair cuts the link that it names and the other way of that link, and no others
  pub cuts_own : (d : ℕ) → cuts_link plan d d ≡ true
  unfolding cuts_link
  cuts_own d = rw (eq-eqb d d refl)

  pub cuts-other : (d : ℕ) → cuts_link plan d (other_way plan d) ≡ true
  unfolding cuts_link
  cuts-other d = rw (eq-eqb (other_way plan d) (other_way plan d) refl, or-true (eqb d (other_way plan d)))

  pub cuts_by : {P : Type 0} (d e : ℕ) → cuts_link plan d e ≡ true → (d ≡ e → P) → (other_way plan d ≡ e → P) → P
  unfolding cuts_link
  cuts_by {P} d e h own other = by (eqb d e) refl h own
    where
      by : (b : Bool) → eqb d e ≡ b → (b || eqb (other_way plan d) e) ≡ true → (d ≡ e → P) → P
      by true q g one = one (eqb-true d e q)
      by false q g one = other (eqb-true (other_way plan d) e g)

  -- "so that a cable has one name": of links that may be named a pair cuts the one that it names alone
  pub named_once : (d e : ℕ) → d < length plan.links → is_higher plan d ≡ false → is_higher plan e ≡ false → cuts_link plan d e ≡ true → d ≡ e
  named_once d e l low here h =
      cuts_by d e h (λ same. same)
      (λ other. other-is d (λ own. sym own ∙ other)
      (λ below back.
      let from : goes_back plan d e ≡ true = ap (goes_back plan d) (sym other) ∙ back in
      let least = other-lowest e d l (back_too d e from) in
      omega (arith, least, other, ltb-false (other_way plan d) d low, ltb-false (other_way plan e) e here)))

  -- where no two links have the same ends in the same direction, a cable has no third link
  module _ (once : (e : ℕ) → e < length plan.links → repeats plan e ≡ false) where
    -- two links that go back the same way are one
    one_back : (d e f : ℕ) → e < length plan.links → f < length plan.links → goes_back plan d e ≡ true → goes_back plan d f ≡ true →
        e ≡ f
    one_back d e f le lf he hf = by (ltb e f) refl (ltb f e) refl
      where
        same : (x y : ℕ) → goes_back plan d x ≡ true → goes_back plan d y ≡ true → same_ends (link_of plan x) (link_of plan y) ≡ true
        same x y hx hy =
            let a = link_of plan d in
            let b = link_of plan x in
            let c = link_of plan y in
            let p = (and-eq-true_iff (eqb a.from b.to) (eqb a.to b.from)).0 hx in
            let q = (and-eq-true_iff (eqb a.from c.to) (eqb a.to c.from)).0 hy in
            rw (
              eq-eqb b.from c.from (sym (eqb-true a.to b.from p.1) ∙ eqb-true a.to c.from q.1),
              eq-eqb b.to c.to (sym (eqb-true a.from b.to p.0) ∙ eqb-true a.from c.to q.0),
            )

        apart : (x y : ℕ) → x < y → y < length plan.links → goes_back plan d x ≡ true → goes_back plan d y ≡ true → ⊥
        apart x y less ly hx hy =
            true≢false (sym (same x y hx hy) ∙
            none_below (λ z. same_ends (link_of plan z) (link_of plan y)) y (once y ly) x less)

        by : (s : Bool) → ltb e f ≡ s → (t : Bool) → ltb f e ≡ t → e ≡ f
        by true p t q = absurd (apart e f (ltb-true e f p) lf he hf)
        by false p true q = absurd (apart f e (ltb-true f e q) le hf he)
        by false p false q = omega (arith, ltb-false e f p, ltb-false f e q)

    -- the other way of the other way is the link
    pub other_twice : (d : ℕ) → d < length plan.links → other_way plan (other_way plan d) ≡ d
    other_twice d l =
        other-is d (λ own. ap (other_way plan) own ∙ own)
        (λ below back.
        let e = other_way plan d in
        let f = found e (some_one (goes_back plan e) (length plan.links) d l (back_too d e back)) in
        one_back e (other_way plan e) d f.1 l f.2 (back_too d e back))

    -- so a pair that cuts a link cuts the other way of it
    pub cuts_both : (d e : ℕ) → d < length plan.links → cuts_link plan d e ≡ true → cuts_link plan d (other_way plan e) ≡ true
    cuts_both d e l h =
        cuts_by d e h (λ own. ap (λ (x : ℕ). cuts_link plan d (other_way plan x)) (sym own) ∙ cuts-other d)
        (λ other. ap (cuts_link plan d) (ap (other_way plan) (sym other) ∙ other_twice d l) ∙ cuts_own d)

    -- and of the links that it cuts each, as a name, cuts the other
    pub cuts-each : (d e f : ℕ) → d < length plan.links → cuts_link plan d e ≡ true → cuts_link plan d f ≡ true → cuts_link plan e f ≡ true
    cuts-each d e f l he hf =
        cuts_by d e he (λ own. ap (λ (x : ℕ). cuts_link plan x f) (sym own) ∙ hf)
        (λ other.
        let back : other_way plan e ≡ d = ap (other_way plan) (sym other) ∙ other_twice d l in
        cuts_by d f hf (λ own. ap (cuts_link plan e) (sym own ∙ sym back) ∙ cuts-other e)
        (λ also. ap (cuts_link plan e) (sym also ∙ other) ∙ cuts_own e))
