-- Held by a lower message: the one that goes first crosses the link, and since no link stands twice on its second path it is no longer
-- among those who may cross it.
use Prim.Native.Nat.{ℕ, ◌+◌, ◌≤◌, ◌<◌}
use native.Mathlib.Omega.{arith}
use mathlib.Core.Path.{◌≡◌, refl, sym, ◌∙◌, ap, subst, subst₂}
use mathlib.Core.Logic.{⊎_elim}
use mathlib.Core.Bool.{Bool, true, false, true≢false}
use mathlib.Core.List.{List, [], ◌∷◌}
use lib.ListN.{length, get_or, get_or-eq_default}
use lib.Dec.{ltb}
use borrow.Author.Tests.{ltb-true, ltb-false, eq-eqb, eqb-true}
use Rattle.scope.specs.Good.{has}
use Rattle.scope.specs.Slot.{Position, on_first, turn, tries}
use Rattle.scope.specs.Cycle.{foremost, slot, nexts}
use Rattle.scope.specs.Spare.{has_second_through}
use Rattle.laws.specs.Message.{position_of, tries_link}
use Rattle.laws.specs.Links.{NoLinkTwiceLeft}
use Rattle.laws.proofs.One.{tried_in, next-at, tried_at}
use Rattle.laws.proofs.Foremost.{foremost-low, foremost-is}
use Rattle.laws.proofs.Links.{tries-number, lowest-crosses}
use Rattle.laws.proofs.Kept.{different-rest, turned_once}
use Rattle.laws.proofs.Pending.{may_cross, pending, turn-from, pending_falls_strictly}

-- who may cross a link is there
there : (e k : ℕ) (ps : List Position) → may_cross e (position_of k ps) ≡ true → k < length ps
unfolding has_second_through
there e k ps h = by (ltb k (length ps)) refl
  where
    by : (b : Bool) → ltb k (length ps) ≡ b → k < length ps
    by true l = ltb-true k (length ps) l
    by false l =
        let none : position_of k ps ≡ on_first [] = get_or-eq_default ps (on_first []) (ltb-false k (length ps) l) in
        absurd (true≢false (sym h ∙ ap (may_cross e) none))

pub has_first : (e : ℕ) (es : List ℕ) → has e (e ∷ es) ≡ true
unfolding has
has_first e es = rw (eq-eqb e e refl)

-- message m is held on link e, which the table gives to nobody
module _ (rank : ℕ → ℕ) (down : ℕ → ℕ → Bool) (owner : ℕ → ℕ → ℕ) (m i e : ℕ) (ps : List Position) where
  pub lowest-tries : (f : ℕ) → foremost rank e m 0 (tried_in (down i) ps) ≡ f → (j : ℕ) → tries_link (down i) e j ps ≡ true → rank f ≤ rank j
  lowest-tries f is j t =
      let number : get_or (tried_in (down i) ps) j 0 ≡ e + 1 =
      tried_at (down i) ps j ∙ eqb-true (tries (down i) (turn (down i) (position_of j ps))) (e + 1) t in
      let z : 0 + j ≡ j = omega arith in
      subst₂ (λ (x y : ℕ). rank x ≤ rank y) is z (foremost-low rank e (tried_in (down i) ps) m 0 j number)

  first_gone : ((k : ℕ) → NoLinkTwiceLeft (position_of k ps)) → owner i e ≡ 0 → (f : ℕ) → foremost rank e m 0 (tried_in (down i) ps) ≡ f →
      rank f < rank m → get_or (tried_in (down i) ps) f 0 ≡ e + 1 →
      pending rank m e 0 (nexts (slot rank down owner i ps)) < pending rank m e 0 ps
  first_gone once free f is low number =
      let c = lowest-crosses rank down owner f i e ps (tries-number (down i) e f ps number) free (lowest-tries f is) in
      let before : may_cross e (position_of f ps) ≡ true =
      turn-from (down i) e (position_of f ps) (e ∷ c.rest) c.before (has_first e c.rest) in
      let crossed = (different-rest e c.rest (turned_once (down i) (position_of f ps) (e ∷ c.rest) (once f) c.before)).0 in
      let after : may_cross e (position_of f (nexts (slot rank down owner i ps))) ≡ false =
      ap (may_cross e) (next-at (slot rank down owner i ps) f ∙ c.after) ∙ crossed in
      pending_falls_strictly rank down owner m e i f ps (there e f ps before) low before after

  pub held_falls : ((k : ℕ) → NoLinkTwiceLeft (position_of k ps)) → owner i e ≡ 0 → rank (foremost rank e m 0 (tried_in (down i) ps)) < rank m →
      pending rank m e 0 (nexts (slot rank down owner i ps)) < pending rank m e 0 ps
  held_falls once free low =
      ⊎_elim
      (λ h. let l : rank m < rank m = subst (λ (x : ℕ). rank x < rank m) h low in absurd (omega arith))
      (λ h. let is : foremost rank e m 0 (tried_in (down i) ps) ≡ h.0 = omega (arith, h.1) in
      first_gone once free h.0 is (subst (λ (x : ℕ). rank x < rank m) is low) h.2)
      (foremost-is rank e (tried_in (down i) ps) m 0)
