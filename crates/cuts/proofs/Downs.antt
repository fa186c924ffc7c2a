-- Laws of what is down in a slot: one more link, one more pair, and all pairs.
use Prim.Native.Nat.{ℕ, ◌+◌, ◌<◌}
use mathlib.Core.Path.{◌≡◌, refl, sym, ◌∙◌, ap}
use mathlib.Core.Bool.{Bool, true, false, cond, ◌&&◌, ◌||◌, or-false, or-true, or_assoc, and-true, and-false}
use mathlib.Core.List.{List}
use native.Mathlib.Omega.{arith}
use lib.ListN.{length, replicate, get_or-replicate, length-replicate, length-set}
use lib.Seq.{get_or-set_same, get_or-set_other}
use lib.Dec.{ltb, leb, eqb}
use borrow.Author.Tests.{le-ltb, eqb-true, eqb-false}
use Rattle.scope.specs.Limits.{most_links}
use Rattle.scope.specs.Lowest.{seek, some}
use Rattle.scope.specs.Cuts.{cut_slot, cut_link}
use Rattle.scope.proofs.Some.{some_more}
use Rattle.cables.specs.Others.{other_in}
use Rattle.cuts.specs.Down.{is_down, with_link, with_cable, with_pair}

-- a link past the list is whole
-- one more link is down: it alone
link-down : (down : List ℕ) (d e : ℕ) → e < length down → is_down (with_link down d) e ≡ (is_down down e || eqb d e)
link-down down d e l = by (eqb d e) refl
  where
    by : (b : Bool) → eqb d e ≡ b → is_down (with_link down d) e ≡ (is_down down e || b)
    by true h = rw (eqb-true d e h) (ap (ltb 0) (get_or-set_same down e 1 0 l) ∙ sym (or-true (is_down down e)))
    by false h =
        ap (ltb 0) (get_or-set_other down d e 1 0 (λ same. eqb-false d e h (sym same))) ∙ sym (or-false (is_down down e))

module _ (others down : List ℕ) where
  -- and the other way of it
  cable-down : (d e : ℕ) → e < length down → is_down (with_cable others down d) e ≡ (is_down down e || (eqb d e || eqb (other_in others d) e))
  cable-down d e l =
      link-down (with_link down d) (other_in others d) e (rw (length-set down d 1) l) ∙
      ap (λ x. x || eqb (other_in others d) e) (link-down down d e l) ∙ or_assoc (is_down down e) (eqb d e) (eqb (other_in others d) e)

module _ (others cuts : List ℕ) (i : ℕ) where
  -- pair j takes link e down
  abbrev cut_by : ℕ → ℕ → Bool
  cut_by e j = (eqb (cut_link cuts j) e || eqb (other_in others (cut_link cuts j)) e) && leb (cut_slot cuts j) i

  -- a loop over the pairs has passed the first j of them
  pub record Told (j : ℕ) (down : List ℕ) : Type 0 where
    pub long : length down ≡ most_links
    pub is : (e : ℕ) → e < most_links → is_down down e ≡ some (cut_by e) j

  -- it begins, it goes on
  pub told_none : Told 0 (replicate {A = ℕ} most_links 0)
  unfolding seek
  told_none =
      record {
        long = length-replicate {A = ℕ} most_links 0;
        is = λ e g. ap (ltb 0) (get_or-replicate {A = ℕ} most_links e 0 0 g) ∙ sym (le-ltb 0 0 (omega arith));
      }

  more : (j : ℕ) (down : List ℕ) → Told j down → Told (j + 1) (with_pair others down (cut_slot cuts j) (cut_link cuts j) i)
  more j down t = by (leb (cut_slot cuts j) i) refl
    where
      long : length (with_cable others down (cut_link cuts j)) ≡ most_links
      long = length-set (with_link down (cut_link cuts j)) (other_in others (cut_link cuts j)) 1 ∙ length-set down (cut_link cuts j) 1 ∙ t.long

      one : (e : ℕ) (new : Bool) → e < most_links → new ≡ (is_down down e || cut_by e j) → new ≡ some (cut_by e) (j + 1)
      one e new g h = h ∙ rw (some_more (cut_by e) j) (ap (λ x. x || cut_by e j) (t.is e g))

      by : (b : Bool) → leb (cut_slot cuts j) i ≡ b → Told (j + 1) (cond b (with_cable others down (cut_link cuts j)) down)
      by true h =
          record {
            long = long;
            is = λ e g. one e _ g (cable-down others down (cut_link cuts j) e (omega (arith, t.long)) ∙ rw (h, and-true));
          }
      by false h = record { long = t.long; is = λ e g. one e _ g (rw (h, and-false, or-false)) }

  pub told_more : (j : ℕ) (down new : List ℕ) (at link : ℕ) → Told j down → at ≡ cut_slot cuts j → link ≡ cut_link cuts j →
      new ≡ with_pair others down at link i → Told (j + 1) new
  told_more j down new at link t p q e = rw (e, p, q) (more j down t)
