-- What follows from what is kept of a capture: refusal 23, and that what stands behind a bad triple decides nothing; and how it begins.
use Prim.Native.Nat.{ℕ, ◌+◌, ◌*◌, ◌<◌}
use mathlib.Core.Path.{◌≡◌, refl, sym, ◌∙◌, ap}
use mathlib.Core.Bool.{Bool, true, false, cond, true≢false, false≢true}
use mathlib.Core.List.{List, [], ◌++◌}
use native.Mathlib.Omega.{arith}
use lib.ListN.{length, replicate, length-append, length-replicate, get_or-replicate}
use borrow.Author.Tests.{lt-ltb, ltb-true, ne_eqb}
use Rattle.scope.specs.Limits.{crossed_size}
use Rattle.scope.specs.Outcome.{gives, refuse}
use Rattle.scope.specs.Plan.{Plan}
use Rattle.scope.specs.Capture.{triples, bad_triple, check_capture}
use Rattle.scope.proofs.Some.{none, none_below, some_one}
use Rattle.capture.specs.declared.Kept.{Kept}
use Rattle.capture.specs.Kept.{Keeps, KeepsAll, Whole, Fits, Begins, Ends, crossed_index}
use Rattle.capture.specs.Adding.{nothing_kept, spoilt}
use Rattle.capture.proofs.Triples.{lowest-is, bad-stays, first-stays, captured-none}

-- the capture without a triple
module _ (plan : Plan) where
  keeps-all : KeepsAll plan [] (replicate crossed_size 0) nothing_kept
  keeps-all = record {
    long = refl;
    last = refl;
    most = λ i e m h. false≢true (sym (captured-none i e m) ∙ h);
    marks = λ _ i e m l g. captured-none i e m ∙
        sym (rw (get_or-replicate {A = ℕ} crossed_size (crossed_index i m) 0 0 (omega arith)) (ne_eqb 0 (e + 1) (λ z. omega arith)));
    clash = λ h. absurd (false≢true h);
  }

  keeps-none : Keeps plan [] (replicate crossed_size 0) nothing_kept
  keeps-none = record {
    size = length-replicate {A = ℕ} crossed_size 0;
    fits = record { last = refl };
    bad = sym (none (bad_triple plan []) (triples []) (λ i l. absurd (omega arith)));
    place = λ h. absurd (false≢true h);
    all = λ _. keeps-all;
  }

pub begins : Begins nothing_kept
begins = record { fits = record { last = refl }; keeps = keeps-none }

pub fits-spoilt : (k : Kept) → Fits k → Fits (spoilt k)
fits-spoilt k f = record { last = f.last }

module _ (plan : Plan) (capture crossed : List ℕ) (k : Kept) (keeps : Keeps plan capture crossed k) where
  -- refusal 23 of a capture, or how many triples it has
  pub check_kept : check_capture plan capture ≡ cond k.bad (refuse 23 k.count) (gives k.count)
  unfolding check_capture
  check_kept = by k.bad refl
    where
      by : (b : Bool) → k.bad ≡ b → check_capture plan capture ≡ cond b (refuse 23 k.count) (gives k.count)
      by true h = rw (sym keeps.bad ∙ h, keeps.place h)
      by false h =
          let n : triples capture ≡ k.count = omega (arith, (keeps.all h).long) in
          rw (sym keeps.bad ∙ h) (ap gives n)

  -- what stands behind a bad triple that is complete decides nothing
  pub keeps-more : Whole capture → k.bad ≡ true → (more : List ℕ) → Keeps plan (capture ++ more) crossed k
  keeps-more w h more =
      let few : k.count < triples capture = rw (keeps.place h) (ltb-true _ _ (sym keeps.bad ∙ h)) in
      let first = first-stays plan capture more k.count (keeps.place h) (omega arith) in record {
        size = keeps.size;
        fits = keeps.fits;
        bad = h ∙ sym (rw first (lt-ltb k.count (triples (capture ++ more)) (omega (arith, length-append capture more))));
        place = λ _. sym first;
        all = λ f. absurd (true≢false (sym h ∙ f));
      }

  -- a bad triple behind good ones
  pub keeps-spoilt : k.bad ≡ false → (more : List ℕ) → k.count < triples (capture ++ more) →
      bad_triple plan (capture ++ more) k.count ≡ true → Keeps plan (capture ++ more) crossed (spoilt k)
  keeps-spoilt h more l t = record {
    size = keeps.size;
    fits = fits-spoilt k keeps.fits;
    bad = sym (some_one (bad_triple plan (capture ++ more)) (triples (capture ++ more)) k.count l t);
    place = λ _. sym (lowest-is (bad_triple plan (capture ++ more)) (triples (capture ++ more)) k.count l t below);
    all = λ f. absurd (true≢false f);
  }
    where
      below : (j : ℕ) → j < k.count → bad_triple plan (capture ++ more) j ≡ false
      below j g =
          let n : length capture ≡ 3 * k.count = (keeps.all h).long in
          bad-stays plan capture more j (omega arith) ∙
          none_below (bad_triple plan capture) (triples capture) (sym keeps.bad ∙ h) j (omega arith)

-- an unfinished one, behind good ones or a bad one
pub ends : (k : Kept) → Ends k (spoilt k)
ends k = record {
  bad = refl;
  fits = fits-spoilt k;
  keeps = λ plan capture crossed w keeps more some few. by plan capture crossed w keeps more some few k.bad refl;
}
  where
    by : (plan : Plan) (capture crossed : List ℕ) → Whole capture → Keeps plan capture crossed k → (more : List ℕ) → 0 < length more →
        length more < 3 → (b : Bool) → k.bad ≡ b → Keeps plan (capture ++ more) crossed (spoilt k)
    by plan capture crossed w keeps more some few true h = rw (← h) (keeps-more plan capture crossed k keeps w h more)
    by plan capture crossed w keeps more some few false h =
        let n : length capture ≡ 3 * k.count = (keeps.all h).long in
        keeps-spoilt plan capture crossed k keeps h more (omega (arith, length-append capture more))
        (rw (lt-ltb (length (capture ++ more)) (3 * k.count + 3) (omega (arith, length-append capture more))))
