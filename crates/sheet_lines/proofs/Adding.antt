-- A plan added to the sums: an array to which a plan's are added for each index below k, and what it then holds.
use Prim.Native.Nat.{ℕ, ◌+◌, ◌-◌, ◌*◌, ◌^◌, ◌≤◌, ◌<◌}
use mathlib.Core.Path.{◌≡◌, refl, sym, ◌∙◌, ap}
use mathlib.Core.Bool.{Bool, true, false, cond, ◌&&◌}
use mathlib.Core.List.{List, [], ◌∷◌, ◌++◌}
use native.Mathlib.Omega.{arith}
use lib.ListN.{length, get_or, set, replicate, length-append, length-set, get_or-replicate}
use lib.Seq.{get_or-set_same, get_or-set_other}
use lib.Dec.{ltb, eqb}
use borrow.Author.Tests.{lt-ltb, le-ltb, ltb-true, ltb-false, eqb-true, eqb-false}
use Rattle.scope.specs.Limits.{most_messages}
use Rattle.scope.specs.Shelf.{Rated, unharmed, loss_sum}
use Rattle.sheet_lines.specs.Tally.{rated, sums, no_sums, Tallies, MayAdd, Adds}
use Rattle.sheet_lines.specs.declared.Sums.{Sums}
use Rattle.sheet_lines.specs.declared.Tally.{Tally}
use Rattle.sheet_lines.proofs.Order.{unharmed-most, unharmed-more, loss-more, refused_adds_nothing}

-- what a plan with these figures loses for k, and 1 where it loses nothing
abbrev pub loss_of : ℕ → List ℕ → ℕ → ℕ
loss_of m fs k = m - get_or fs k 0

abbrev pub none_of : ℕ → List ℕ → ℕ → ℕ
none_of m fs k = cond (eqb (loss_of m fs k) 0) 1 0

-- the sums for k in an array
abbrev pub at : List Sums → ℕ → Sums
at ss k = get_or ss k no_sums

-- to the sums of each index below k what such a plan adds was added
pub record Summed (m : ℕ) (fs : List ℕ) (old : List Sums) (k : ℕ) (new : List Sums) : Type 0 where
  pub size : length new ≡ length old
  pub counts : (j : ℕ) → (at new j).unharmed ≡ (at old j).unharmed + cond (ltb j k) (none_of m fs j) 0
  pub losses : (j : ℕ) → (at new j).lost ≡ (at old j).lost + cond (ltb j k) (loss_of m fs j) 0

module _ (m : ℕ) (fs : List ℕ) (old : List Sums) where
  pub summed_first : Summed m fs old 0 old
  summed_first =
      record {
        size = refl;
        counts = λ j. rw (le-ltb j 0 (omega arith)) (omega arith);
        losses = λ j. rw (le-ltb j 0 (omega arith)) (omega arith);
      }

  module _ (k : ℕ) (new : List Sums) (s : Summed m fs old k new) where
    none-yet : (x : ℕ) → cond (ltb k k) x 0 ≡ 0
    none-yet x = rw (le-ltb k k (omega arith))

    -- nothing was added to the sums for k
    pub counts_here : (at new k).unharmed ≡ (at old k).unharmed
    counts_here = let n = none-yet (none_of m fs k) in let e = s.counts k in omega arith

    pub losses_here : (at new k).lost ≡ (at old k).lost
    losses_here = let n = none-yet (loss_of m fs k) in let e = s.losses k in omega arith

    abbrev more : Sums
    more = record { unharmed = (at new k).unharmed + none_of m fs k; lost = (at new k).lost + loss_of m fs k }

    pub summed_next : k < length new → Summed m fs old (k + 1) (set new k more)
    summed_next h =
        record {
          size = length-set new k more ∙ s.size;
          counts = λ j. counts j (eqb j k) refl;
          losses = λ j. losses j (eqb j k) refl;
        }
      where
        one : ltb k (k + 1) ≡ true
        one = lt-ltb k (k + 1) (omega arith)

        below : (j : ℕ) → (j ≡ k → ⊥) → (t : Bool) → ltb j k ≡ t → ltb j (k + 1) ≡ t
        below j n true t = let l = ltb-true j k t in lt-ltb j (k + 1) (omega arith)
        below j n false t = let l = ltb-false j k t in le-ltb j (k + 1) (omega (arith, n))

        counts : (j : ℕ) (t : Bool) → eqb j k ≡ t →
            (at (set new k more) j).unharmed ≡ (at old j).unharmed + cond (ltb j (k + 1)) (none_of m fs j) 0
        counts j true t = rw (eqb-true j k t, get_or-set_same new k more no_sums h, counts_here, one)
        counts j false t =
            let n = eqb-false j k t in
            rw (get_or-set_other new k j more no_sums n, below j n (ltb j k) refl) (s.counts j)

        losses : (j : ℕ) (t : Bool) → eqb j k ≡ t → (at (set new k more) j).lost ≡ (at old j).lost + cond (ltb j (k + 1)) (loss_of m fs j) 0
        losses j true t = rw (eqb-true j k t, get_or-set_same new k more no_sums h, losses_here, one)
        losses j false t =
            let n = eqb-false j k t in
            rw (get_or-set_other new k j more no_sums n, below j n (ltb j k) refl) (s.losses j)

-- no plan
pub none_tallied : Tallies [] (record { sums = replicate sums no_sums })
unfolding unharmed loss_sum
none_tallied =
    record {
      size = refl;
      counts = λ k h. ap (λ (s : Sums). s.unharmed) (get_or-replicate sums k no_sums no_sums h);
      losses = λ k h. ap (λ (s : Sums). s.lost) (get_or-replicate sums k no_sums no_sums h);
      small = λ k h. omega arith;
    }

-- a plan that is refused leaves the sums
pub tallies-refused : (ps : List Rated) (t : Tally) → Tallies ps t → Tallies (ps ++ (rated 0 [] ∷ [])) t
tallies-refused ps t s =
    let n = length-append ps (rated 0 [] ∷ []) in
    record {
      size = s.size;
      counts = λ k h. s.counts k h ∙ sym (refused_adds_nothing k ps).counts;
      losses = λ k h. s.losses k h ∙ sym (refused_adds_nothing k ps).losses;
      small = λ k h. let l = (refused_adds_nothing k ps).losses in let m = s.small k h in omega arith;
    }

-- an array has sums for k, to which a plan can be added
pub record Within (k : ℕ) (ss : List Sums) : Type 0 where
  pub inside : k < length ss
  pub count_fits : (at ss k).unharmed < 2 ^ 32
  pub loss_fits : (at ss k).lost < 2 ^ 37

module _ (t : Tally) (m : ℕ) (fs : List ℕ) (may : MayAdd t m fs) where
  pub within : (k : ℕ) → k < length fs → (ss : List Sums) → Summed m fs t.sums k ss → Within k ss
  within k h ss s =
      let short = may.short in
      let few = may.few in
      let size = s.size in
      let sums-size = may.tallies.size in
      let count = may.tallies.counts k (omega arith) in
      let loss = may.tallies.losses k (omega arith) in
      let count_most = unharmed-most k may.plans in
      let loss-most = may.tallies.small k (omega arith) in
      let count-here = counts_here m fs t.sums k ss s in
      let loss-here = losses_here m fs t.sums k ss s in
      record { inside = omega arith; count_fits = omega arith; loss_fits = omega arith }

  pub added : (k : ℕ) → k ≡ length fs → (ss : List Sums) → Summed m fs t.sums k ss → Adds t (rated m fs) (record { sums = ss })
  added k all ss l ps s = record { size = l.size ∙ s.size; counts = counts; losses = losses; small = small }
    where
      both : (a b : Bool) → ◌≡◌ {A = ℕ} (cond a (cond b 1 0) 0) (cond (a && b) 1 0)
      both true b = refl
      both false b = refl

      counts : (j : ℕ) → j < sums → (at ss j).unharmed ≡ unharmed j (ps ++ (rated m fs ∷ []))
      counts j h =
          l.counts j ∙ ap (λ (x : ℕ). x + cond (ltb j k) (none_of m fs j) 0) (s.counts j h) ∙
          ap (λ (n : ℕ). unharmed j ps + cond (ltb j n) (none_of m fs j) 0) all ∙
          ap (λ (x : ℕ). unharmed j ps + x) (both (ltb j (length fs)) (eqb (loss_of m fs j) 0)) ∙
          sym (unharmed-more j ps (rated m fs))

      losses : (j : ℕ) → j < sums → (at ss j).lost ≡ loss_sum j (ps ++ (rated m fs ∷ []))
      losses j h =
          l.losses j ∙ ap (λ (x : ℕ). x + cond (ltb j k) (loss_of m fs j) 0) (s.losses j h) ∙
          ap (λ (n : ℕ). loss_sum j ps + cond (ltb j n) (loss_of m fs j) 0) all ∙
          sym (loss-more j ps (rated m fs))

      less : (j : ℕ) (a : Bool) → cond a (loss_of m fs j) 0 ≤ m
      less j true = omega arith
      less j false = omega arith

      small : (j : ℕ) → j < sums → loss_sum j (ps ++ (rated m fs ∷ [])) ≤ most_messages * length (ps ++ (rated m fs ∷ []))
      small j h =
          let n = length-append ps (rated m fs ∷ []) in
          let more = loss-more j ps (rated m fs) in
          let before = s.small j h in
          let here = less j (ltb j (length fs)) in
          let most = may.most in
          omega arith
