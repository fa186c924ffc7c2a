-- A loop over the links, with a set for each vertex of where earlier links lead from it: it begins, it goes on, it finds a repeat, it is done.
use Prim.Native.Nat.{ℕ, ◌+◌, ◌<◌}
use mathlib.Core.Path.{◌≡◌, refl, sym, ◌∙◌, ap}
use mathlib.Core.Bool.{Bool, true, false, ◌||◌}
use mathlib.Core.List.{List}
use native.Mathlib.Omega.{arith}
use borrow.Author.Tests.{eq-eqb, ne_eqb, eqb-true, eqb-false}
use lib.ListN.{length, length-set, length-replicate, get_or, get_or-replicate, set, replicate}
use lib.Seq.{get_or-set_same, get_or-set_other}
use lib.Dec.{eqb}
use Rattle.scope.specs.Limits.{most_vertices}
use Rattle.scope.specs.Lowest.{lowest, some}
use Rattle.scope.specs.Plan.{link_of, plan_of}
use Rattle.scope.specs.Good.{same_ends, repeats}
use Rattle.scope.proofs.Seek.{Seeking, seeking_first, seeking_next, lowest-found}
use Rattle.scope.proofs.Some.{none, some_more}
use Rattle.scope.proofs.PathFaults.{same_way}
use Rattle.sets.specs.Sets.{has, IsWith}
use Rattle.sets.proofs.Sets.{has-none, turned}
use Rattle.paths.specs.declared.Ends.{Ends}
use Rattle.paths.specs.Path.{EndsOf}

module _ (row : List ℕ) where
  -- one of the first e links leads from v to w
  abbrev leads : ℕ → ℕ → ℕ → Bool
  leads e v w = some (λ d. same_ends (link_of (plan_of row) d) (record { from = v; to = w })) e

  -- the loop, at link e
  pub record Repeating (links e : ℕ) (met : List ℕ) : Type 0 where
    pub seeking : Seeking (repeats (plan_of row)) links e
    pub long : length met ≡ most_vertices
    pub marked : (v w : ℕ) → v < most_vertices → has (get_or met v 0) w ≡ leads e v w

  pub repeating_first : (links : ℕ) → Repeating links 0 (replicate most_vertices 0)
  repeating_first links =
      record {
        seeking = seeking_first (repeats (plan_of row)) links;
        long = length-replicate {A = ℕ} most_vertices 0;
        marked = λ v w l.
            ap (λ x. has x w) (get_or-replicate most_vertices v 0 0 l) ∙ has-none w ∙ sym (none _ 0 (λ d h. absurd (omega arith)));
      }

  module _ (links e : ℕ) (met : List ℕ) (on : Repeating links e met) (l : e < links) (r : Ends) (ends : EndsOf (plan_of row) e r) where
    -- whether the set of the vertex where it begins has the one where it ends
    told : has (get_or met r.from 0) r.to ≡ repeats (plan_of row) e
    told =
        on.marked r.from r.to ends.from_small ∙
        ap (λ v. leads e v r.to) ends.from ∙ ap (leads e (link_of (plan_of row) e).from) ends.to

    pub repeating_found : (t : Bool) → t ≡ has (get_or met r.from 0) r.to → t ≡ true → e ≡ lowest (repeats (plan_of row)) links
    repeating_found t is h = lowest-found (repeats (plan_of row)) links e on.seeking l (sym told ∙ sym is ∙ h)

    pub repeating_next : (t : Bool) → t ≡ has (get_or met r.from 0) r.to → t ≡ false → (more : ℕ) → IsWith (get_or met r.from 0) r.to
        more →
        Repeating links (e + 1) (set met r.from more)
    repeating_next t is h more with_it =
        record {
          seeking = seeking_next (repeats (plan_of row)) links e on.seeking l (sym told ∙ sym is ∙ h);
          long = length-set met r.from more ∙ on.long;
          marked = λ v w k. by v w k (eqb v r.from) refl ∙ sym (some_more _ e);
        }
      where
        same_from : (v w : ℕ) → v ≡ r.from → eqb w r.to ≡ same_ends (link_of (plan_of row) e) (record { from = v; to = w })
        same_from v w f =
            let t : eqb (link_of (plan_of row) e).from v ≡ true = eq-eqb (link_of (plan_of row) e).from v (sym ends.from ∙ sym f) in
            rw t (ap (eqb w) ends.to ∙ same_way w (link_of (plan_of row) e).to)

        by : (v w : ℕ) → v < most_vertices → (b : Bool) → eqb v r.from ≡ b →
            has (get_or (set met r.from more) v 0) w ≡ (leads e v w || same_ends (link_of (plan_of row) e) (record { from = v; to = w }))
        by v w k true f =
            let q : v ≡ r.from = eqb-true v r.from f in
            ap (λ x. has (get_or (set met r.from more) x 0) w) q ∙
            ap (λ x. has x w) (get_or-set_same met r.from more 0 (omega (arith, on.long, ends.from_small))) ∙
            with_it w ∙ turned (eqb w r.to) (has (get_or met r.from 0) w) ∙
            ap (λ x. has (get_or met x 0) w || eqb w r.to) (sym q) ∙
            ap (λ x. x || eqb w r.to) (on.marked v w k) ∙ ap (λ x. leads e v w || x) (same_from v w q)
        by v w k false f =
            let q : v ≡ r.from → ⊥ = eqb-false v r.from f in
            let t : eqb (link_of (plan_of row) e).from v ≡ false = ne_eqb (link_of (plan_of row) e).from v (λ z. q (sym z ∙ sym ends.from)) in
            ap (λ x. has x w) (get_or-set_other met r.from v more 0 q) ∙ on.marked v w k ∙ rw t (alone (leads e v w))
          where
            alone : (b : Bool) → b ≡ (b || false)
            alone true = refl
            alone false = refl
