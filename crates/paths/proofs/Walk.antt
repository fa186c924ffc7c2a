-- The walk over a path: what the marks say, and how the earliest rule that is broken goes on from link to link.
use Prim.Native.Nat.{ℕ, zero, suc, ◌+◌, ◌≤◌, ◌<◌}
use mathlib.Core.Path.{◌≡◌, refl, sym, ◌∙◌, ap}
use mathlib.Core.Bool.{Bool, true, false, not, cond, ◌||◌}
use mathlib.Core.List.{List, [], ◌∷◌, ◌++◌}
use native.Mathlib.Numerals.{add-one}
use native.Mathlib.Omega.{arith}
use borrow.Author.Tests.{lt-ltb, le-ltb}
use lib.ListN.{length, get_or}
use lib.Dec.{ltb, eqb}
use Rattle.std.specs.declared.option.Option.{Option}
use Rattle.std.specs.declared.option.Option.TheVariants.{None}
use Rattle.scope.specs.Lowest.{seek, lowest, some}
use Rattle.scope.specs.Plan.{Plan, link_of}
use Rattle.scope.specs.Good.{visited, has, last_of}
use Rattle.scope.specs.PathRules.{link_in, before, no_link, apart, again}
use Rattle.scope.proofs.Some.{none, some_more}
use Rattle.sets.specs.Sets.{has as In, IsWith}
use Rattle.sets.proofs.Sets.{has-none}
use Rattle.paths.specs.declared.Ends.{Ends}
use Rattle.paths.specs.declared.Fault.{Fault}
use Rattle.paths.specs.declared.Rule.{Rule}
use Rattle.paths.specs.Path.{EndsOf, Earliest, order, step_of, path_rule, link_rule}
use Rattle.paths.proofs.Earliest.{earliest-none, earliest-next, earliest-found}

-- a set has the vertices that are met
abbrev pub Marks : (ℕ → Bool) → ℕ → Type 0
Marks met set = (w : ℕ) → In set w ≡ met w

-- one number more at the end of a list
last_more : (v : ℕ) (xs : List ℕ) (y : ℕ) → last_of v (xs ++ (y ∷ [])) ≡ y
last_more v [] y = refl
last_more v (x ∷ xs) y = last_more x xs y

has_more : (w : ℕ) (xs : List ℕ) (y : ℕ) → eqb w y || has w xs ≡ has w (xs ++ (y ∷ []))
unfolding has
has_more w [] y = refl
has_more w (x ∷ xs) y = turned (eqb w y) (eqb w x) (has w xs) ∙ ap (λ t. eqb w x || t) (has_more w xs y)
  where
    turned : (a b c : Bool) → a || (b || c) ≡ b || (a || c)
    turned true true c = refl
    turned true false c = refl
    turned false b c = refl

-- and one vertex more that is visited
visited-more : (plan : Plan) (es : List ℕ) (k : ℕ) → k < length es → before plan es (k + 1) ≡ before plan es k ++ ((link_in plan es k).to ∷ [])
unfolding visited
visited-more plan es k h = ap (before plan es) (add-one k) ∙ go es k h
  where
    go : (es : List ℕ) (k : ℕ) → k < length es → before plan es (suc k) ≡ before plan es k ++ ((link_in plan es k).to ∷ [])
    go [] k h = absurd (omega arith)
    go (e ∷ es) zero h = refl
    go (e ∷ es) (suc k) h = ap (λ vs. (link_of plan e).to ∷ vs) (go es k (omega arith))

-- a loop over a path that began at vertex v, at step k and vertex u: all links before it are below E, the vertices met are marked, and of what
-- was broken the earliest rule is found
pub record Walking (plan : Plan) (path : List ℕ) (v u k marks : ℕ) (found : Option (Fault Rule)) : Type 0 where
  pub stands : u ≡ last_of v (before plan path k)
  pub marked : Marks (λ x. has x (v ∷ before plan path k)) marks
  pub below : some (no_link plan path) k ≡ false
  pub kept : Earliest (path_rule plan v path) 5 k (order found) (step_of found)
  pub most : k ≤ length path

-- link e is that of step k, and the plan has it
pub record OnLink (plan : Plan) (path : List ℕ) (k e : ℕ) : Type 0 where
  pub here : k < length path
  pub is : e ≡ get_or path k 0
  pub there : e < length plan.links

module _ (plan : Plan) (path : List ℕ) (v : ℕ) where
  pub walking_first : (marks : ℕ) → IsWith 0 v marks → Walking plan path v v 0 marks None
  unfolding has visited
  walking_first marks one =
      record {
        stands = refl;
        marked = λ w. one w ∙ ap (λ t. eqb w v || t) (has-none w);
        below = none (no_link plan path) 0 (λ i l. absurd (omega arith));
        kept = earliest-none (path_rule plan v path) 5 0;
        most = omega arith;
      }

  module _ (u k marks : ℕ) (found : Option (Fault Rule)) (w : Walking plan path v u k marks found) where
    pub walking_done : length path ≤ k → Earliest (path_rule plan v path) 5 (length path) (order found) (step_of found)
    walking_done h = let e : k ≡ length path = omega (arith, w.most) in rw (← e) w.kept

    -- the link is none: no rule comes before that
    pub walking_no_link : (e : ℕ) → k < length path → e ≡ get_or path k 0 → length plan.links ≤ e →
        Earliest (path_rule plan v path) 5 (length path) 0 k
    walking_no_link e here is b =
        let t : ltb (get_or path k 0) (length plan.links) ≡ false = le-ltb (get_or path k 0) (length plan.links) (omega (arith, is)) in
        earliest-found (path_rule plan v path) 5 (length path) k (omega arith) here (rw t) w.below

    module _ (e : ℕ) (on : OnLink plan path k e) (r : Ends) (ends : EndsOf plan e r) where
      is-link : no_link plan path k ≡ false
      is-link =
          let t : ltb (get_or path k 0) (length plan.links) ≡ true = lt-ltb (get_or path k 0) (length plan.links)
          (omega (arith, on.is, on.there)) in
          rw t

      from_is : r.from ≡ (link_in plan path k).from
      from_is = ends.from ∙ ap (λ x. (link_of plan x).from) on.is

      to_is : r.to ≡ (link_in plan path k).to
      to_is = ends.to ∙ ap (λ x. (link_of plan x).to) on.is

      -- the rule that it breaks
      pub link-breaks : (rule : ℕ) (met : Bool) → met ≡ In marks r.to → rule ≡ link_rule (not (eqb r.from u)) met →
          rule ≡ lowest (λ x. path_rule plan v path x k) 5
      unfolding seek
      link-breaks rule met fm fr =
          let parted : not (eqb r.from u) ≡ apart plan v path k =
          ap (λ x. not (eqb x u)) from_is ∙ ap (λ x. not (eqb (link_in plan path k).from x)) w.stands in
          let twice : met ≡ again plan v path k = fm ∙ w.marked r.to ∙ ap (λ x. has x (v ∷ before plan path k)) to_is in
          fr ∙ rw (parted, twice, is-link)

      -- and then the next
      pub walking_next : (here next : Option (Fault Rule)) → (order here < 5 → step_of here ≡ k) → order here ≡ lowest (λ x. path_rule plan v path x k) 5 →
          next ≡ cond (ltb (order here) (order found)) here found → (more : ℕ) → IsWith marks r.to more →
          Walking plan path v r.to (k + 1) more next
      unfolding has
      walking_next here next at rule kept-or-here marked with_it =
          let more = visited-more plan path k on.here in
          record {
            stands = to_is ∙ sym (ap (last_of v) more ∙ last_more v (before plan path k) (link_in plan path k).to);
            marked = λ x. with_it x ∙ ap (λ t. eqb x r.to || t) (w.marked x) ∙ ap (λ y. eqb x y || has x (v ∷ before plan path k)) to_is ∙
                has_more x (v ∷ before plan path k) (link_in plan path k).to ∙ ap (λ vs. has x (v ∷ vs)) (sym more);
            below = some_more (no_link plan path) k ∙ rw (w.below, is-link);
            kept = earliest-next (path_rule plan v path) 5 k order step_of found here next w.kept at rule kept-or-here;
            most = omega (arith, on.here);
          }
