-- Laws of the rules of paths: from the walk over a path to a first path's and a second path's earliest rule, and through the places of a
-- message.
use Prim.Native.Nat.{ℕ, zero, suc, ◌+◌, ◌-◌, ◌<◌}
use mathlib.Core.Path.{◌≡◌, refl, sym, ◌∙◌, ap}
use mathlib.Core.Bool.{Bool, true, false, cond, not, ◌&&◌, ◌||◌}
use mathlib.Core.List.{List}
use native.Mathlib.Omega.{arith}
use borrow.Author.Tests.{eq-eqb, ne_eqb, eqb-true, ltb-true}
use lib.ListN.{length, get_or}
use lib.Dec.{ltb, eqb}
use Rattle.std.specs.declared.option.Option.{Option}
use Rattle.std.specs.declared.option.Option.TheVariants.{Some, None}
use Rattle.std.specs.Bool.{then_some}
use Rattle.std.specs.Option.{MatchOption, IsSomeAnd}
use Rattle.scope.specs.Lowest.{lowest, some}
use Rattle.scope.specs.Plan.{Plan, Place}
use Rattle.scope.specs.Good.{end_of}
use Rattle.scope.specs.PathRules.{link_in, no_link, apart, astray, again, replaced, stands_at}
use Rattle.scope.proofs.Lowest.{seek_is, seek-same}
use Rattle.scope.proofs.Some.{some_at, some_same}
use Rattle.paths.specs.declared.Fault.{Fault}
use Rattle.paths.specs.declared.Rule.{Rule}
use Rattle.paths.specs.declared.Rule.TheVariants.{Astray, Replaced}
use Rattle.paths.specs.Path.{Earliest, order, order_of, at_of, step_of, path_rule}
use Rattle.paths.proofs.Earliest.{Alone, lowest-is, earliest-none, earliest-next, earliest-same, earliest-or, either}
use Rattle.paths.proofs.Laws.{end_is}
use Rattle.faults.specs.Broken.{FaultOf, PlaceFault, SecondsFault, place_in, place_rule}

-- the earliest rule of a first path is that of its message
module _ (broken : ℕ → ℕ → Bool) (n : ℕ) (r : Option (Fault Rule)) (g : Earliest broken 5 n (order r) (step_of r)) (same : at_of r ≡ step_of r) where
  pub first_fault_lem : FaultOf (λ x p s. eqb s p && broken x s) (λ p. n) n r
  first_fault_lem =
      record {
        found =
            record {
              earliest = g.earliest ∙ sym (seek-same _ _ 5 0 (λ x a b. some_same _ (broken x) n (on_step x)));
              first = λ h. same ∙ g.first h ∙ sym (seek-same _ _ n 0 (λ p a b. on_step (order r) p (omega arith)));
            };
        step = λ h. lowest-is (λ s. eqb s (at_of r) && broken (order r) s) n (step_of r) (inside h) (here h) (λ j l. before j l);
      }
    where
      -- at each place the step that is the place is asked alone
      on_step : (x p : ℕ) → p < n → some (λ s. eqb s p && broken x s) n ≡ broken x p
      on_step x p h = some_at (λ s. eqb s p) (broken x) n p h (eq-eqb p p refl) (λ s l e. eqb-true s p e)

      breaks : order r < 5 → some (broken (order r)) n ≡ true
      breaks h = rw g.earliest (seek_is (λ x. some (broken x) n) 5 0 (omega (arith, g.earliest)))

      inside : order r < 5 → step_of r < n
      inside h = omega (arith, g.first h, ltb-true (lowest (broken (order r)) n) n (breaks h))

      here : order r < 5 → eqb (step_of r) (at_of r) && broken (order r) (step_of r) ≡ true
      here h =
          let t : broken (order r) (step_of r) ≡ true =
          rw (g.first h) (seek_is (broken (order r)) n 0 (omega (arith, inside h, g.first h))) in
          rw (eq-eqb (step_of r) (at_of r) (sym same), t)

      before : (j : ℕ) → j < step_of r → eqb j (at_of r) && broken (order r) j ≡ false
      before j l = rw (ne_eqb j (at_of r) (λ e. omega (arith, e, same, l)))

-- a rule that is asked of one step alone, by whether it is broken there
module _ (test : ℕ → Bool) (n o : ℕ) (b : Bool) (is : some test n ≡ b) (f : Fault Rule) (rule : order_of f.rule ≡ o)
    (step : b ≡ true → f.step ≡ lowest test n) where
  alone : (h : Option (Fault Rule)) → h ≡ then_some b f → Alone test n o 5 h
  alone h e = record { broken = λ t. there (sym is ∙ t); kept = λ t. not_there (sym is ∙ t) }
    where
      there : b ≡ true → (order h ≡ o) × (step_of h ≡ lowest test n)
      there t = let g : h ≡ Some f = e ∙ rw t in rw g (rule, step t)

      not_there : b ≡ false → order h ≡ 5
      not_there t = let g : h ≡ None = e ∙ rw t in rw g

-- the earliest rule of the second path from a place: what the walk over it found, its end and its start
module _ (plan : Plan) (end : ℕ) (p : Place) (long : 0 < length p.second) where
  abbrev n : ℕ
  n = length p.second

  -- a wrong end is one of the last link
  module _ (last : ℕ) (fl : last ≡ end_of plan p.second) where
    leads : (link_in plan p.second (n - 1)).to ≡ last
    leads = end_is plan p.second ∙ sym fl

    ends : some (astray plan end p.second) n ≡ not (eqb last end)
    ends =
        some_at (λ s. eqb (s + 1) n) (λ s. not (eqb (link_in plan p.second s).to end)) n (n - 1) (omega arith)
        (eq-eqb (n - 1 + 1) n (omega arith)) (λ s l h. omega (arith, eqb-true (s + 1) n h)) ∙ ap (λ w. not (eqb w end)) leads

    pub told_astray : (f : Fault Rule) → f ≡ record { rule = Astray; message = 0; at = 0; step = n - 1 } →
        (h : Option (Fault Rule)) → h ≡ then_some (not (eqb last end)) f → Alone (astray plan end p.second) n 2 5 h
    told_astray f is h e =
        alone (astray plan end p.second) n 2 (not (eqb last end)) ends f (rw is) (λ w. ap (λ x. x.step) is ∙ lowest_end w) h e
      where
        lowest_end : not (eqb last end) ≡ true → n - 1 ≡ lowest (astray plan end p.second) n
        lowest_end w =
            let t : astray plan end p.second (n - 1) ≡ true = rw (eq-eqb (n - 1 + 1) n (omega arith), leads, w) in
            lowest-is (astray plan end p.second) n (n - 1) (omega arith) t
            (λ j l. rw (ne_eqb (j + 1) n (λ e. omega arith)))

  -- a start with the link that is replaced is one of the first
  module _ (first : ℕ) (ff : first ≡ get_or p.second 0 0) where
    begins : some (replaced p.link p.second) n ≡ eqb first p.link
    begins =
        some_at (λ s. eqb s 0) (λ s. eqb (get_or p.second s 0) p.link) n 0 long refl (λ s l h. eqb-true s 0 h) ∙
        ap (λ e. eqb e p.link) (sym ff)

    pub told_replaced : (f : Fault Rule) → f ≡ record { rule = Replaced; message = 0; at = 0; step = 0 } →
        (h : Option (Fault Rule)) → h ≡ then_some (eqb first p.link) f → Alone (replaced p.link p.second) n 4 5 h
    told_replaced f is h e =
        alone (replaced p.link p.second) n 4 (eqb first p.link) begins f (rw is) (λ w. ap (λ x. x.step) is ∙ lowest_start w) h e
      where
        lowest_start : eqb first p.link ≡ true → 0 ≡ lowest (replaced p.link p.second) n
        lowest_start w =
            let t : replaced p.link p.second 0 ≡ true = ap (λ e. eqb e p.link) (sym ff) ∙ w in
            lowest-is (replaced p.link p.second) n 0 long t (λ j l. absurd (omega arith))

  -- all of them
  pub second_fault_lem : (v : ℕ) → v ≡ stands_at plan p → (walked bent begun both all : Option (Fault Rule)) →
      Earliest (path_rule plan v p.second) 5 n (order walked) (step_of walked) →
      Alone (astray plan end p.second) n 2 5 bent → Alone (replaced p.link p.second) n 4 5 begun →
      both ≡ cond (ltb (order bent) (order walked)) bent walked → all ≡ cond (ltb (order begun) (order both)) begun both →
      PlaceFault plan end p all
  second_fault_lem v fv walked bent begun both all g a b e f =
      earliest-same _ _ 5 n _ _ in_order
      (earliest-or _ 5 n 4 (omega arith) _ (λ s. refl) both begun all
      (earliest-or _ 5 n 2 (omega arith) _ (λ s. refl) walked bent both g a e) b f)
    where
      alone_of : (b : Bool) → ((b || false) || false) ≡ b
      alone_of true = refl
      alone_of false = refl

      last_of_three : (b : Bool) → (b || false) ≡ b
      last_of_three true = refl
      last_of_three false = refl

      in_order : (x s : ℕ) → x < 5 →
          ((path_rule plan v p.second x s || (eqb x 2 && astray plan end p.second s)) || (eqb x 4 && replaced p.link p.second s)) ≡
          place_rule plan end p x s
      in_order zero s l = alone_of (no_link plan p.second s)
      in_order (suc zero) s l = rw fv (alone_of (apart plan (stands_at plan p) p.second s))
      in_order (suc (suc zero)) s l = last_of_three (astray plan end p.second s)
      in_order (suc (suc (suc zero))) s l = rw fv (alone_of (again plan (stands_at plan p) p.second s))
      in_order (suc (suc (suc (suc zero)))) s l = refl
      in_order (suc (suc (suc (suc (suc x))))) s l = absurd (omega arith)

-- a loop over the places of a message whose first path ends at vertex `end`, at place k
pub record Placing (plan : Plan) (end : ℕ) (ps : List Place) (k : ℕ) (found : Option (Fault Rule)) : Type 0 where
  pub kept : Earliest (λ x q. some (place_rule plan end (place_in ps q) x) (length (place_in ps q).second)) 5 k (order found) (at_of found)
  pub step : order found < 5 → step_of found ≡ lowest (place_rule plan end (place_in ps (at_of found)) (order found)) (length (place_in ps
      (at_of found)).second)

-- a fault told with its place
pub record ToldAt (k : ℕ) (fault told : Option (Fault Rule)) : Type 0 where
  pub rule : order told ≡ order fault
  pub at : order told < 5 → at_of told ≡ k
  pub step : step_of told ≡ step_of fault

pub told_at : (k : ℕ) (fault told : Option (Fault Rule)) (post : Fault Rule → Fault Rule → Type 0) →
    ((x r : Fault Rule) → post x r → r ≡ record { rule = x.rule; message = x.message; at = k; step = x.step }) →
    MatchOption fault (told ≡ None) (λ x. IsSomeAnd told (post x)) → ToldAt k fault told
told_at k None told post is h = rw h (record { rule = refl; at = λ l. absurd (omega arith); step = refl })
told_at k (Some x) None post is h = elim h [ ]
told_at k (Some x) (Some r) post is h =
    let e = is x r h in
    record { rule = ap (λ f. order_of f.rule) e; at = λ l. ap (λ f. f.at) e; step = ap (λ f. f.step) e }

module _ (plan : Plan) (end : ℕ) (ps : List Place) where
  pub placing_first : Placing plan end ps 0 None
  placing_first = record { kept = earliest-none _ 5 0; step = λ h. absurd (omega arith) }

  pub placing_next : (k : ℕ) (found here next fault : Option (Fault Rule)) → Placing plan end ps k found → PlaceFault plan end (place_in ps k) fault →
      order here ≡ order fault → (order here < 5 → at_of here ≡ k) → step_of here ≡ step_of fault → next ≡ cond (ltb (order here) (order found)) here found →
      Placing plan end ps (k + 1) next
  placing_next k found here next fault w f fr fk fs e =
      record {
        kept = earliest-next _ 5 k order at_of found here next w.kept fk (fr ∙ f.earliest) e;
        step =
            either _ 5 k order at_of found here next w.kept fk (fr ∙ f.earliest) e
            (λ r. order r < 5 → step_of r ≡ lowest (place_rule plan end (place_in ps (at_of r)) (order r)) (length (place_in ps (at_of r)).second))
            w.step
            (λ h. let l : order fault < 5 = omega (arith, fr) in rw (fs, fk, fr) (f.first l));
      }

  pub placing_done : (k : ℕ) (found : Option (Fault Rule)) → Placing plan end ps k found → k ≡ length ps → SecondsFault plan end ps found
  placing_done k found w e = rw (← e) (record { found = w.kept; step = w.step })
