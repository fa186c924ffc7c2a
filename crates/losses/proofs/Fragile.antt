-- The plan with its fragile places alone: its first paths and its table.
use Prim.Native.Nat.{ℕ, zero, suc, ◌+◌, ◌<◌}
use native.Mathlib.Omega.{arith}
use mathlib.Core.Path.{◌≡◌, refl, sym, ◌∙◌, ap}
use mathlib.Core.Bool.{Bool, true, false, cond, ◌&&◌, ◌||◌, or-true, and-eq-true_iff}
use mathlib.Core.List.{List, [], ◌∷◌}
use lib.ListN.{length, get_or}
use lib.Dec.{ltb, eqb}
use Rattle.scope.specs.Outcome.{gives}
use Rattle.scope.specs.Plan.{Plan, Place, path_of}
use Rattle.scope.specs.Good.{are_links, links_of, slots_rise, holds}
use Rattle.scope.specs.Rules.{rules}
use Rattle.scope.specs.Cables.{other_way}
use Rattle.scope.specs.Cuts.{cuts_link}
use Rattle.scope.specs.Cycle.{table_of}
use Rattle.laws.specs.Links.{TableGives}
use Rattle.laws.proofs.Cases.{cond_cases}
use Rattle.laws.proofs.Good.{there_or_not}
use Rattle.laws.proofs.Rising.{rises, rising, earlier}
use Rattle.laws.proofs.Table.{table-gives, lowest-has, holds-gives, gives_held}
use Rattle.losses.specs.Touch.{over_cut}
use Rattle.losses.specs.Strips.{is_robust, fragile_of, fragile_paths, fragile_plan}

module _ (plan : Plan) where
  paths_long : (k : ℕ) (paths : List (List Place)) → length (fragile_paths plan k paths) ≡ length paths
  unfolding fragile_paths
  paths_long k [] = refl
  paths_long k (path ∷ paths) = ap suc (paths_long (k + 1) paths)

  paths_at : (k m : ℕ) (paths : List (List Place)) → get_or (fragile_paths plan k paths) m [] ≡ fragile_of plan (k + m) (get_or paths m [])
  unfolding fragile_paths fragile_of
  paths_at k m [] = refl
  paths_at k zero (path ∷ paths) = let e : k ≡ k + 0 = omega arith in ap (λ (j : ℕ). fragile_of plan j path) e
  paths_at k (suc m) (path ∷ paths) =
      let e : k + 1 + m ≡ k + suc m = omega arith in
      paths_at (k + 1) m paths ∙ ap (λ (j : ℕ). fragile_of plan j (get_or paths m [])) e

  -- as many messages, each with its fragile places
  pub fragile_long : length (fragile_plan plan).messages ≡ length plan.messages
  fragile_long = paths_long 0 plan.messages

  pub fragile_path : (m : ℕ) → path_of (fragile_plan plan) m ≡ fragile_of plan m (path_of plan m)
  fragile_path m = let e : 0 + m ≡ m = omega arith in paths_at 0 m plan.messages ∙ ap (λ (j : ℕ). fragile_of plan j (path_of plan m)) e

  -- a pair cuts the same links in it
  pub fragile_cut : (d : ℕ) (count : ℕ → ℕ) → over_cut (fragile_plan plan) d count ≡ over_cut plan d count
  unfolding other_way cuts_link
  fragile_cut d count = refl

  module _ (m : ℕ) where
    fragile_holds : (e i : ℕ) (ps : List Place) → holds e i (fragile_of plan m ps) ≡ true → holds e i ps ≡ true
    unfolding fragile_of holds
    fragile_holds e i [] h = h
    fragile_holds e i (p ∷ ps) h = by (is_robust plan m p) h (fragile_holds e i ps)
      where
        here : Bool
        here = eqb p.link e && eqb p.slot i

        more : (b : Bool) → (holds e i (fragile_of plan m ps) ≡ true → holds e i ps ≡ true) →
            (b || holds e i (fragile_of plan m ps)) ≡ true → (b || holds e i ps) ≡ true
        more true r g = refl
        more false r g = r g

        by : (b : Bool) → holds e i (cond b (fragile_of plan m ps) (p ∷ fragile_of plan m ps)) ≡ true →
            (holds e i (fragile_of plan m ps) ≡ true → holds e i ps ≡ true) → (here || holds e i ps) ≡ true
        by true g r = rw (r g) (or-true here)
        by false g r = more here r g

    -- its slots rise too
    pub fragile_rises : (t least : ℕ) (ps : List Place) → slots_rise t least ps ≡ true → slots_rise t least (fragile_of plan m ps) ≡ true
    unfolding fragile_of
    fragile_rises t least [] r = r
    fragile_rises t least (p ∷ ps) r =
        let s = rises t least p ps r in
        let more = fragile_rises t (p.slot + 1) ps s.rest in
        cond_cases (λ (q : List Place). slots_rise t least q ≡ true) (is_robust plan m p) (fragile_of plan m ps) (p ∷ fragile_of plan m ps)
        (λ h. earlier t least (p.slot + 1) (fragile_of plan m ps) (omega (arith, s.low)) more)
        (λ h. rising t least p (fragile_of plan m ps) (record { low = s.low; high = s.high; rest = more }))

    -- and its links are links
    pub fragile_links : (ps : List Place) → are_links plan (links_of ps) ≡ true → are_links plan (links_of (fragile_of plan m ps)) ≡ true
    unfolding fragile_of are_links
    fragile_links [] h = h
    fragile_links (p ∷ ps) h =
        let two = (and-eq-true_iff (ltb p.link (length plan.links)) (are_links plan (links_of ps))).0 h in
        let more = fragile_links ps two.1 in
        cond_cases (λ (q : List Place). are_links plan (links_of q) ≡ true) (is_robust plan m p) (fragile_of plan m ps) (p ∷ fragile_of plan m ps)
        (λ b. more)
        (λ b. (and-eq-true_iff (ltb p.link (length plan.links)) (are_links plan (links_of (fragile_of plan m ps)))).1 (two.0, more))

  module _ (g : rules plan ≡ gives 0) where
    -- in a good plan whose place it is, fragile or not, is told by the table
    holder : (m e i : ℕ) → holds e i (path_of (fragile_plan plan) m) ≡ true → table_of plan i e ≡ m + 1
    holder m e i h =
        holds-gives (table_of plan) m e i (path_of plan m) (table-gives plan g m)
        (fragile_holds m e i (path_of plan m) (sym (ap (holds e i) (fragile_path m)) ∙ h))

    -- and the table of fragile places gives each to its message
    pub fragile_gives : (m : ℕ) → TableGives (table_of (fragile_plan plan)) m (fragile_of plan m (path_of plan m))
    unfolding fragile_of
    fragile_gives m =
        there_or_not plan (λ (path : List Place). TableGives (table_of (fragile_plan plan)) m (fragile_of plan m path)) m
        (λ there. gives_held (table_of (fragile_plan plan)) m (fragile_of plan m (path_of plan m))
        (λ e i h. let held : holds e i (path_of (fragile_plan plan) m) ≡ true = ap (holds e i) (fragile_path m) ∙ h in
        lowest-has (fragile_plan plan) m (omega (arith, fragile_long)) e i held
        (λ j l. by m e i held j l (holds e i (path_of (fragile_plan plan) j)) refl)))
        tt
      where
        by : (k e i : ℕ) → holds e i (path_of (fragile_plan plan) k) ≡ true → (j : ℕ) → j < k → (b : Bool) →
            holds e i (path_of (fragile_plan plan) j) ≡ b → b ≡ false
        by k e i held j l false h = refl
        by k e i held j l true h = absurd (omega (arith, holder k e i held, holder j e i h))
