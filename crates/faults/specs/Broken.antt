-- The rules as a first path's places, and a table, break them: the tests of refusals 8 and 9, and the earliest rule of paths that is broken, of
-- a message that stands anywhere.
use Rattle.std.specs.Prelude.{ℕ, ◌<◌, ◌≡◌, Bool, false, cond, not, ◌&&◌, ◌||◌, List, [], ◌∷◌, length, get_or, leb, eqb, MatchOption, Option}
use Rattle.scope.specs.Lowest.{lowest, some}
use Rattle.scope.specs.Plan.{Plan, Place}
use Rattle.scope.specs.Good.{links_of, slots_rise, end_of}
use Rattle.scope.specs.PathRules.{no_link, apart, astray, again, replaced, begins_at, stands_at}
use Rattle.table.specs.Table.{entry_at}
use Rattle.paths.specs.declared.Fault.{Fault}
use Rattle.paths.specs.declared.Rule.{Rule}
use Rattle.paths.specs.Path.{Earliest, order, at_of, step_of, path_rule}

-- r is the lowest number below n that passes a test, or none where none does
abbrev pub LowestOf : (ℕ → Bool) → ℕ → Option ℕ → Type 0
LowestOf test n r = MatchOption r (some test n ≡ false) (λ i. (i < n) × (i ≡ lowest test n))

abbrev pub broken_slots : Plan → List Place → Bool
broken_slots plan ps = not (slots_rise plan.timeout 0 ps)

-- a table gives the link and slot of some place to a message below m: an entry is the lowest holder plus one
unfoldable pub held_below : List ℕ → ℕ → List Place → Bool
held_below table m [] = false
held_below table m (p ∷ ps) = leb (entry_at table p.slot p.link) m || held_below table m ps

-- place p of a first path
abbrev pub place_in : List Place → ℕ → Place
place_in ps p = get_or ps p (record { link = 0; slot = 0; second = [] })

-- rule x of first paths is broken by these places at place p in step s: "on a first path the step is the place"
abbrev pub first_rule : Plan → List Place → ℕ → ℕ → ℕ → Bool
first_rule plan ps x p s = eqb s p && path_rule plan (begins_at plan (links_of ps)) (links_of ps) x s

-- the rules of the second path from a place of a first path that ends at vertex `end`, in the order in which they are asked: rule x is
-- broken in step s
abbrev pub place_rule : Plan → ℕ → Place → ℕ → ℕ → Bool
place_rule plan end p x s =
    cond (eqb x 0) (no_link plan p.second s)
    (cond (eqb x 1) (apart plan (stands_at plan p) p.second s)
    (cond (eqb x 2) (astray plan end p.second s)
    (cond (eqb x 3) (again plan (stands_at plan p) p.second s)
    (replaced p.link p.second s))))

abbrev pub second_rule : Plan → List Place → ℕ → ℕ → ℕ → Bool
second_rule plan ps x p s = place_rule plan (end_of plan (links_of ps)) (place_in ps p) x s

-- r has the earliest rule that is broken at one of n places, the lowest place and there the lowest step: a place p has so many links
pub record FaultOf (broken : ℕ → ℕ → ℕ → Bool) (links : ℕ → ℕ) (n : ℕ) (r : Option (Fault Rule)) : Type 0 where
  pub found : Earliest (λ x p. some (broken x p) (links p)) 5 n (order r) (at_of r)
  pub step : order r < 5 → step_of r ≡ lowest (broken (order r) (at_of r)) (links (at_of r))

abbrev pub FirstFault : Plan → List Place → Option (Fault Rule) → Type 0
FirstFault plan ps r = FaultOf (first_rule plan ps) (λ p. length ps) (length ps) r

abbrev pub SecondFault : Plan → List Place → Option (Fault Rule) → Type 0
SecondFault plan ps r = FaultOf (second_rule plan ps) (λ p. length (place_in ps p).second) (length ps) r

-- the same, where the first path ends at vertex `end`
abbrev pub SecondsFault : Plan → ℕ → List Place → Option (Fault Rule) → Type 0
SecondsFault plan end ps r = FaultOf (λ x p. place_rule plan end (place_in ps p) x) (λ p. length (place_in ps p).second) (length ps) r

-- and of one place alone
abbrev pub PlaceFault : Plan → ℕ → Place → Option (Fault Rule) → Type 0
PlaceFault plan end p r = Earliest (place_rule plan end p) 5 (length p.second) (order r) (step_of r)

-- a place with this link and second path; no rule of paths asks for its slot
abbrev pub second_of : ℕ → List ℕ → Place
second_of link second = record { link = link; slot = 0; second = second }
