-- A list of links is a path exactly if no link of it is at fault.
use Prim.Native.Nat.{ℕ, suc, ◌+◌}
use mathlib.Core.Path.{◌≡◌, refl, sym, ◌∙◌, ap}
use mathlib.Core.Bool.{Bool, true, false, not, ◌&&◌, ◌||◌}
use mathlib.Core.List.{List, [], ◌∷◌}
use native.Mathlib.Omega.{arith}
use lib.ListN.{length, get_or}
use lib.Dec.{ltb, eqb}
use borrow.Author.Tests.{eqb-true, eqb-false, eq-eqb, ne_eqb}
use Rattle.scope.specs.Lowest.{seek, some}
use Rattle.scope.specs.Plan.{Plan, link_of}
use Rattle.scope.specs.Good.{has, different, are_links, joins, visited, is_path_from, last_of, end_of}
use Rattle.scope.specs.PathRules.{link_in, before, no_link, apart, again, astray, replaced}
use Rattle.scope.proofs.Some.{some_first, some_or, some_at}

-- what the first link keeps, and the links after it keep, all keep
pub all_keep : (broken : ℕ → Bool) (n : ℕ) (x y : Bool) → broken 0 ≡ not x → y ≡ not (some (λ s. broken (suc s)) n) →
    (x && y) ≡ not (some broken (suc n))
all_keep broken n x y e f = rw (f, some_first broken n, e) (by x (some (λ s. broken (suc s)) n))
  where
    by : (a b : Bool) → (a && not b) ≡ not (not a || b)
    by true b = refl
    by false b = refl

pub same_way : (x y : ℕ) → eqb x y ≡ eqb y x
same_way x y = by (eqb y x) refl
  where
    by : (t : Bool) → eqb y x ≡ t → eqb x y ≡ t
    by true e = eq-eqb x y (sym (eqb-true y x e))
    by false e = ne_eqb x y (λ h. eqb-false y x e (sym h))

last-is : (e : ℕ) (es : List ℕ) → get_or (e ∷ es) (length es) 0 ≡ last_of e es
last-is e [] = refl
last-is e (d ∷ es) = last-is d es

module _ (plan : Plan) where
  are-links : (es : List ℕ) → are_links plan es ≡ not (some (no_link plan es) (length es))
  unfolding seek are_links
  are-links [] = refl
  are-links (e ∷ es) = all_keep (no_link plan (e ∷ es)) (length es) (ltb e (length plan.links)) (are_links plan es) refl (are-links es)

  join : (v : ℕ) (es : List ℕ) → joins plan v es ≡ not (some (apart plan v es) (length es))
  unfolding seek joins visited
  join v [] = refl
  join v (e ∷ es) =
      let to = (link_of plan e).to in
      all_keep (apart plan v (e ∷ es)) (length es) (eqb (link_of plan e).from v) (joins plan to es) refl (join to es)

  -- some link leads to vertex v
  leads : (v : ℕ) (es : List ℕ) → has v (visited plan es) ≡ some (λ s. eqb (link_in plan es s).to v) (length es)
  unfolding seek has visited
  leads v [] = refl
  leads v (e ∷ es) = rw (some_first (λ s. eqb (link_in plan (e ∷ es) s).to v) (length es), leads v es, same_way (link_of plan e).to v)

  -- the link of step s leads where one before it led
  abbrev alike : List ℕ → ℕ → Bool
  alike es s = has (link_in plan es s).to (before plan es s)

  from_vertex : (v : ℕ) (es : List ℕ) → different (visited plan es) ≡ not (some (alike es) (length es)) →
      different (v ∷ visited plan es) ≡ not (some (again plan v es) (length es))
  unfolding has different
  from_vertex v es h =
      rw (some_or (λ s. eqb (link_in plan es s).to v) (alike es) (length es), h, leads v es)
      (by (some (λ s. eqb (link_in plan es s).to v) (length es)) (some (alike es) (length es)))
    where
      by : (a b : Bool) → (not a && not b) ≡ not (a || b)
      by true b = refl
      by false b = refl

  differ : (es : List ℕ) → different (visited plan es) ≡ not (some (alike es) (length es))
  unfolding seek has different visited
  differ [] = refl
  differ (e ∷ es) = rw (some_first (alike (e ∷ es)) (length es)) (from_vertex (link_of plan e).to es (differ es))

  pub is_path : (v : ℕ) (es : List ℕ) →
      let n = length es in
      is_path_from plan v es ≡ (not (some (no_link plan es) n) && not (some (apart plan v es) n) && not (some (again plan v es) n))
  is_path v es = rw (are-links es, join v es, from_vertex v es (differ es))

  -- and what is asked of a second path besides
  pub is-astray : (end e : ℕ) (es : List ℕ) → some (astray plan end (e ∷ es)) (suc (length es)) ≡ not (eqb (end_of plan (e ∷ es)) end)
  is-astray end e es =
      let n = suc (length es) in
      some_at (λ s. eqb (s + 1) n) (λ s. not (eqb (link_in plan (e ∷ es) s).to end)) n (length es) (omega arith)
      (eq-eqb (length es + 1) n (omega arith)) (λ i l h. omega (arith, eqb-true (i + 1) n h)) ∙
      ap (λ d. not (eqb (link_of plan d).to end)) (last-is e es)

pub is-replaced : (link e : ℕ) (es : List ℕ) → some (replaced link (e ∷ es)) (suc (length es)) ≡ eqb e link
is-replaced link e es =
    some_at (λ s. eqb s 0) (λ s. eqb (get_or (e ∷ es) s 0) link) (suc (length es)) 0 (omega arith) refl (λ i l h. eqb-true i 0 h)
