-- How many entries the table has on a link from a slot on: it falls with each slot in which the table gives that link.
use Prim.Native.Nat.{ℕ, zero, suc, ◌+◌, ◌≤◌, ◌<◌}
use native.Mathlib.Omega.{arith}
use mathlib.Core.Path.{◌≡◌, refl}
use mathlib.Core.Bool.{Bool, true, false, cond, ◌&&◌, ◌||◌, false≢true, and-eq-true_iff}
use mathlib.Core.List.{List, [], ◌∷◌}
use lib.ListN.{length, get_or}
use lib.Dec.{ltb, leb, eqb}
use borrow.Author.Tests.{ltb-true, leb-true, le-leb, lt-leb, eqb-true}
use Rattle.scope.specs.Lowest.{lowest}
use Rattle.scope.specs.Plan.{Plan, Place, path_of}
use Rattle.scope.specs.Good.{holds}
use Rattle.scope.specs.Cycle.{table_of}
use Rattle.scope.specs.Spare.{entries_of, entries}
use Rattle.scope.proofs.Lowest.{seek_is}
use Rattle.laws.proofs.Cases.{cond_cases}

-- the entries of a first path, and of all of them, on link e in slot i or later
abbrev is_entry : ℕ → ℕ → Place → Bool
is_entry i e p = eqb p.link e && leb i p.slot

entries_of_from : ℕ → ℕ → List Place → ℕ
entries_of_from i e [] = 0
entries_of_from i e (p ∷ ps) = cond (is_entry i e p) 1 0 + entries_of_from i e ps

pub entries_from : ℕ → ℕ → List (List Place) → ℕ
entries_from i e [] = 0
entries_from i e (path ∷ paths) = entries_of_from i e path + entries_from i e paths

-- one entry
later : (i e : ℕ) (p : Place) → cond (is_entry (i + 1) e p) 1 0 ≤ cond (is_entry i e p) 1 0
later i e p = by (eqb p.link e) (leb (i + 1) p.slot) refl
  where
    by : (a b : Bool) → leb (i + 1) p.slot ≡ b → cond (a && b) 1 0 ≤ cond (a && leb i p.slot) 1 0
    by true true h =
        let l : i + 1 ≤ p.slot = leb-true (i + 1) p.slot h in
        rw (le-leb i p.slot (omega arith)) (omega arith)
    by true false h = omega arith
    by false b h = omega arith

gone : (i e : ℕ) (p : Place) → (eqb p.link e && eqb p.slot i) ≡ true → cond (is_entry (i + 1) e p) 1 0 < cond (is_entry i e p) 1 0
gone i e p h =
    let two = (and-eq-true_iff (eqb p.link e) (eqb p.slot i)).0 h in
    let s : p.slot ≡ i = eqb-true p.slot i two.1 in
    rw (two.0, le-leb i p.slot (omega arith), lt-leb (i + 1) p.slot (omega arith)) (omega arith)

entry : (i e : ℕ) (p : Place) → cond (is_entry i e p) 1 0 ≤ cond (eqb p.link e) 1 0
entry i e p = by (eqb p.link e) (leb i p.slot)
  where
    by : (a b : Bool) → cond (a && b) 1 0 ≤ cond a 1 0
    by true true = omega arith
    by true false = omega arith
    by false b = omega arith

-- those of a first path
of-falls : (i e : ℕ) (ps : List Place) → entries_of_from (i + 1) e ps ≤ entries_of_from i e ps
unfolding entries_of_from
of-falls i e [] = omega arith
of-falls i e (p ∷ ps) = omega (arith, later i e p, of-falls i e ps)

of_falls_strictly : (i e : ℕ) (ps : List Place) → holds e i ps ≡ true → entries_of_from (i + 1) e ps < entries_of_from i e ps
unfolding entries_of_from holds
of_falls_strictly i e [] h = absurd (false≢true h)
of_falls_strictly i e (p ∷ ps) h = by (eqb p.link e && eqb p.slot i) refl h (of_falls_strictly i e ps)
  where
    by : (b : Bool) → (eqb p.link e && eqb p.slot i) ≡ b → (b || holds e i ps) ≡ true →
        (holds e i ps ≡ true → entries_of_from (i + 1) e ps < entries_of_from i e ps) →
        entries_of_from (i + 1) e (p ∷ ps) < entries_of_from i e (p ∷ ps)
    by true c g more = omega (arith, gone i e p c, of-falls i e ps)
    by false c g more = omega (arith, later i e p, more g)

of-most : (i e : ℕ) (ps : List Place) → entries_of_from i e ps ≤ entries_of e ps
unfolding entries_of_from entries_of
of-most i e [] = omega arith
of-most i e (p ∷ ps) = omega (arith, entry i e p, of-most i e ps)

-- those of all first paths
pub entries_fall : (i e : ℕ) (paths : List (List Place)) → entries_from (i + 1) e paths ≤ entries_from i e paths
unfolding entries_from
entries_fall i e [] = omega arith
entries_fall i e (path ∷ paths) = omega (arith, of-falls i e path, entries_fall i e paths)

entries_fall_at : (i e : ℕ) (paths : List (List Place)) (m : ℕ) → holds e i (get_or paths m []) ≡ true →
    entries_from (i + 1) e paths < entries_from i e paths
unfolding entries_from holds
entries_fall_at i e [] m h = absurd (false≢true h)
entries_fall_at i e (path ∷ paths) zero h = omega (arith, of_falls_strictly i e path h, entries_fall i e paths)
entries_fall_at i e (path ∷ paths) (suc m) h = omega (arith, of-falls i e path, entries_fall_at i e paths m h)

pub entries-most : (i e : ℕ) (paths : List (List Place)) → entries_from i e paths ≤ entries e paths
unfolding entries_from entries
entries-most i e [] = omega arith
entries-most i e (path ∷ paths) = omega (arith, of-most i e path, entries-most i e paths)

-- where the table gives a link to somebody, an entry is behind after the slot
pub entries_fall_strictly : (plan : Plan) (i e : ℕ) → 0 < table_of plan i e →
    entries_from (i + 1) e plan.messages < entries_from i e plan.messages
unfolding table_of
entries_fall_strictly plan i e =
    cond_cases (λ (n : ℕ). 0 < n → entries_from (i + 1) e plan.messages < entries_from i e plan.messages)
    (ltb m (length plan.messages)) (m + 1) 0
    (λ h l. entries_fall_at i e plan.messages m
    (seek_is test (length plan.messages) 0 (omega (arith, ltb-true m (length plan.messages) h))))
    (λ h l. absurd (omega arith))
  where
    test : ℕ → Bool
    test j = holds e i (path_of plan j)

    m : ℕ
    m = lowest test (length plan.messages)
