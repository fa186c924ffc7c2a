-- The table of a good plan has at most t entries on a link: each slot has at most one, and each entry lies in a slot below t.
use Prim.Native.Nat.{ℕ, zero, suc, ◌+◌, ◌≤◌, ◌<◌}
use native.Mathlib.Omega.{arith}
use mathlib.Core.Path.{◌≡◌, refl, sym, ◌∙◌, ap₂, subst}
use mathlib.Core.Bool.{Bool, true, false, cond, ◌&&◌, and-true, and-false}
use mathlib.Core.List.{List, [], ◌∷◌}
use lib.ListN.{get_or}
use lib.Dec.{eqb, ltb}
use borrow.Author.Tests.{ltb-true, ltb-false, eqb-true, eqb-false, lt-ltb, le-ltb, eq-eqb, ne_eqb}
use Rattle.scope.specs.Outcome.{gives}
use Rattle.scope.specs.Plan.{Plan, Place, path_of}
use Rattle.scope.specs.Good.{slots_rise}
use Rattle.scope.specs.Rules.{rules}
use Rattle.scope.specs.Cycle.{table_of}
use Rattle.scope.specs.Spare.{entries_of, entries}
use Rattle.laws.specs.Links.{TableGives}
use Rattle.laws.proofs.Good.{good_rises}
use Rattle.laws.proofs.Rising.{rises}
use Rattle.laws.proofs.Table.{table-gives}

-- the entries of a first path, and of all of them, on link e in slots that pass a test
abbrev one : ℕ → (ℕ → Bool) → Place → ℕ
one e test p = cond (eqb p.link e && test p.slot) 1 0

count_of : ℕ → (ℕ → Bool) → List Place → ℕ
count_of e test [] = 0
count_of e test (p ∷ ps) = one e test p + count_of e test ps

count : ℕ → (ℕ → Bool) → List (List Place) → ℕ
count e test [] = 0
count e test (path ∷ paths) = count_of e test path + count e test paths

-- in slot s, and in a slot before slot s
abbrev in_slot : ℕ → ℕ → Bool
in_slot s i = eqb i s

abbrev before : ℕ → ℕ → Bool
before s i = ltb i s

module _ (e : ℕ) where
  -- in no slot
  none_one : (p : Place) → one e (before 0) p ≡ 0
  none_one p = rw (le-ltb p.slot 0 (omega arith), and-false (eqb p.link e))

  none_of : (ps : List Place) → count_of e (before 0) ps ≡ 0
  unfolding count_of
  none_of [] = refl
  none_of (p ∷ ps) = omega (arith, none_one p, none_of ps)

  none : (paths : List (List Place)) → count e (before 0) paths ≡ 0
  unfolding count
  none [] = refl
  none (path ∷ paths) = omega (arith, none_of path, none paths)

  -- in one slot more
  slot-more : (s i : ℕ) → cond (before (suc s) i) 1 0 ≡ cond (before s i) 1 0 + cond (in_slot s i) 1 0
  slot-more s i = by (ltb i s) refl (eqb i s) refl
    where
      by : (a : Bool) → ltb i s ≡ a → (b : Bool) → eqb i s ≡ b → cond (ltb i (suc s)) 1 0 ≡ cond a 1 0 + cond b 1 0
      by true h true g = absurd (omega (arith, ltb-true i s h, eqb-true i s g))
      by true h false g = rw (lt-ltb i (suc s) (omega (arith, ltb-true i s h))) (omega arith)
      by false h true g = rw (lt-ltb i (suc s) (omega (arith, eqb-true i s g))) (omega arith)
      by false h false g =
          let l : s ≤ i = ltb-false i s h in
          let d : i ≡ s → ⊥ = eqb-false i s g in
          rw (le-ltb i (suc s) (omega arith)) (omega arith)

  one_more : (s : ℕ) (p : Place) → one e (before (suc s)) p ≡ one e (before s) p + one e (in_slot s) p
  one_more s p = by (eqb p.link e)
    where
      by : (t : Bool) → cond (t && before (suc s) p.slot) 1 0 ≡ cond (t && before s p.slot) 1 0 + cond (t && in_slot s p.slot) 1 0
      by true = slot-more s p.slot
      by false = omega arith

  more_of : (s : ℕ) (ps : List Place) → count_of e (before (suc s)) ps ≡ count_of e (before s) ps + count_of e (in_slot s) ps
  unfolding count_of
  more_of s [] = omega arith
  more_of s (p ∷ ps) = omega (arith, one_more s p, more_of s ps)

  more : (s : ℕ) (paths : List (List Place)) → count e (before (suc s)) paths ≡ count e (before s) paths + count e (in_slot s) paths
  unfolding count
  more s [] = omega arith
  more s (path ∷ paths) = omega (arith, more_of s path, more s paths)

  -- in every slot
  whole_of : (t least : ℕ) (ps : List Place) → slots_rise t least ps ≡ true → entries_of e ps ≡ count_of e (before t) ps
  unfolding entries_of count_of
  whole_of t least [] h = refl
  whole_of t least (p ∷ ps) h =
      let r = rises t least p ps h in
      let here : cond (eqb p.link e) 1 0 ≡ one e (before t) p = rw (lt-ltb p.slot t r.high, and-true (eqb p.link e)) in
      ap₂ (λ (a b : ℕ). a + b) here (whole_of t (p.slot + 1) ps r.rest)

  whole : (t : ℕ) (paths : List (List Place)) → ((k : ℕ) → slots_rise t 0 (get_or paths k []) ≡ true) → entries e paths ≡ count e (before t) paths
  unfolding entries count
  whole t [] h = refl
  whole t (path ∷ paths) h = ap₂ (λ (a b : ℕ). a + b) (whole_of t 0 path (h 0)) (whole t paths (λ k. h (suc k)))

  -- in slot s: none of a first path that has only later slots
  later_of : (s t least : ℕ) (ps : List Place) → s < least → slots_rise t least ps ≡ true → count_of e (in_slot s) ps ≡ 0
  unfolding count_of
  later_of s t least [] l h = refl
  later_of s t least (p ∷ ps) l h =
      let r = rises t least p ps h in
      let low : least ≤ p.slot = r.low in
      let here : one e (in_slot s) p ≡ 0 = rw (ne_eqb p.slot s (λ same. omega arith), and-false (eqb p.link e)) in
      omega (arith, here, later_of s t (p.slot + 1) ps (omega arith) r.rest)

  -- so at most one, and it is the table's
  held_of : (owner : ℕ → ℕ → ℕ) (s t least m : ℕ) (ps : List Place) → TableGives owner m ps → slots_rise t least ps ≡ true →
      count_of e (in_slot s) ps ≤ cond (eqb (owner s e) (m + 1)) 1 0
  unfolding count_of
  held_of owner s t least m [] g h = by (eqb (owner s e) (m + 1))
    where
      by : (b : Bool) → 0 ≤ cond b 1 0
      by true = omega arith
      by false = omega arith
  held_of owner s t least m (p ∷ ps) g h =
      by (eqb p.link e) refl (eqb p.slot s) refl
      (held_of owner s t (p.slot + 1) m ps g.1 (rises t least p ps h).rest)
    where
      by : (a : Bool) → eqb p.link e ≡ a → (b : Bool) → eqb p.slot s ≡ b → count_of e (in_slot s) ps ≤ cond (eqb (owner s e) (m + 1)) 1 0 →
          cond (a && b) 1 0 + count_of e (in_slot s) ps ≤ cond (eqb (owner s e) (m + 1)) 1 0
      by true f true i rest =
          let link : p.link ≡ e = eqb-true p.link e f in
          let slot : p.slot ≡ s = eqb-true p.slot s i in
          let mine : owner s e ≡ m + 1 = ap₂ owner (sym slot) (sym link) ∙ g.0 in
          rw (eq-eqb (owner s e) (m + 1) mine) (omega (arith, later_of s t (p.slot + 1) ps (omega arith) (rises t least p ps h).rest))
      by true f false i rest = omega arith
      by false f b i rest = omega arith

  -- of messages j and those after it
  held : (owner : ℕ → ℕ → ℕ) (s t j : ℕ) (paths : List (List Place)) → ((k : ℕ) → TableGives owner (j + k) (get_or paths k [])) →
      ((k : ℕ) → slots_rise t 0 (get_or paths k []) ≡ true) → count e (in_slot s) paths ≤ cond (ltb j (owner s e)) 1 0
  unfolding count
  held owner s t j [] g h = by (ltb j (owner s e))
    where
      by : (b : Bool) → 0 ≤ cond b 1 0
      by true = omega arith
      by false = omega arith
  held owner s t j (path ∷ paths) g h =
      let mine : TableGives owner j path = subst (λ (m : ℕ). TableGives owner m path) (omega arith) (g 0) in
      let rest : count e (in_slot s) paths ≤ cond (ltb (j + 1) (owner s e)) 1 0 =
      held owner s t (j + 1) paths (λ k. subst (λ (m : ℕ). TableGives owner m (get_or paths k [])) (omega arith) (g (suc k))) (λ k. h (suc k)) in
      by (owner s e) (ltb j (owner s e)) refl (held_of owner s t 0 j path mine (h 0)) rest
    where
      by : (x : ℕ) (b : Bool) → ltb j x ≡ b → count_of e (in_slot s) path ≤ cond (eqb x (j + 1)) 1 0 →
          count e (in_slot s) paths ≤ cond (ltb (j + 1) x) 1 0 → count_of e (in_slot s) path + count e (in_slot s) paths ≤ cond b 1 0
      by x true i a c = two (eqb x (j + 1)) refl (ltb (j + 1) x) refl a c
        where
          two : (u : Bool) → eqb x (j + 1) ≡ u → (v : Bool) → ltb (j + 1) x ≡ v → count_of e (in_slot s) path ≤ cond u 1 0 →
              count e (in_slot s) paths ≤ cond v 1 0 → count_of e (in_slot s) path + count e (in_slot s) paths ≤ 1
          two true f true i a c = absurd (omega (arith, eqb-true x (j + 1) f, ltb-true (j + 1) x i))
          two true f false i a c = omega arith
          two false f v i a c = one_at_most v c a
            where
              one_at_most : (v : Bool) → count e (in_slot s) paths ≤ cond v 1 0 → count_of e (in_slot s) path ≤ 0 →
                  count_of e (in_slot s) path + count e (in_slot s) paths ≤ 1
              one_at_most true c a = omega arith
              one_at_most false c a = omega arith
      by x false i a c =
          let l : x ≤ j = ltb-false j x i in
          let a' : count_of e (in_slot s) path ≤ 0 = rw (ne_eqb x (j + 1) (λ f. omega arith)) at a in
          let c' : count e (in_slot s) paths ≤ 0 = rw (le-ltb (j + 1) x (omega arith)) at c in
          omega arith

  -- so before slot s there are at most s of them
  few : (owner : ℕ → ℕ → ℕ) (t : ℕ) (paths : List (List Place)) → ((k : ℕ) → TableGives owner (0 + k) (get_or paths k [])) →
      ((k : ℕ) → slots_rise t 0 (get_or paths k []) ≡ true) → (s : ℕ) → count e (before s) paths ≤ s
  few owner t paths g h zero = omega (arith, none paths)
  few owner t paths g h (suc s) =
      omega (arith, more s paths, few owner t paths g h s, at_most_one (ltb 0 (owner s e)) (held owner s t 0 paths g h))
    where
      at_most_one : (b : Bool) → count e (in_slot s) paths ≤ cond b 1 0 → count e (in_slot s) paths ≤ 1
      at_most_one true l = l
      at_most_one false l = omega arith

pub entries-few : (plan : Plan) → rules plan ≡ gives 0 → (e : ℕ) → entries e plan.messages ≤ plan.timeout
entries-few plan g e =
    let rise : (k : ℕ) → slots_rise plan.timeout 0 (path_of plan k) ≡ true = good_rises plan g in
    let gave : (k : ℕ) → TableGives (table_of plan) (0 + k) (path_of plan k) =
    λ k. subst (λ (m : ℕ). TableGives (table_of plan) m (path_of plan k)) (omega arith) (table-gives plan g k) in
    let t = plan.timeout in
    omega (arith, whole e t plan.messages rise, few e (table_of plan) t plan.messages gave rise t)
