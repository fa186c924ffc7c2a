-- A pair cuts the cable that it names, and no other: the counts over the links that it cuts are those of the two links of that cable, or of the
-- one that there is.
use Prim.Native.Nat.{ℕ, zero, suc, ◌+◌, ◌-◌, ◌≤◌}
use native.Mathlib.Omega.{arith}
use mathlib.Core.Path.{◌≡◌, refl, sym, ◌∙◌, ap}
use mathlib.Core.Bool.{Bool, true, false, cond, ◌&&◌, ◌||◌}
use mathlib.Core.List.{List, [], ◌∷◌}
use lib.ListN.{length}
use lib.Dec.{ltb, eqb}
use borrow.Author.Tests.{ltb-false, eqb-true, eq-eqb, ne_eqb}
use Rattle.scope.specs.Plan.{Plan, Place, path_of}
use Rattle.scope.specs.Good.{has}
use Rattle.scope.specs.Cables.{other_way, is_higher}
use Rattle.scope.specs.Cuts.{cuts_link}
use Rattle.scope.specs.Cycle.{table_of}
use Rattle.scope.proofs.Cables.{cuts_by}
use Rattle.sets.specs.Sums.{sum_of, one_if}
use Rattle.sets.proofs.Sums.{sum_le, sum_plus, sum_zero}
use Rattle.losses.specs.Touch.{touched_in, over_cut, on_cable, touches}
use Rattle.losses.specs.Harmed.{hers_on, hers}
use Rattle.losses.specs.Strips.{is_robust, fragile_plan, cuts_one_of, on_robust, through_robust, strips_on, strips, bares}
use Rattle.losses.proofs.Fragile.{fragile_cut}

-- of one link there is one
module _ (d : ℕ) (count : ℕ → ℕ) where
  not_yet : (n : ℕ) → n ≤ d → sum_of (λ e. cond (eqb d e) (count e) 0) n ≡ 0
  unfolding sum_of
  not_yet zero h = refl
  not_yet (suc n) h = rw (ne_eqb d n (λ e. omega arith)) (omega (arith, not_yet n (omega arith)))

  only_one : (n : ℕ) → sum_of (λ e. cond (eqb d e) (count e) 0) n ≤ count d
  unfolding sum_of
  only_one zero = omega arith
  only_one (suc n) = by (eqb d n) refl (only_one n)
    where
      by : (b : Bool) → eqb d n ≡ b → sum_of (λ e. cond (eqb d e) (count e) 0) n ≤ count d →
          sum_of (λ e. cond (eqb d e) (count e) 0) n + cond b (count n) 0 ≤ count d
      by true h more =
          let same : d ≡ n = eqb-true d n h in
          omega (arith, not_yet n (omega arith), ap count same)
      by false h more = omega arith

module _ (plan : Plan) (d : ℕ) where
  -- two counts of a cable at once, and those of many
  pub cable_plus : (f g : ℕ → ℕ) → on_cable plan d f + on_cable plan d g ≡ on_cable plan d (λ e. f e + g e)
  cable_plus f g = by (ltb d (other_way plan d))
    where
      by : (b : Bool) → f d + cond b (f (other_way plan d)) 0 + (g d + cond b (g (other_way plan d)) 0) ≡
          f d + g d + cond b (f (other_way plan d) + g (other_way plan d)) 0
      by true = omega arith
      by false = omega arith

  pub cable-sum : (f : ℕ → ℕ → ℕ) (n : ℕ) → sum_of (λ m. on_cable plan d (f m)) n ≡ on_cable plan d (λ e. sum_of (λ m. f m e) n)
  cable-sum f n = by (ltb d (other_way plan d))
    where
      by : (b : Bool) → sum_of (λ m. f m d + cond b (f m (other_way plan d)) 0) n ≡
          sum_of (λ m. f m d) n + cond b (sum_of (λ m. f m (other_way plan d)) n) 0
      by true = sum_plus (λ m. f m d) (λ m. f m (other_way plan d)) n
      by false = omega (arith, sum_plus (λ m. f m d) (λ m. 0) n, sum_zero n)

  module _ (low : is_higher plan d ≡ false) where
    -- a name is the lower of the two
    alone : ltb d (other_way plan d) ≡ false → other_way plan d ≡ d
    alone h = omega (arith, ltb-false d (other_way plan d) h, ltb-false (other_way plan d) d low)

    pub one_cable : (count : ℕ → ℕ) → over_cut plan d count ≤ on_cable plan d count
    one_cable count = by (ltb d (other_way plan d)) refl
      where
        o : ℕ
        o = other_way plan d

        n : ℕ
        n = length plan.links

        named : ℕ → ℕ
        named e = cond (eqb d e) (count e) 0

        back : ℕ → ℕ
        back e = cond (eqb o e) (count e) 0

        here : (x e : ℕ) → x ≡ e → cond (eqb x e) (count e) 0 ≡ count e
        here x e same = ap (λ (t : Bool). cond t (count e) 0) (eq-eqb x e same)

        two : (e : ℕ) (t : Bool) → cuts_link plan d e ≡ t → cond t (count e) 0 ≤ named e + back e
        two e true h = cuts_by plan d e h (λ own. omega (arith, here d e own)) (λ other. omega (arith, here o e other))
        two e false h = omega arith

        one : (e : ℕ) (t : Bool) → cuts_link plan d e ≡ t → o ≡ d → cond t (count e) 0 ≤ named e
        one e true h same = cuts_by plan d e h (λ own. omega (arith, here d e own)) (λ other. omega (arith, here d e (sym same ∙ other)))
        one e false h same = omega arith

        by : (b : Bool) → ltb d o ≡ b → over_cut plan d count ≤ count d + cond b (count o) 0
        by true h =
            omega (
              arith,
              sum_le (λ e. cond (cuts_link plan d e) (count e) 0) (λ e. named e + back e) n (λ e l. two e (cuts_link plan d e) refl),
              sum_plus named back n,
              only_one d count n,
              only_one o count n,
            )
        by false h =
            omega (
              arith,
              sum_le (λ e. cond (cuts_link plan d e) (count e) 0) named n (λ e l. one e (cuts_link plan d e) refl (alone h)),
              only_one d count n,
            )

    pub hers-most : (m s : ℕ) → hers plan m s d ≤ on_cable plan d (hers_on plan m s)
    hers-most m s = one_cable (hers_on plan m s)

    pub touches-most : (s : ℕ) → touches plan s d ≤ on_cable plan d (touched_in (table_of plan) (plan.timeout - s) s)
    touches-most s = one_cable (touched_in (table_of plan) (plan.timeout - s) s)

  -- a pair cuts one of these links where one of its cable's is one of them
  cuts_one : (es : List ℕ) → cuts_one_of plan d es ≡ (has d es || has (other_way plan d) es)
  unfolding cuts_link cuts_one_of has
  cuts_one [] = refl
  cuts_one (e ∷ es) = rw (cuts_one es) (mixed (eqb d e) (eqb (other_way plan d) e) (has d es) (has (other_way plan d) es))
    where
      mixed : (a b c f : Bool) → ((a || b) || (c || f)) ≡ ((a || c) || (b || f))
      mixed true b c f = refl
      mixed false true true f = refl
      mixed false true false f = refl
      mixed false false c f = refl

  through_one : (m : ℕ) (ps : List Place) → through_robust plan m d ps ≡ (on_robust plan m d ps || on_robust plan m (other_way plan d) ps)
  unfolding through_robust on_robust
  through_one m [] = refl
  through_one m (p ∷ ps) =
      rw (through_one m ps, cuts_one p.second)
      (mixed (is_robust plan m p) (has d p.second) (has (other_way plan d) p.second) (on_robust plan m d ps)
      (on_robust plan m (other_way plan d) ps))
    where
      mixed : (r a b c f : Bool) → ((r && (a || b)) || (c || f)) ≡ (((r && a) || c) || ((r && b) || f))
      mixed true true b c f = refl
      mixed true false true true f = refl
      mixed true false true false f = refl
      mixed true false false c f = refl
      mixed false a b c f = refl

  -- so it counts them once at most
  pub through-most : is_higher plan d ≡ false → (m : ℕ) (ps : List Place) →
      one_if (through_robust plan m d ps) ≤ on_cable plan d (λ e. one_if (on_robust plan m e ps))
  through-most low m ps = rw (through_one m ps) (by (ltb d (other_way plan d)) refl)
    where
      either : (a b : Bool) → one_if (a || b) ≤ one_if a + one_if b
      either true b = omega arith
      either false true = omega arith
      either false false = omega arith

      own : (a : Bool) → one_if (a || a) ≤ one_if a + 0
      own true = omega arith
      own false = omega arith

      by : (b : Bool) → ltb d (other_way plan d) ≡ b →
          one_if (on_robust plan m d ps || on_robust plan m (other_way plan d) ps) ≤
          one_if (on_robust plan m d ps) + cond b (one_if (on_robust plan m (other_way plan d) ps)) 0
      by true h = either (on_robust plan m d ps) (on_robust plan m (other_way plan d) ps)
      by false h = rw (alone low h) (own (on_robust plan m d ps))

  module _ (low : is_higher plan d ≡ false) (s : ℕ) where
    pub strips-most : (m : ℕ) → strips plan m s d ≤ on_cable plan d (strips_on plan m s)
    strips-most m =
        let weak : ℕ → ℕ = hers_on (fragile_plan plan) m s in
        let strong : ℕ → ℕ = λ e. one_if (on_robust plan m e (path_of plan m)) in
        omega (arith, fragile_cut plan d weak, one_cable low weak, through-most low m (path_of plan m), cable_plus weak strong)

    pub bares-most : bares plan s d ≤
        on_cable plan d
        (λ e. touched_in (table_of (fragile_plan plan)) (plan.timeout - s) s e +
        sum_of (λ m. one_if (on_robust plan m e (path_of plan m))) (length plan.messages))
    bares-most =
        let n = length plan.messages in
        let weak : ℕ → ℕ = touched_in (table_of (fragile_plan plan)) (plan.timeout - s) s in
        let strong : ℕ → ℕ → ℕ = λ m e. one_if (on_robust plan m e (path_of plan m)) in
        omega (
          arith,
          fragile_cut plan d weak,
          one_cable low weak,
          sum_le (λ m. one_if (through_robust plan m d (path_of plan m))) (λ m. on_cable plan d (strong m)) n
              (λ m l. through-most low m (path_of plan m)),
          cable-sum strong n,
          cable_plus weak (λ e. sum_of (λ m. strong m e) n),
        )
