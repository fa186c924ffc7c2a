-- A plan without reversed links is answered as document 01 answers it.
use Prim.Native.Nat.{ℕ, zero, suc, ◌+◌, ◌*◌, ◌<◌}
use native.Mathlib.Omega.{arith}
use mathlib.Core.Path.{◌≡◌, refl, sym, ◌∙◌, ap, fun_ext}
use mathlib.Core.Bool.{Bool, true, false, not, ◌&&◌, ◌||◌, or-false}
use mathlib.Core.List.{List}
use lib.ListN.{length}
use lib.Dec.{ltb, leb, eqb}
use borrow.Author.Tests.{ltb-true, le-ltb}
use Rattle.scope.specs.Lowest.{seek, some}
use Rattle.scope.specs.Outcome.{gives, unless_some}
use Rattle.scope.specs.Plan.{Plan, links_at, plan_of}
use Rattle.scope.specs.Cables.{other_way, is_higher}
use Rattle.scope.specs.Cuts.{pairs, cut_slot, cut_link, falls, bad_link_pair, bad_pair, check_cuts, is_cut_list, cuts_link, is_cut}
use Rattle.scope.specs.Cycle.{order_of, table_of, start, positions, events, arrived, arrivals, event_row}
use Rattle.scope.specs.OneWay.{NoReversedLinks, is_link_cut, arrivals_one_way, AsBefore}
use Rattle.scope.specs.Verdict.{Resistant}
use Rattle.scope.specs.Cases.{row_a, row_b}
use Rattle.scope.proofs.Bools.{not-true}
use Rattle.scope.proofs.Cuts.{link-below}
use Rattle.scope.proofs.Some.{some_same}

module _ (plan : Plan) (none : NoReversedLinks plan) where
  -- no link of the plan is the higher one of a cable
  same-bad : (cuts : List ℕ) (i : ℕ) → bad_pair plan cuts i ≡ bad_link_pair plan cuts i
  same-bad cuts i = by (ltb (cut_link cuts i) (length plan.links)) refl
    where
      past : (a b c d e : Bool) → (a || b || true || c || d || e) ≡ (a || b || true || c || d)
      past true b c d e = refl
      past false true c d e = refl
      past false false c d e = refl

      by : (b : Bool) → ltb (cut_link cuts i) (length plan.links) ≡ b → bad_pair plan cuts i ≡ bad_link_pair plan cuts i
      by true h =
          let low : is_higher plan (cut_link cuts i) ≡ false =
          le-ltb (other_way plan (cut_link cuts i)) (cut_link cuts i)
          (omega (arith, none (cut_link cuts i) (ltb-true (cut_link cuts i) (length plan.links) h))) in
          ap (λ (x : Bool). bad_link_pair plan cuts i || x) low ∙ or-false (bad_link_pair plan cuts i)
      by false h =
          rw h
          (past (eqb (length cuts) (2 * i + 1)) (not (ltb (cut_slot cuts i) plan.timeout)) (falls cuts i)
          (some (λ j. eqb (cut_link cuts j) (cut_link cuts i)) i) (is_higher plan (cut_link cuts i)))

  -- and what a pair cuts is the link that it names
  same-link : (d e : ℕ) → d < length plan.links → cuts_link plan d e ≡ eqb d e
  unfolding cuts_link
  same-link d e l = ap (λ (x : ℕ). eqb d e || eqb x e) (none d l) ∙ twice (eqb d e)
    where
      twice : (b : Bool) → (b || b) ≡ b
      twice true = refl
      twice false = refl

  same-cut : (cuts : List ℕ) → is_cut_list plan cuts ≡ true → is_cut plan cuts ≡ is_link_cut cuts
  unfolding is_cut
  same-cut cuts good =
      fun_ext (λ i. fun_ext (λ e. some_same (λ j. cuts_link plan (cut_link cuts j) e && leb (cut_slot cuts j) i)
      (λ j. eqb (cut_link cuts j) e && leb (cut_slot cuts j) i) (pairs cuts)
      (λ j l. ap (λ (x : Bool). x && leb (cut_slot cuts j) i) (same-link (cut_link cuts j) e (link-below plan cuts good j l)))))

  same_lists : (cuts : List ℕ) → is_cut_list plan cuts ≡ not (some (bad_link_pair plan cuts) (pairs cuts))
  same_lists cuts = ap (λ (bad : ℕ → Bool). not (some bad (pairs cuts))) (fun_ext (same-bad cuts))

  same-arrivals : (cuts : List ℕ) → is_cut_list plan cuts ≡ true → arrivals plan cuts ≡ arrivals_one_way plan cuts
  unfolding arrivals
  same-arrivals cuts good =
      ap (λ (down : ℕ → ℕ → Bool). arrived (positions (order_of plan) down (table_of plan) 0 plan.timeout (start plan)))
      (same-cut cuts good)

  pub as_before : AsBefore plan
  unfolding check_cuts event_row Resistant
  as_before =
      record {
        lists = same_lists;
        resists = λ k l all cuts none few.
            let good : is_cut_list plan cuts ≡ true = same_lists cuts ∙ ap not none in
            omega (arith, all cuts good few, same-arrivals cuts good);
        resists_back = λ k l all cuts good few.
            omega (arith, all cuts (not-true _ (sym (same_lists cuts) ∙ good)) few, same-arrivals cuts good);
        refuses = λ cuts. ap (λ (bad : ℕ → Bool). unless_some 12 bad (pairs cuts) (gives (pairs cuts))) (fun_ext (same-bad cuts));
        arrives = same-arrivals;
        tells = λ cuts good.
            ap (λ (down : ℕ → ℕ → Bool). events (order_of plan) down (table_of plan) 0 plan.timeout (start plan)) (same-cut cuts good);
      }

-- "Plans A and B have no reversed links"
pub A-one-way : NoReversedLinks (plan_of row_a)
unfolding seek other_way plan_of links_at
A-one-way zero l = refl
A-one-way (suc zero) l = refl
A-one-way (suc (suc zero)) l = refl
A-one-way (suc (suc (suc zero))) l = refl
A-one-way (suc (suc (suc (suc e)))) l = absurd (omega arith)

pub B-one-way : NoReversedLinks (plan_of row_b)
unfolding seek other_way plan_of links_at
B-one-way zero l = refl
B-one-way (suc zero) l = refl
B-one-way (suc (suc zero)) l = refl
B-one-way (suc (suc (suc e))) l = absurd (omega arith)
