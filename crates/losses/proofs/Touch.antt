-- Touches count losses: a message that is not at its target at the end has a pair that cuts a link of its first path in time, and the
-- table gives each link and slot to one message at most.
use Prim.Native.Nat.{ℕ, ◌+◌, ◌-◌, ◌≤◌, ◌<◌}
use native.Mathlib.Omega.{arith}
use mathlib.Core.Path.{◌≡◌, refl, ◌∙◌, ap}
use mathlib.Core.Bool.{Bool, true, false, cond, and-eq-true_iff}
use mathlib.Core.List.{List, [], ◌∷◌}
use lib.ListN.{length}
use lib.Dec.{ltb, eqb}
use borrow.Author.Tests.{ltb-true, ltb-false, eq-eqb}
use Rattle.scope.specs.Outcome.{gives}
use Rattle.scope.specs.Plan.{Plan, Place, path_of}
use Rattle.scope.specs.Good.{are_links, links_of, slots_rise}
use Rattle.scope.specs.Rules.{rules}
use Rattle.scope.specs.Slot.{at_target}
use Rattle.scope.specs.Cuts.{pairs, cut_slot, cut_link, cuts_link, is_cut}
use Rattle.scope.specs.Cycle.{order_of, table_of, start}
use Rattle.laws.specs.Untouched.{WholeInTime}
use Rattle.laws.specs.Links.{TableGives}
use Rattle.laws.proofs.Rising.{rises}
use Rattle.laws.proofs.Good.{good_rises, good-links}
use Rattle.laws.proofs.Table.{table-gives}
use Rattle.laws.proofs.Kept.{starts}
use Rattle.laws.proofs.Untouched.{untouched-arrives}
use Rattle.laws.proofs.Cuts.{not-cut}
use Rattle.sets.specs.Sums.{sum_of, one_if}
use Rattle.losses.specs.Touch.{harm, touched_in, over_cut, touches}
use Rattle.losses.specs.Harmed.{hers_in, hers, is_touched, stands, TouchesCount}
use Rattle.sets.proofs.Sums.{sum_le, sum_term, sum_swap, sum_zero, one_of_them}

-- what all messages have of a link is what the link has
of-link : (owner : ℕ → ℕ → ℕ) (n slots s e : ℕ) → sum_of (λ m. hers_in owner slots m s e) n ≤ touched_in owner slots s e
of-link owner n slots s e =
    let swap = sum_swap (λ m i. one_if (eqb (owner (s + i) e) (m + 1))) n slots in
    let less = sum_le (λ i. sum_of (λ m. one_if (eqb (owner (s + i) e) (m + 1))) n) (λ i. one_if (ltb 0 (owner (s + i) e))) slots
    (λ i l. one_of_them (owner (s + i) e) n) in
    omega (arith, swap, less)

-- and so of the links that a pair cuts
pub all-hers : (plan : Plan) (n s d : ℕ) → sum_of (λ m. hers plan m s d) n ≤ touches plan s d
all-hers plan n s d =
    let slots = plan.timeout - s in
    let swap = sum_swap (λ m e. cond (cuts_link plan d e) (hers_in (table_of plan) slots m s e) 0) n (length plan.links) in
    let less = sum_le (λ e. sum_of (λ m. cond (cuts_link plan d e) (hers_in (table_of plan) slots m s e) 0) n)
    (λ e. cond (cuts_link plan d e) (touched_in (table_of plan) slots s e) 0) (length plan.links) (λ e l. by slots e (cuts_link plan d e)) in
    omega (arith, swap, less)
  where
    by : (slots e : ℕ) (b : Bool) → sum_of (λ m. cond b (hers_in (table_of plan) slots m s e) 0) n ≤ cond b (touched_in (table_of plan) slots s e) 0
    by slots e true = of-link (table_of plan) n slots s e
    by slots e false = omega (arith, sum_zero n)

-- a pair at or before an entry of message m counts it
counts : (owner : ℕ → ℕ → ℕ) (t m s i e : ℕ) → s ≤ i → i < t → owner i e ≡ m + 1 → 1 ≤ hers_in owner (t - s) m s e
counts owner t m s i e a b h =
    let at : s + (i - s) ≡ i = omega arith in
    let here : owner (s + (i - s)) e ≡ m + 1 = ap (λ (j : ℕ). owner j e) at ∙ h in
    let term = sum_term (λ j. one_if (eqb (owner (s + j) e) (m + 1))) (t - s) (i - s) (omega arith) in
    omega (arith, term, ap one_if (eq-eqb (owner (s + (i - s)) e) (m + 1) here))

-- no pair that counts an entry of message m: this part of its first path is not cut in time
pub unharmed : (plan : Plan) (owner : ℕ → ℕ → ℕ) (m least : ℕ) (cuts : List ℕ) (path : List Place) →
    are_links plan (links_of path) ≡ true → slots_rise plan.timeout least path ≡ true → TableGives owner m path →
    harm (λ s d. over_cut plan d (hers_in owner (plan.timeout - s) m s)) cuts (pairs cuts) ≡ 0 → WholeInTime (is_cut plan cuts) path
unfolding are_links
unharmed plan owner m least cuts [] links r own none = tt
unharmed plan owner m least cuts (p ∷ ps) links r own none =
    let two = (and-eq-true_iff (ltb p.link (length plan.links)) (are_links plan (links_of ps))).0 links in (
      λ i l. not-cut plan cuts i p.link
          (λ j a b. by (ltb-true p.link (length plan.links) two.0) j a b (ltb i (cut_slot cuts j)) refl l),
      unharmed plan owner m (p.slot + 1) cuts ps two.1 (rises plan.timeout least p ps r).rest own.1 none,
    )
  where
    by : p.link < length plan.links → (j : ℕ) → j < pairs cuts → cuts_link plan (cut_link cuts j) p.link ≡ true → {i : ℕ} (b : Bool) →
        ltb i (cut_slot cuts j) ≡ b → i ≤ p.slot → i < cut_slot cuts j
    by there j a c {i} true h l = ltb-true i (cut_slot cuts j) h
    by there j a c {i} false h l =
        let high = (rises plan.timeout least p ps r).high in
        let late : cut_slot cuts j ≤ i = ltb-false i (cut_slot cuts j) h in
        let count : ℕ → ℕ → ℕ = λ s e. hers_in owner (plan.timeout - s) m s e in
        let some : 1 ≤ count (cut_slot cuts j) p.link =
        counts owner plan.timeout m (cut_slot cuts j) p.slot p.link (omega arith) (omega arith) own.0 in
        let here = ap (λ (t : Bool). cond t (count (cut_slot cuts j) p.link) 0) c in
        let link = sum_term (λ e. cond (cuts_link plan (cut_link cuts j) e) (count (cut_slot cuts j) e) 0) (length plan.links)
        p.link there in
        let pair = sum_term (λ k. over_cut plan (cut_link cuts k) (count (cut_slot cuts k))) (pairs cuts) j a in
        absurd (omega (arith, some, here, link, pair, none))

-- whom no pair touches is at its target at the end
touches_none : (plan : Plan) → rules plan ≡ gives 0 → (cuts : List ℕ) (m : ℕ) → is_touched plan cuts m ≡ false →
    at_target (stands plan cuts plan.timeout m) ≡ true
touches_none plan g cuts m none =
    untouched-arrives (order_of plan) (is_cut plan cuts) (table_of plan) plan.timeout m (path_of plan m) (start plan)
    (starts plan m) (good_rises plan g m)
    (unharmed plan (table_of plan) m 0 cuts (path_of plan m) (good-links plan g m) (good_rises plan g m) (table-gives plan g m)
    (omega (arith, ltb-false 0 (harm (hers plan m) cuts (pairs cuts)) none)))

pub touches-count : TouchesCount
touches-count plan g =
    record {
      all = all-hers plan (length plan.messages);
      none = touches_none plan g;
    }
