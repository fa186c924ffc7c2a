-- What a search is lent of a plan is what its bounds ask for: the weights of the filled tables are no less than the plan's own, and
-- who has a link before it, or is stripped by a cut of it, is in its sets.
use Prim.Native.Nat.{ℕ, zero, suc, ◌+◌, ◌-◌, ◌≤◌, ◌<◌}
use native.Mathlib.Omega.{arith}
use mathlib.Core.Path.{◌≡◌, sym, ◌∙◌, ap}
use mathlib.Core.Bool.{Bool, true, false}
use mathlib.Core.List.{List}
use lib.ListN.{length}
use lib.Dec.{ltb, eqb}
use borrow.Author.Tests.{eqb-true}
use Rattle.scope.specs.Limits.{most_slots, most_links, most_messages}
use Rattle.scope.specs.Outcome.{gives}
use Rattle.scope.specs.Verdict.{Fails}
use Rattle.scope.specs.Plan.{Plan, path_of}
use Rattle.scope.specs.Rules.{rules}
use Rattle.scope.specs.Cycle.{table_of}
use Rattle.table.specs.Table.{Table, entry_at}
use Rattle.sets.specs.Sums.{sum_of, one_if}
use Rattle.sets.specs.Sets.{has}
use Rattle.cables.specs.Others.{OtherWays}
use Rattle.losses.specs.Touch.{touched_in, on_cable, touches}
use Rattle.losses.specs.Harmed.{hers_in, hers_on}
use Rattle.losses.specs.Strips.{fragile_plan, on_robust, strips_on, bares}
use Rattle.bound.specs.Seconds.{second_in}
use Rattle.bound.specs.Weights.{entries_from, strips_from, with_other, WeighsAll, TopsAll}
use Rattle.bound.specs.Sets.{set_in, SetsOf, StripSetsOf}
use Rattle.bound.specs.Bounds.{weight_in, Bounds}
use Rattle.sets.proofs.Sums.{sum_same, sum-fewer, some_test}
use Rattle.losses.proofs.OneCable.{touches-most, bares-most}
use Rattle.bound.proofs.Weights.{entries_fall}
use Rattle.bound.proofs.Others.{with_less}
use Rattle.bound.proofs.Enough.{AtMost, bounds}
use Rattle.strips.specs.Filled.{Filled}

-- the entries of a table are its owner's
entries-are : (owner : ℕ → ℕ → ℕ) (table : List ℕ) → Table owner table → (n s e : ℕ) → n ≤ most_slots → e < most_links →
    touched_in owner (n - s) s e ≡ entries_from table n s e
entries-are owner table t n s e hn he =
    sum_same (λ i. one_if (ltb 0 (owner (s + i) e))) (λ i. one_if (ltb 0 (entry_at table (s + i) e))) (n - s)
    (λ i l. ap (λ (x : ℕ). one_if (ltb 0 x)) (sym (t.is (s + i) e (omega arith) he)))

-- who has one is in the set
in_set : (owner : ℕ → ℕ → ℕ) (table sets : List ℕ) (n : ℕ) → Table owner table → SetsOf table n sets → n ≤ most_slots → (m s e : ℕ) →
    m < most_messages → e < most_links → 0 < hers_in owner (n - s) m s e → has (set_in sets s e) m ≡ true
in_set owner table sets n t o hn m s e hm he =
    some_test (has (set_in sets s e) m ≡ true) (λ i. eqb (owner (s + i) e) (m + 1)) (n - s)
    (λ i l h.
    o.from s (s + i) e m (omega arith) (omega arith) he hm (t.is (s + i) e (omega arith) he ∙ eqb-true (owner (s + i) e) (m + 1) h))

-- fewer come from a later slot on
fewer : (table : List ℕ) (n s i e : ℕ) → s ≤ i → i < n → entries_from table n i e ≤ entries_from table n s e
fewer table n s i e l h = let d : s + (i - s) ≡ i = omega arith in rw d at (entries_fall table n s e (i - s) (omega arith))

module _ (plan : Plan) (time : plan.timeout ≤ most_slots) (links : length plan.links ≤ most_links)
    (messages : length plan.messages ≤ most_messages) where
  -- who has a link before it is in its set
  pub touched_in_set : (table sets : List ℕ) → Table (table_of plan) table → SetsOf table plan.timeout sets → (m s e : ℕ) →
      m < length plan.messages → s < plan.timeout → e < length plan.links → 0 < hers_on plan m s e → has (set_in sets s e) m ≡ true
  touched_in_set table sets t o m s e hm hs he =
      in_set (table_of plan) table sets plan.timeout t o time m s e (omega arith) (omega arith)

  module _ (fragile seconds : List ℕ) (f : Filled plan fragile seconds) where
    -- and whom a cut of it strips
    pub stripped_in_set : (sets : List ℕ) → StripSetsOf fragile seconds plan.timeout sets → (m s e : ℕ) → m < length plan.messages →
        s < plan.timeout → e < length plan.links → 0 < strips_on plan m s e → has (set_in sets s e) m ≡ true
    stripped_in_set sets o m s e hm hs he = by (on_robust plan m e (path_of plan m)) (f.bytes.is m e (omega arith) (omega arith))
      where
        by : (b : Bool) → second_in seconds e m ≡ one_if b → 0 < hers_on (fragile_plan plan) m s e + one_if b → has (set_in sets s e) m ≡ true
        by true is some = o.always s e m hs (omega arith) (omega arith) (omega arith)
        by false is some =
            in_set (table_of (fragile_plan plan)) fragile sets plan.timeout f.table (record { long = o.long; from = o.from }) time m s e
            (omega arith) (omega arith) (omega arith)

    -- cuts of a link strip all messages no more often than the tables count
    strips-most : (s e : ℕ) → e < most_links →
        touched_in (table_of (fragile_plan plan)) (plan.timeout - s) s e +
        sum_of (λ m. one_if (on_robust plan m e (path_of plan m))) (length plan.messages) ≤ strips_from fragile seconds plan.timeout s e
    strips-most s e he =
        let on : ℕ → ℕ = λ m. one_if (on_robust plan m e (path_of plan m)) in
        let same : sum_of on (length plan.messages) ≡ sum_of (second_in seconds e) (length plan.messages) =
        sum_same on (second_in seconds e) (length plan.messages) (λ m l. sym (f.bytes.is m e (omega arith) he)) in
        omega (
          arith,
          entries-are (table_of (fragile_plan plan)) fragile f.table plan.timeout s e time he,
          same,
          sum-fewer (second_in seconds e) (length plan.messages) most_messages messages,
        )

    module _ (table others weights : List ℕ) (t : Table (table_of plan) table) (ways : OtherWays plan others)
        (w : WeighsAll table fragile seconds others plan.timeout weights) where
      -- what the two links of a cable have is what the tables say of its name
      of-cable : (f g : ℕ → ℕ) → ((d : ℕ) → d < most_links → f d ≤ g d) → (e : ℕ) → e < length plan.links →
          on_cable plan e f ≤ with_other others g e
      of-cable f g less e he = rw (← ways.is e he) (with_less others ways.bytes f g less e (omega arith))

      touched : AtMost plan (touches plan) (weight_in weights 0)
      touched s e hs he low =
          let n = plan.timeout in
          let owned : ℕ → ℕ = touched_in (table_of plan) (n - s) s in
          omega (
            arith,
            touches-most plan e low s,
            of-cable owned (entries_from table n s) (λ d l. omega (arith, entries-are (table_of plan) table t n s d time l)) e he,
            w.touches s e hs (omega arith),
          )

      stripped : AtMost plan (bares plan) (weight_in weights 1)
      stripped s e hs he low =
          omega (
            arith,
            bares-most plan e low s,
            of-cable _ (strips_from fragile seconds plan.timeout s) (strips-most s) e he,
            w.strips s e hs (omega arith),
          )

      both : AtMost plan (λ s e. touches plan s e + bares plan s e) (weight_in weights 2)
      both s e hs he low = omega (arith, touched s e hs he low, stripped s e hs he low, w.both s e hs (omega arith))

      -- on one cable a pair of a later slot weighs no more
      falls : (j s i e : ℕ) → j < 3 → s ≤ i → i < plan.timeout → e < most_links → weight_in weights j i e ≤ weight_in weights j s e
      falls j s i e h l hi he = by j h
        where
          n : ℕ
          n = plan.timeout

          one : weight_in weights 0 i e ≤ weight_in weights 0 s e
          one =
              omega (
                arith,
                with_less others ways.bytes (entries_from table n i) (entries_from table n s) (λ d m. fewer table n s i d l hi) e he,
                w.touches i e hi he,
                w.touches s e (omega arith) he,
              )

          two : weight_in weights 1 i e ≤ weight_in weights 1 s e
          two =
              omega (
                arith,
                with_less others ways.bytes (strips_from fragile seconds n i) (strips_from fragile seconds n s)
                    (λ d m. omega (arith, fewer fragile n s i d l hi)) e he,
                w.strips i e hi he,
                w.strips s e (omega arith) he,
              )

          by : (k : ℕ) → k < 3 → weight_in weights k i e ≤ weight_in weights k s e
          by zero h = one
          by (suc zero) h = two
          by (suc (suc zero)) h = omega (arith, one, two, w.both i e hi he, w.both s e (omega arith) he)
          by (suc (suc (suc k))) h = absurd (omega arith)

      pub lent : (l need : ℕ) (most : List ℕ) → rules plan ≡ gives 0 → TopsAll weights plan.timeout most →
          need ≡ length plan.messages + 1 - l → Bounds plan (Fails plan l) need weights most
      lent l need most g m e =
          bounds plan l need weights most g e touched stripped both (λ j s i f a b c d. m.tops.later j s i f a b c (omega arith))
          (λ j s i f a b c d. falls j s i f a b c (omega arith)) (λ s f x a b c. m.fronts s f x a (omega arith) c)
