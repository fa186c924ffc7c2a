-- Losses are counted message by message: who is away at the end was hit by the list's first part, and away at that time already, or is hit
-- by a later pair.
use Prim.Native.Nat.{ℕ, ◌+◌, ◌-◌, ◌*◌, ◌≤◌}
use native.Mathlib.Omega.{arith}
use mathlib.Core.Path.{◌≡◌, refl, sym, ◌∙◌, ap}
use mathlib.Core.Bool.{Bool, true, false, not, ◌&&◌, true≢false}
use mathlib.Core.List.{List, [], ◌∷◌, ◌++◌}
use lib.ListN.{length, length-map}
use lib.Dec.{ltb}
use borrow.Author.Tests.{ltb-true, ltb-false, le-ltb}
use Rattle.scope.specs.Plan.{Plan}
use Rattle.scope.specs.Slot.{Position, on_first, at_target}
use Rattle.scope.specs.Cuts.{pairs, cut_slot, cut_link, is_cut}
use Rattle.scope.specs.Cycle.{order_of, table_of, start, positions, arrived, arrivals}
use Rattle.laws.specs.Message.{position_of}
use Rattle.laws.proofs.Turned.{at_target_stays_lem}
use Rattle.laws.proofs.Replay.{lengths_kept, positions_follow_lem, depends_on_these_slots_lem}
use Rattle.sets.specs.Sums.{sum_of, one_if}
use Rattle.losses.specs.Touch.{harm, LosesNoMore}
use Rattle.losses.specs.Harmed.{hers, is_hit, stands, harmed, CountsLosses, LosesNoMoreFrom}
use Rattle.sets.proofs.Sums.{sum_le, sum_first, sum_ones, sum_plus, sum_swap, sum_zero}
use Rattle.losses.proofs.Touch.{touches-count}
use Rattle.order.proofs.Parts.{pairs-both}
use Rattle.order.specs.Search.{NotBefore}
use Rattle.order.proofs.Prefix.{cut-before}
use Rattle.losses.proofs.Parts.{harm-both}

-- how many are at their targets, as a sum
arrived-sum : (qs : List Position) → arrived qs ≡ sum_of (λ m. one_if (at_target (position_of m qs))) (length qs)
unfolding arrived sum_of
arrived-sum [] = refl
arrived-sum (q ∷ qs) = omega (arith, arrived-sum qs, sum_first (λ m. one_if (at_target (position_of m (q ∷ qs)))) (length qs))

-- where each message that is away at the end counts, no more are lost than all of them count
pub loses_each : (plan : Plan) (cuts : List ℕ) (f : ℕ → ℕ) → ((m : ℕ) → at_target (stands plan cuts plan.timeout m) ≡ false → 1 ≤ f m) →
    length plan.messages ≤ arrivals plan cuts + sum_of f (length plan.messages)
unfolding arrivals
loses_each plan cuts f counts =
    let qs = positions (order_of plan) (is_cut plan cuts) (table_of plan) 0 plan.timeout (start plan) in
    let there : ℕ → ℕ = λ m. one_if (at_target (position_of m qs)) in
    let size : length qs ≡ length plan.messages =
    lengths_kept.of_positions (order_of plan) (is_cut plan cuts) (table_of plan) 0 plan.timeout (start plan) ∙
    length-map plan.messages on_first in
    let each = sum_le (λ m. 1) (λ m. there m + f m) (length qs) (λ m l. by m (at_target (position_of m qs)) refl) in
    omega (arith, each, size, sum_ones (length qs), arrived-sum qs, ap (sum_of f) size, sum_plus there f (length qs))
  where
    by : (m : ℕ) (b : Bool) → at_target (stands plan cuts plan.timeout m) ≡ b → 1 ≤ one_if b + f m
    by m true h = omega arith
    by m false h = omega (arith, counts m h)

module _ (plan : Plan) (s m : ℕ) where
  -- who is away at the end was so at time s
  pub was_away : (cuts : List ℕ) → s ≤ plan.timeout → at_target (stands plan cuts plan.timeout m) ≡ false →
      at_target (stands plan cuts s m) ≡ false
  was_away cuts early gone = by (at_target (stands plan cuts s m)) refl
    where
      by : (b : Bool) → at_target (stands plan cuts s m) ≡ b → b ≡ false
      by false h = refl
      by true h =
          let t = plan.timeout in
          let down = is_cut plan cuts in
          let ps = positions (order_of plan) down (table_of plan) 0 s (start plan) in
          let e : t ≡ s + (t - s) = omega arith in
          let stays : at_target (stands plan cuts t m) ≡ true =
          ap (λ (k : ℕ). at_target (stands plan cuts k m)) e ∙
          ap (λ (qs : List Position). at_target (position_of m qs))
          (positions_follow_lem (order_of plan) down (table_of plan) 0 s (t - s) (start plan)) ∙
          ap at_target ((at_target_stays_lem (order_of plan) down (table_of plan) m (0 + s) ps h).there (t - s)) ∙ h in
          absurd (true≢false (sym stays ∙ gone))

  -- up to time s a list does what its first part does
  same-until : (pre x : List ℕ) (d n : ℕ) → length pre ≡ 2 * d → length x ≡ 2 * n → NotBefore s x n →
      stands plan (pre ++ x) s m ≡ stands plan pre s m
  same-until pre x d n long rest later =
      ap (position_of m)
      (depends_on_these_slots_lem (order_of plan) (is_cut plan (pre ++ x)) (is_cut plan pre) (table_of plan) 0 s (start plan)
      (λ i e a b. cut-before plan pre x d n s long rest later i e (omega arith))).positions_agree

module _ (plan : Plan) (hits : ℕ → ℕ → ℕ → ℕ) (weight : ℕ → ℕ → ℕ) (c : CountsLosses plan hits weight) where
  -- what the pairs hit in all is at most what they weigh
  all-hit : (cuts : List ℕ) (k : ℕ) → sum_of (λ m. harm (hits m) cuts k) (length plan.messages) ≤ harm weight cuts k
  all-hit cuts k =
      let n = length plan.messages in
      let swap = sum_swap (λ m j. hits m (cut_slot cuts j) (cut_link cuts j)) n k in
      let less = sum_le (λ j. sum_of (λ m. hits m (cut_slot cuts j) (cut_link cuts j)) n) (λ j. weight (cut_slot cuts j) (cut_link cuts j)) k
      (λ j l. c.all (cut_slot cuts j) (cut_link cuts j)) in
      omega (arith, swap, less)

  module _ (pre x : List ℕ) (d n s : ℕ) (early : s ≤ plan.timeout) (long : length pre ≡ 2 * d)
      (rest : length x ≡ 2 * n) (later : NotBefore s x n)
      (m : ℕ) (gone : at_target (stands plan (pre ++ x) plan.timeout m) ≡ false) where
    -- who is away at the end was hit
    not_missed : harm (hits m) pre (pairs pre) ≡ 0 → harm (hits m) x n ≡ 0 → ⊥
    not_missed a b =
        let k : pairs pre ≡ d = omega arith in
        let none : harm (hits m) (pre ++ x) (pairs (pre ++ x)) ≡ 0 =
        ap (harm (hits m) (pre ++ x)) (pairs-both pre x d long n rest) ∙ harm-both (hits m) pre x d long n ∙
        omega (arith, a, b, ap (harm (hits m) pre) k) in
        true≢false (sym (c.none (pre ++ x) m (le-ltb 0 (harm (hits m) (pre ++ x) (pairs (pre ++ x))) (omega arith))) ∙ gone)

    each_counts : 1 ≤ one_if (is_hit hits pre m && not (at_target (stands plan pre s m))) + harm (hits m) x n
    each_counts = by (ltb 0 (harm (hits m) x n)) refl (is_hit hits pre m) refl
      where
        apart : at_target (stands plan pre s m) ≡ false
        apart = sym (ap at_target (same-until plan s m pre x d n long rest later)) ∙ was_away plan s m (pre ++ x) early gone

        by : (a : Bool) → ltb 0 (harm (hits m) x n) ≡ a → (b : Bool) → is_hit hits pre m ≡ b →
            1 ≤ one_if (b && not (at_target (stands plan pre s m))) + harm (hits m) x n
        by true h b e = omega (arith, ltb-true 0 (harm (hits m) x n) h)
        by false h true e = rw apart (omega arith)
        by false h false e =
            let a = ltb-false 0 (harm (hits m) pre (pairs pre)) e in
            let b = ltb-false 0 (harm (hits m) x n) h in
            absurd (not_missed (omega arith) (omega arith))

pub loses_no_more_from_lem : LosesNoMoreFrom
loses_no_more_from_lem plan hits weight c pre x d n s early long rest later =
    let risk : ℕ → ℕ = λ m. one_if (is_hit hits pre m && not (at_target (stands plan pre s m))) in
    let more : ℕ → ℕ = λ m. harm (hits m) x n in
    omega (
      arith,
      loses_each plan (pre ++ x) (λ m. risk m + more m) (λ m gone. each_counts plan hits weight c pre x d n s early long rest later m gone),
      sum_plus risk more (length plan.messages),
      all-hit plan hits weight c x n,
    )

-- a list without a pair harms nobody
pub loses_no_more_lem : LosesNoMore
unfolding sum_of
loses_no_more_lem plan cuts n g long =
    let none : harmed plan [] 0 ≡ 0 = sum_zero (length plan.messages) in
    omega (arith, none, loses_no_more_from_lem plan (hers plan) _ (touches-count plan g) [] cuts 0 n 0 (omega arith) refl long (λ j l. omega arith))
