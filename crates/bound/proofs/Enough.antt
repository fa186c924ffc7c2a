-- The bounds of a search out of the counts: a list that fails has enough of each weight, and of two weights together.
use Rattle.std.proofs.Common.{ℕ, ◌+◌, ◌-◌, ◌*◌, ◌≤◌, ◌<◌, arith, ◌≡◌, false, List, ◌++◌, length}
use Rattle.scope.specs.Outcome.{gives}
use Rattle.scope.specs.Verdict.{Fails}
use Rattle.scope.specs.Plan.{Plan}
use Rattle.scope.specs.Rules.{rules}
use Rattle.scope.specs.Cables.{is_higher}
use Rattle.scope.specs.Cuts.{pairs, cut_slot, cut_link}
use Rattle.scope.proofs.Cuts.{slot-below, link-below, not_higher}
use Rattle.losses.specs.Touch.{harm, touches}
use Rattle.losses.specs.Harmed.{hers, is_hit, away, harmed, CountsLosses}
use Rattle.losses.specs.Strips.{strips, bares, bared}
use Rattle.bound.specs.Bounds.{weight_in, top_in, front_in, Enough, BoundOn, Bounds}
use Rattle.order.proofs.Parts.{slot_right, link_right, pairs-both}
use Rattle.sets.proofs.Sums.{sum_le, sum_plus}
use Rattle.losses.proofs.Touch.{touches-count}
use Rattle.losses.proofs.Harmed.{loses_no_more_from_lem}
use Rattle.bound.proofs.Last.{one_last}
use Rattle.losses.proofs.Strips.{strips-count, loses_no_more_than_both_lem}

-- in each slot and on each link that a pair may name one weight is at most another
abbrev pub AtMost : Plan → (ℕ → ℕ → ℕ) → (ℕ → ℕ → ℕ) → Type 0
AtMost plan weight other = (s e : ℕ) → s < plan.timeout → e < length plan.links → is_higher plan e ≡ false → weight s e ≤ other s e

module _ (plan : Plan) (Answers : List ℕ → Type 0) where
  -- a heavier weight will do
  pub enough-more : (need : ℕ) (marked : List ℕ → ℕ → ℕ) (weight other : ℕ → ℕ → ℕ) → AtMost plan weight other →
      Enough plan Answers need marked weight → Enough plan Answers need marked other
  enough-more need marked weight other most enough pre x d n s early long rest later good answers =
      let less : harm weight x n ≤ harm other x n =
      sum_le (λ j. weight (cut_slot x j) (cut_link x j)) (λ j. other (cut_slot x j) (cut_link x j)) n
      (λ j h.
      let there : d + j < pairs (pre ++ x) = omega (arith, pairs-both pre x d long n rest) in
      let slot : cut_slot x j < plan.timeout = rw (slot_right pre x d long j) at (slot-below plan (pre ++ x) good (d + j) there) in
      let link : cut_link x j < length plan.links = rw (link_right pre x d long j) at (link-below plan (pre ++ x) good (d + j) there) in
      let name : is_higher plan (cut_link x j) ≡ false = rw (link_right pre x d long j) at (not_higher plan (pre ++ x) good (d + j) there) in
      most (cut_slot x j) (cut_link x j) slot link name) in
      omega (arith, less, enough pre x d n s early long rest later good answers)

  -- two at once
  enough-both : (need : ℕ) (marked also : List ℕ → ℕ → ℕ) (weight other : ℕ → ℕ → ℕ) → Enough plan Answers need marked weight →
      Enough plan Answers need also other →
      Enough plan Answers (2 * need) (λ cuts s. marked cuts s + also cuts s) (λ s e. weight s e + other s e)
  enough-both need marked also weight other one two pre x d n s early long rest later good answers =
      let both = sum_plus (λ j. weight (cut_slot x j) (cut_link x j)) (λ j. other (cut_slot x j) (cut_link x j)) n in
      omega (arith, both, one pre x d n s early long rest later good answers, two pre x d n s early long rest later good answers)

-- a list that fails loses enough
pub enough-lost : (plan : Plan) (l need : ℕ) (hits : ℕ → ℕ → ℕ → ℕ) (weight : ℕ → ℕ → ℕ) → CountsLosses plan hits weight →
    need ≡ length plan.messages + 1 - l → Enough plan (Fails plan l) need (λ cuts s. away plan cuts s (is_hit hits cuts)) weight
enough-lost plan l need hits weight c e pre x d n s early long rest later good fails =
    omega (arith, loses_no_more_from_lem plan hits weight c pre x d n s early long rest later)

-- all that a search knows of a good plan, from weights that are no less than what a pair touches and strips
pub bounds : (plan : Plan) (l need : ℕ) (weights most : List ℕ) → rules plan ≡ gives 0 → need ≡ length plan.messages + 1 - l →
    AtMost plan (touches plan) (weight_in weights 0) → AtMost plan (bares plan) (weight_in weights 1) →
    AtMost plan (λ s e. touches plan s e + bares plan s e) (weight_in weights 2) →
    ((j s i e : ℕ) → j < 3 → s ≤ i → i < plan.timeout → e < length plan.links → weight_in weights j i e ≤ top_in most j s) →
    ((j s i e : ℕ) → j < 3 → s ≤ i → i < plan.timeout → e < length plan.links → weight_in weights j i e ≤ weight_in weights j s e) →
    ((s e x : ℕ) → s < plan.timeout → e < length plan.links → x ≤ weight_in weights 0 s e → weight_in weights 1 s e ≤ front_in most s x) →
    Bounds plan (Fails plan l) need weights most
bounds plan l need weights most g e touched stripped both top fall front =
    let fails = Fails plan l in
    let touching : Enough plan fails need (harmed plan) (touches plan) =
    enough-lost plan l need (hers plan) (touches plan) (touches-count plan g) e in
    let baring : Enough plan fails need (bared plan) (bares plan) =
    enough-lost plan l need (strips plan) (bares plan) (strips-count plan g) e in
    let one : BoundOn plan fails need (harmed plan) (weight_in weights 0) (top_in most 0) =
    record {
      enough = enough-more plan fails need (harmed plan) (touches plan) (weight_in weights 0) touched touching;
      later = λ s i f. top 0 s i f (omega arith);
      falls = λ s i f. fall 0 s i f (omega arith);
    } in
    let two : BoundOn plan fails need (bared plan) (weight_in weights 1) (top_in most 1) =
    record {
      enough = enough-more plan fails need (bared plan) (bares plan) (weight_in weights 1) stripped baring;
      later = λ s i f. top 1 s i f (omega arith);
      falls = λ s i f. fall 1 s i f (omega arith);
    } in
    record {
      touches = one;
      strips = two;
      both =
          record {
            enough =
                enough-more plan fails (2 * need) (λ cuts s. harmed plan cuts s + bared plan cuts s) (λ s f. touches plan s f + bares plan s f)
                (weight_in weights 2) both (enough-both plan fails need (harmed plan) (bared plan) (touches plan) (bares plan) touching baring);
            later = λ s i f. top 2 s i f (omega arith);
            falls = λ s i f. fall 2 s i f (omega arith);
          };
      last = one_last plan fails need weights most (top_in most 0) (top_in most 1) one two front;
      whole = λ cuts d s early long good lost. omega (arith, loses_no_more_than_both_lem plan cuts s g early);
    }
