-- What the pairs still to come can add to the messages that a list hits, once over any weight; and which of the three bounds it is that fails.
use Rattle.std.proofs.Common.{ℕ, zero, suc, ◌+◌, ◌*◌, ◌≤◌, ◌<◌, arith, suc-mul, mul-le-mul_right, ◌≡◌, refl, Bool, true, false, ◌||◌, List, ◌∷◌, ◌++◌}
use Rattle.std.proofs.Common.{length, ltb, ltb-true}
use Rattle.scope.specs.Limits.{most_links}
use Rattle.scope.specs.Plan.{Plan}
use Rattle.scope.specs.Cuts.{pairs, cut_slot, cut_link, is_cut_list}
use Rattle.scope.proofs.Cuts.{slot-below, link-below}
use Rattle.sets.specs.Sums.{sum_of}
use Rattle.losses.specs.Touch.{harm}
use Rattle.bound.specs.Bounds.{BoundOn}
use Rattle.order.specs.Search.{NotBefore, Chosen, Not}
use Rattle.order.proofs.Parts.{slot_right, link_right, pairs-both}
use Rattle.order.proofs.Pairs.{not-before}
use Rattle.risks.specs.declared.Loss.{Loss}
use Rattle.risks.specs.Weighed.{too_light}

-- what cannot answer fails one of the bounds
pub which : (X : Type 0) (need : ℕ) (loss : Loss) → too_light need loss ≡ true → (loss.touches < need → X) → (loss.strips < need → X) →
    (loss.both < 2 * need → X) → X
which X need loss light one two three = by (ltb loss.touches need) refl (ltb loss.strips need) refl light
  where
    by : (a : Bool) → ltb loss.touches need ≡ a → (b : Bool) → ltb loss.strips need ≡ b → (a || b || ltb loss.both (2 * need)) ≡ true →
        X
    by true e b f t = one (ltb-true loss.touches need e)
    by false e true f t = two (ltb-true loss.strips need f)
    by false e false f t = three (ltb-true loss.both (2 * need) t)

module _ (plan : Plan) (Answers : List ℕ → Type 0) (need : ℕ) (marked : List ℕ → ℕ → ℕ) (weight : ℕ → ℕ → ℕ) (top : ℕ → ℕ)
    (bound : BoundOn plan Answers need marked weight top) (links : length plan.links ≤ most_links) where
  -- what later pairs weigh
  module _ (pre x : List ℕ) (d n s : ℕ) (long : length pre ≡ 2 * d) (rest : length x ≡ 2 * n) (good : is_cut_list plan (pre ++ x) ≡ true) where
    one_pair : (j : ℕ) → j < n → s ≤ cut_slot x j → weight (cut_slot x j) (cut_link x j) ≤ top s
    one_pair j h low =
        let there : d + j < pairs (pre ++ x) = omega (arith, pairs-both pre x d long n rest) in
        bound.later s (cut_slot x j) (cut_link x j) low (rw (slot_right pre x d long j) at (slot-below plan (pre ++ x) good (d + j) there))
        (rw (link_right pre x d long j) at (link-below plan (pre ++ x) good (d + j) there))

    -- the first pair by its own weight
    then-weigh : NotBefore s x n → (k : ℕ) → k < n → harm weight x (suc k) ≤ weight (cut_slot x 0) (cut_link x 0) + k * top s
    unfolding sum_of
    then-weigh later zero h = omega arith
    then-weigh later (suc k) h =
        omega (arith, then-weigh later k (omega arith), one_pair (suc k) h (later (suc k) h), suc-mul k (top s))

    all-weigh : NotBefore s x n → (k : ℕ) → k ≤ n → harm weight x k ≤ k * top s
    unfolding sum_of
    all-weigh later zero h = omega arith
    all-weigh later (suc k) h = omega (arith, all-weigh later k (omega arith), one_pair k h (later k h), suc-mul k (top s))

  -- a list with k + 1 pairs more that answers has enough weight
  module _ (pre : List ℕ) (d k a b : ℕ) (x : List ℕ) (long : length pre ≡ 2 * d) (rest : length x ≡ 2 * k)
      (good : is_cut_list plan (pre ++ a ∷ b ∷ x) ≡ true)
      (it : Answers (pre ++ a ∷ b ∷ x)) where
    size : length {A = ℕ} (a ∷ b ∷ x) ≡ 2 * suc k
    size = omega arith

    early : a < plan.timeout
    early =
        let z : d + 0 ≡ d = omega arith in
        let first : cut_slot (pre ++ a ∷ b ∷ x) d ≡ a = rw z at (slot_right pre (a ∷ b ∷ x) d long 0) in
        omega (arith, first, slot-below plan (pre ++ a ∷ b ∷ x) good d (omega (arith, pairs-both pre (a ∷ b ∷ x) d long (suc k) size)))

    then-later : (s : ℕ) → s ≤ a → need ≤ marked pre s + weight a b + k * top s
    then-later s h =
        let later = not-before plan links pre (a ∷ b ∷ x) d (suc k) s long size good h in
        let enough = bound.enough pre (a ∷ b ∷ x) d (suc k) s (omega (arith, early)) long size later good it in
        omega (arith, enough, then-weigh pre (a ∷ b ∷ x) d (suc k) s long size good later k (omega arith))

  -- a pair of slot s that is too light, and those of its link in later slots, which weigh no more
  pub too_light_lem : (pre : List ℕ) (d start : ℕ) → Chosen plan pre d start → (k s a b : ℕ) → s ≤ a → b < length plan.links →
      marked pre s + weight s b + k * top s < need → (x : List ℕ) → length x ≡ 2 * k → Not plan Answers (pre ++ a ∷ b ∷ x)
  too_light_lem pre d start chosen k s a b h there light x long good it =
      let falls = bound.falls s a b h (early pre d k a b x chosen.long long good it) there in
      omega (arith, light, falls, then-later pre d k a b x chosen.long long good it s h)

  -- n pairs to come, none before slot s, where as many or more of them are too light wherever they are
  pub all_too_light : (pre x : List ℕ) (d n k s : ℕ) → length pre ≡ 2 * d → length x ≡ 2 * n → n ≤ k → s ≤ plan.timeout →
      NotBefore s x n → marked pre s + k * top s < need → Not plan Answers (pre ++ x)
  all_too_light pre x d n k s long rest fewer early later light good it =
      omega (
        arith,
        light,
        bound.enough pre x d n s early long rest later good it,
        all-weigh pre x d n s long rest good later n (omega arith),
        mul-le-mul_right (top s) fewer,
      )
