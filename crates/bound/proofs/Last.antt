-- Where two pairs are to come, what the last one must still touch and strip.
use Rattle.std.proofs.Common.{ℕ, ◌+◌, ◌-◌, ◌*◌, ◌≤◌, ◌<◌, arith, ◌≡◌, true, List, ◌++◌, length}
use Rattle.scope.specs.Plan.{Plan}
use Rattle.scope.specs.Cuts.{pairs, cut_slot, cut_link, is_cut_list}
use Rattle.scope.proofs.Cuts.{slot-below, link-below}
use Rattle.order.proofs.Parts.{slot_right, link_right, pairs-both}
use Rattle.sets.specs.Sums.{sum_of}
use Rattle.losses.specs.Touch.{harm}
use Rattle.order.specs.Search.{NotBefore}
use Rattle.losses.specs.Harmed.{harmed}
use Rattle.losses.specs.Strips.{bared}
use Rattle.bound.specs.Bounds.{weight_in, front_in, BoundOn, OneLast}

module _ (plan : Plan) (Answers : List ℕ → Type 0) (need : ℕ) where
  -- none before slot s: what the first part marks that is away, and what the two would weigh in slot s, is at least `need`
  last_two : (marked : List ℕ → ℕ → ℕ) (weight : ℕ → ℕ → ℕ) (top : ℕ → ℕ) → BoundOn plan Answers need marked weight top →
      (pre x : List ℕ) (d s : ℕ) → length pre ≡ 2 * d → length x ≡ 2 * 2 → NotBefore s x 2 → is_cut_list plan (pre ++ x) ≡ true →
      Answers (pre ++ x) →
      ((j : ℕ) → j < 2 → cut_slot x j < plan.timeout) → ((j : ℕ) → j < 2 → cut_link x j < length plan.links) →
      need ≤ marked pre s + weight s (cut_link x 0) + weight s (cut_link x 1)
  unfolding sum_of
  last_two marked weight top b pre x d s long rest later good answers slot link =
      let both : harm weight x 2 ≡ weight (cut_slot x 0) (cut_link x 0) + weight (cut_slot x 1) (cut_link x 1) = omega arith in
      omega (
        arith,
        both,
        b.enough pre x d 2 s (omega (arith, later 0 (omega arith), slot 0 (omega arith))) long rest later good answers,
        b.falls s (cut_slot x 0) (cut_link x 0) (later 0 (omega arith)) (slot 0 (omega arith)) (link 0 (omega arith)),
        b.falls s (cut_slot x 1) (cut_link x 1) (later 1 (omega arith)) (slot 1 (omega arith)) (link 1 (omega arith)),
      )

  pub one_last : (weights most : List ℕ) (top also : ℕ → ℕ) → BoundOn plan Answers need (harmed plan) (weight_in weights 0) top →
      BoundOn plan Answers need (bared plan) (weight_in weights 1) also →
      ((s e x : ℕ) → s < plan.timeout → e < length plan.links → x ≤ weight_in weights 0 s e → weight_in weights 1 s e ≤ front_in most s x) →
      OneLast plan Answers need weights most
  one_last weights most top also touches strips front pre x d s a b long rest later good answers harm bare =
      let there : (j : ℕ) → j < 2 → d + j < pairs (pre ++ x) = λ j h. omega (arith, pairs-both pre x d long 2 rest) in
      let slot : (j : ℕ) → j < 2 → cut_slot x j < plan.timeout =
      λ j h. rw (slot_right pre x d long j) at (slot-below plan (pre ++ x) good (d + j) (there j h)) in
      let link : (j : ℕ) → j < 2 → cut_link x j < length plan.links =
      λ j h. rw (link_right pre x d long j) at (link-below plan (pre ++ x) good (d + j) (there j h)) in
      let touched = last_two (harmed plan) (weight_in weights 0) top touches pre x d s long rest later good answers slot link in
      let stripped = last_two (bared plan) (weight_in weights 1) also strips pre x d s long rest later good answers slot link in
      omega (
        arith,
        stripped,
        front s (cut_link x 1) (need - (a + weight_in weights 0 s (cut_link x 0)))
            (omega (arith, later 1 (omega arith), slot 1 (omega arith))) (link 1 (omega arith)) (omega (arith, touched)),
      )
