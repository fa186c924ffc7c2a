-- Laws of the lines of sums, which are those of the plans.
use Prim.Native.Nat.{ℕ, zero, suc, ◌+◌, ◌-◌, ◌≤◌, ◌<◌}
use mathlib.Core.Path.{◌≡◌, refl}
use mathlib.Core.List.{List, [], ◌++◌}
use native.Mathlib.Omega.{arith}
use Rattle.scope.specs.Shelf.{Rated, sum_lines}
use Rattle.sheet_lines.specs.Sheet.{sums_line, tally_lines}
use Rattle.sheet_lines.specs.Tally.{sums, sums_at, Tallies}
use Rattle.sheet_lines.specs.declared.Tally.{Tally}

-- the lines of a tally from k on: one and those after it, and none
module _ (t : Tally) (n k : ℕ) where
  pub tally_more : k < n →
      tally_lines t k (n - k) ≡ sums_line k (sums_at t k).unharmed (sums_at t k).lost ++ tally_lines t (k + 1) (n - (k + 1))
  unfolding tally_lines
  tally_more h = let e : n - k ≡ suc (n - (k + 1)) = omega arith in rw e

  pub tally_done : n ≤ k → tally_lines t k (n - k) ≡ []
  unfolding tally_lines
  tally_done h = let e : n - k ≡ 0 = omega arith in rw e

-- the lines of a tally of plans are the lines of their sums
pub tally_lines_lem : (ps : List Rated) (t : Tally) → Tallies ps t → (k n : ℕ) → k + n ≤ sums → tally_lines t k n ≡ sum_lines ps k n
unfolding tally_lines sum_lines
tally_lines_lem ps t s k zero h = refl
tally_lines_lem ps t s k (suc n) h = rw (s.counts k (omega arith), s.losses k (omega arith), tally_lines_lem ps t s (k + 1) n (omega arith))
