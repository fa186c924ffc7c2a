-- The first bad pair, and the answer with it.
use Prim.Native.Nat.{ℕ, ◌≤◌, ◌<◌}
use mathlib.Core.Path.{◌≡◌, refl, sym, ◌∙◌}
use mathlib.Core.Bool.{Bool, true, false, or-true}
use mathlib.Core.List.{List}
use lib.ListN.{length}
use lib.Dec.{ltb}
use borrow.Author.Tests.{lt-ltb, le-ltb, ltb-true}
use Rattle.scope.specs.Lowest.{lowest}
use Rattle.scope.specs.Outcome.{gives, refuse}
use Rattle.scope.specs.Plan.{link_count, timeout_of, plan_of}
use Rattle.scope.specs.Cuts.{cut_link, pairs, bad_pair, check_cuts}
use Rattle.scope.proofs.Lowest.{seek-same}
use Rattle.rows.proofs.Parts.{link-count, timeout-is}
use Rattle.cables.specs.Others.{OtherWays}
use Rattle.cuts.specs.Pairs.{is_bad}

-- the first bad pair of a plan with the other ways of its links, and the answer with it
module _ (row others cuts : List ℕ) (n i t e : ℕ) (o : OtherWays (plan_of row) others) (p : n ≡ pairs cuts) (q : t ≡ timeout_of row)
    (r : e ≡ link_count row) (s : i ≡ lowest (is_bad t e others cuts) (pairs cuts)) where
  -- a pair with a link past the plan's is bad, whatever its other way
  bad-is : (j : ℕ) → bad_pair (plan_of row) cuts j ≡ is_bad t e others cuts j
  bad-is j = rw (q, r, ← timeout-is row, ← link-count row) (by (ltb (cut_link cuts j) (length (plan_of row).links)) refl)
    where
      by : (b : Bool) → ltb (cut_link cuts j) (length (plan_of row).links) ≡ b →
          bad_pair (plan_of row) cuts j ≡ is_bad (plan_of row).timeout (length (plan_of row).links) others cuts j
      by true h = rw (o.is (cut_link cuts j) (ltb-true (cut_link cuts j) (length (plan_of row).links) h))
      by false h = rw (h, or-true)

  first-is : lowest (bad_pair (plan_of row) cuts) (pairs cuts) ≡ i
  first-is = seek-same (bad_pair (plan_of row) cuts) (is_bad t e others cuts) (pairs cuts) 0 (λ j h g. bad-is j) ∙ sym s

  pub check_some : i < n → refuse 12 i ≡ check_cuts (plan_of row) cuts
  unfolding check_cuts
  check_some h = rw (first-is, ← p, lt-ltb i n h)

  pub check_none : n ≤ i → gives n ≡ check_cuts (plan_of row) cuts
  unfolding check_cuts
  check_none h = rw (first-is, ← p, le-ltb i n h)
