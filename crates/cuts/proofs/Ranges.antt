-- `any` and `find` over the numbers below n, as "some" and "the lowest such".
use Rattle.std.proofs.Common.{◌≡◌, ℕ, zero, suc, ◌+◌, Bool, true, false, cond, ◌||◌, ltb, Option, Some, refl, sym, ◌∙◌, ap, arith}
use Rattle.std.specs.List.{range_with_len, list_any, find}
use Rattle.std.specs.Option.{unwrap_or, option_map}
use Rattle.std.proofs.lemmas.Iterator.Adapters.{option_map_id}
use borrow.Author.Tests.{lt-ltb, le-ltb}
use Rattle.scope.specs.Lowest.{seek, lowest, some}

module _ (test : ℕ → Bool) where
  any_from : (n i : ℕ) → list_any test (range_with_len i n) ≡ ltb (seek test n i) (i + n)
  unfolding seek
  any_from zero i = rw (le-ltb i (i + 0) (omega arith))
  any_from (suc n) i = by (test i) (any_from n (i + 1))
    where
      by : (t : Bool) → list_any test (range_with_len (i + 1) n) ≡ ltb (seek test n (i + 1)) (i + 1 + n) →
          (t || list_any test (range_with_len (i + 1) n)) ≡ ltb (cond t i (seek test n (i + 1))) (i + suc n)
      by true h = rw (lt-ltb i (i + suc n) (omega arith))
      by false h = let e : i + suc n ≡ i + 1 + n = omega arith in rw e h

  pub any_below : (n : ℕ) → list_any test (range_with_len 0 n) ≡ some test n
  any_below n = let e : 0 + n ≡ n = omega arith in rw e at (any_from n 0)

  find_from : (n i : ℕ) → unwrap_or (find test (range_with_len i n)) (i + n) ≡ seek test n i
  unfolding seek
  find_from zero i = omega arith
  find_from (suc n) i = by (test i) (find_from n (i + 1))
    where
      by : (t : Bool) → unwrap_or (find test (range_with_len (i + 1) n)) (i + 1 + n) ≡ seek test n (i + 1) →
          unwrap_or (cond t (Some i) (find test (range_with_len (i + 1) n))) (i + suc n) ≡ cond t i (seek test n (i + 1))
      by true h = refl
      by false h = let e : i + suc n ≡ i + 1 + n = omega arith in rw e h

  pub find_below : (n : ℕ) (r : Option ℕ) → option_map (λ i. i) r ≡ find test (range_with_len 0 n) → unwrap_or r n ≡ lowest test n
  find_below n r e = let z : 0 + n ≡ n = omega arith in ap (λ o. unwrap_or o n) (sym (option_map_id r) ∙ e) ∙ (rw z at (find_from n 0))
