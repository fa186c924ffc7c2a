-- An array that a pure closure makes of its indices.
use Rattle.std.proofs.Common.{◌≡◌, ℕ, zero, suc, ◌+◌, ◌<◌, List, map, get_or, refl, ◌∙◌, arith}
use Rattle.std.proofs.lemmas.List.FromFn.{fill_by_all}
use Rattle.std.specs.List.{range_with_len}
use Rattle.std.specs.Fn.{Called}
use Rattle.std.specs.Array.{IsFromFnResult, IsFromFnResultFrom}
use denote.Param.Members.{Mut}

module _ {F : Type 0} (g : Mut F (ℕ × Unit {0}) ℕ) (v : ℕ → ℕ) (f : F) (pure : (i y : ℕ) (q : F) → Called g f (i, tt) y q → (y ≡ v i) × (q ≡ f)) (ys : List ℕ) where
  from : (n i : ℕ) (p : F) → p ≡ f → IsFromFnResultFrom g p ys i n → (k : ℕ) → k < n → get_or ys (i + k) 0 ≡ v (i + k)
  from zero i p e r k h = absurd (omega arith)
  from (suc n) i p e (q, y, at, call, rest) zero h =
      let here = pure i y q (rw e at call) in
      let same : i + 0 ≡ i = omega arith in
      rw same (at.1 0 ∙ here.0)
  from (suc n) i p e (q, y, at, call, rest) (suc k) h =
      let here = pure i y q (rw e at call) in
      let same : i + suc k ≡ i + 1 + k = omega arith in
      rw same (from n (i + 1) q here.1 rest k (omega arith))

  pub from_fn_pure : (n : ℕ) → IsFromFnResult g f ys n → ys ≡ map v (range_with_len 0 n)
  from_fn_pure n r = fill_by_all v ys n 0 r.long (λ k h. let e : 0 + k ≡ k = omega arith in rw e at (from n 0 f refl r.each k h))
