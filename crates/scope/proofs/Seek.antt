-- A loop that looks for the lowest number below n that passes a test, at i: it begins, it goes on, it finds it, it is done.
use Prim.Native.Nat.{ℕ, ◌+◌, ◌-◌, ◌≤◌, ◌<◌}
use mathlib.Core.Path.{◌≡◌, sym, ◌∙◌, ap}
use mathlib.Core.Bool.{Bool, true, false}
use native.Mathlib.Omega.{arith}
use borrow.Author.Tests.{lt-ltb, le-ltb}
use lib.Dec.{ltb}
use Rattle.scope.specs.Lowest.{seek, lowest, some}
use Rattle.scope.proofs.Lowest.{seek_found, seek-next, seek-done}

pub record Seeking (test : ℕ → Bool) (n i : ℕ) : Type 0 where
  pub same : seek test (n - i) i ≡ lowest test n
  pub most : i ≤ n

module _ (test : ℕ → Bool) (n : ℕ) where
  pub seeking_first : Seeking test n 0
  seeking_first = record { same = ap (λ k. seek test k 0) (omega arith); most = omega arith }

  module _ (i : ℕ) (s : Seeking test n i) where
    pub seeking_next : i < n → test i ≡ false → Seeking test n (i + 1)
    seeking_next h t = record { same = sym (seek-next test n i h t) ∙ s.same; most = omega arith }

    pub lowest-found : i < n → test i ≡ true → i ≡ lowest test n
    lowest-found h t = sym (seek_found test n i h t) ∙ s.same

    pub lowest-done : n ≤ i → i ≡ lowest test n
    lowest-done h = sym (seek-done test n i h) ∙ s.same

    pub some-found : i < n → test i ≡ true → true ≡ some test n
    some-found h t = sym (ap (λ k. ltb k n) (sym (lowest-found h t)) ∙ lt-ltb i n h)

    pub some-none : n ≤ i → false ≡ some test n
    some-none h = sym (ap (λ k. ltb k n) (sym (lowest-done h)) ∙ le-ltb i n h)
