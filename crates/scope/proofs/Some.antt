-- "some number below n passes the test", from what is known of each.
use Prim.Native.Nat.{ℕ, zero, suc, ◌+◌, ◌<◌}
use native.Mathlib.Omega.{arith}
use mathlib.Core.Path.{◌≡◌, refl, sym, ◌∙◌, ap}
use mathlib.Core.Bool.{Bool, true, false, ◌&&◌, ◌||◌, true≢false}
use lib.Dec.{ltb}
use borrow.Author.Tests.{ltb-true, ltb-false}
use Rattle.scope.specs.Lowest.{lowest, some}
use Rattle.scope.proofs.Lowest.{seek_is, seek-low, seek-same}

pub none : (test : ℕ → Bool) (n : ℕ) → ((i : ℕ) → i < n → test i ≡ false) → some test n ≡ false
none test n h = by (some test n) refl
  where
    by : (b : Bool) → some test n ≡ b → some test n ≡ false
    by false e = e
    by true e =
        let l : lowest test n < n = ltb-true (lowest test n) n e in
        absurd (true≢false (sym (seek_is test n 0 (omega arith)) ∙ h (lowest test n) l))

pub none_below : (test : ℕ → Bool) (n : ℕ) → some test n ≡ false → (i : ℕ) → i < n → test i ≡ false
none_below test n h i l = seek-low test n 0 i (omega arith) (omega (arith, ltb-false (lowest test n) n h))

pub some_one : (test : ℕ → Bool) (n i : ℕ) → i < n → test i ≡ true → some test n ≡ true
some_one test n i l t = by (some test n) refl
  where
    by : (b : Bool) → some test n ≡ b → some test n ≡ true
    by true e = e
    by false e = absurd (true≢false (sym t ∙ none_below test n e i l))

pub which : (test : ℕ → Bool) (n : ℕ) → some test n ≡ true → (i : ℕ) × (i < n) × (test i ≡ true)
which test n h =
    let l : lowest test n < n = ltb-true (lowest test n) n h in
    (lowest test n, l, seek_is test n 0 (omega arith))

pub some_same : (s t : ℕ → Bool) (n : ℕ) → ((i : ℕ) → i < n → s i ≡ t i) → some s n ≡ some t n
some_same s t n h = rw (seek-same s t n 0 (λ j a b. h j (omega arith)))

-- one more number, after the others or before them
pub some_more : (test : ℕ → Bool) (n : ℕ) → some test (n + 1) ≡ (some test n || test n)
some_more test n = by (some test n) refl (test n) refl
  where
    by : (a : Bool) → some test n ≡ a → (b : Bool) → test n ≡ b → some test (n + 1) ≡ (a || b)
    by true e b f = let w = which test n e in some_one test (n + 1) w.0 (omega (arith, w.1)) w.2
    by false e true f = some_one test (n + 1) n (omega arith) f
    by false e false f = none test (n + 1) (λ i l. here i l (ltb i n) refl)
      where
        at : (i : ℕ) → n ≡ i → test i ≡ false
        at i g = rw g at f

        here : (i : ℕ) → i < n + 1 → (c : Bool) → ltb i n ≡ c → test i ≡ false
        here i l true g = none_below test n e i (ltb-true i n g)
        here i l false g = at i (omega (arith, ltb-false i n g))

pub some_first : (test : ℕ → Bool) (n : ℕ) → some test (suc n) ≡ (test 0 || some (λ i. test (suc i)) n)
some_first test n = by (test 0) refl (some (λ i. test (suc i)) n) refl
  where
    by : (a : Bool) → test 0 ≡ a → (b : Bool) → some (λ i. test (suc i)) n ≡ b → some test (suc n) ≡ (a || b)
    by true e b f = some_one test (suc n) 0 (omega arith) e
    by false e true f = let w = which (λ i. test (suc i)) n f in some_one test (suc n) (suc w.0) (omega (arith, w.1)) w.2
    by false e false f = none test (suc n) at
      where
        at : (i : ℕ) → i < suc n → test i ≡ false
        at zero l = e
        at (suc i) l = none_below (λ j. test (suc j)) n f i (omega arith)

-- either of two tests
pub some_or : (s t : ℕ → Bool) (n : ℕ) → some (λ i. s i || t i) n ≡ (some s n || some t n)
some_or s t n = by (some s n) refl (some t n) refl
  where
    by : (a : Bool) → some s n ≡ a → (b : Bool) → some t n ≡ b → some (λ i. s i || t i) n ≡ (a || b)
    by true e b f = let w = which s n e in some_one (λ i. s i || t i) n w.0 w.1 (rw w.2)
    by false e true f =
        let w = which t n f in
        some_one (λ i. s i || t i) n w.0 w.1 (rw (none_below s n e w.0 w.1) w.2)
    by false e false f = none (λ i. s i || t i) n (λ i l. rw (none_below s n e i l) (none_below t n f i l))

-- a test that only number p can pass
pub some_at : (is test : ℕ → Bool) (n p : ℕ) → p < n → is p ≡ true → ((i : ℕ) → i < n → is i ≡ true → i ≡ p) →
    some (λ i. is i && test i) n ≡ test p
some_at is test n p l e only = by (test p) refl
  where
    here : (i : ℕ) → i < n → test p ≡ false → (b : Bool) → is i ≡ b → (b && test i) ≡ false
    here i h f true g = ap test (only i h g) ∙ f
    here i h f false g = refl

    by : (a : Bool) → test p ≡ a → some (λ i. is i && test i) n ≡ a
    by true f = some_one (λ i. is i && test i) n p l (rw e f)
    by false f = none (λ i. is i && test i) n (λ i h. here i h f (is i) refl)
