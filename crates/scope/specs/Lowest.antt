-- "The lowest such": the first number from 0 on that passes a test. Everything counts from 0.
use Rattle.std.specs.Prelude.{ℕ, zero, suc, ◌+◌, Bool, cond, ltb}

-- the first of the n numbers from i on that passes the test, or the number after them
unfoldable pub seek : (ℕ → Bool) → ℕ → ℕ → ℕ
seek test zero i = i
seek test (suc n) i = cond (test i) i (seek test n (i + 1))

-- the lowest number below n that passes the test, or n where none does
abbrev pub lowest : (ℕ → Bool) → ℕ → ℕ
lowest test n = seek test n 0

-- some number below n passes the test
abbrev pub some : (ℕ → Bool) → ℕ → Bool
some test n = ltb (lowest test n) n
