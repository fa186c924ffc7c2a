-- The sum of the first values of a function.
use Rattle.std.specs.Prelude.{ℕ, zero, suc, ◌+◌, Bool, cond}

unfoldable pub sum_of : (ℕ → ℕ) → ℕ → ℕ
sum_of f zero = 0
sum_of f (suc n) = sum_of f n + f n

-- 1 where a test holds
abbrev pub one_if : Bool → ℕ
one_if b = cond b 1 0
