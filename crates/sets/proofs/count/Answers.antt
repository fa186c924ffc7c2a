-- `sets::count` meets its contract: a number of 32 digits has no other. Assumes nothing.
use Prim.Native.Nat.{◌^◌, ◌<◌}
use mathlib.Core.Path.{◌≡◌, ◌∙◌}
use native.Mathlib.Nat.{div-eq_of_lt}
use native.Mathlib.Omega.{arith}
use borrow.Author.Rules.{rules}
use lib.Arith.{le-zero}
use lib.Count.{ones, ones-le}
use Rattle.sets.specs.Sets.{size}
use Rattle.sets.proofs.Sets.{ones_sum}
use Rattle.sets.proofs.count.Goals as goal

pub overflow_cast-result : goal.overflow_cast-result
overflow_cast-result c = record { fits = omega (arith, ones-le 32 c.args.a (search rules)) }

pub returns : goal.returns
returns c =
    let a = c.args.a in
    let small : a < 2 ^ 32 = search rules in
    let none : ones 0 ≡ 0 = le-zero (ones-le 0 0 (omega arith)) in
    let all : ones a ≡ size a = ones_sum a 32 ∙ rw (div-eq_of_lt small, none) (omega arith) in
    (all, ones-le 32 a small)
