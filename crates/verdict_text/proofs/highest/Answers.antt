-- `verdict_text::highest` meets its contract: the product of two counts of 16 bits fits, and decides.
use Prim.Native.Nat.{◌*◌, ◌≤◌}
use native.Mathlib.Omega.{arith}
use native.Mathlib.Nat.{mul-le-mul}
use Rattle.verdict_text.proofs.Room.{goes_three, goes_large}
use Rattle.verdict_text.proofs.highest.Goals as goal

pub overflow_mul-links : goal.overflow_mul-links
overflow_mul-links c = record {
  fits = let few : c.links.result * c.timeout.result ≤ 65536 * 65536 =
      mul-le-mul c.links.ensures.small c.timeout.ensures.small in omega arith;
}

pub returns-then-links-timeout-le64 : goal.returns-then-links-timeout-le64
returns-then-links-timeout-le64 c = goes_three _ _ _ _ c.links.ensures.is c.timeout.ensures.is c.if-links-timeout-le64.true

pub returns-else-links-timeout-le64 : goal.returns-else-links-timeout-le64
returns-else-links-timeout-le64 c = goes_large _ _ _ _ c.links.ensures.is c.timeout.ensures.is c.if-links-timeout-le64.false
