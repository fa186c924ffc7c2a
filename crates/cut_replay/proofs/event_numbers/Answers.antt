-- `cut_replay::event_numbers` meets its contract: a row's timeout and its messages are at most 65,536 each. Assumes nothing.
use native.Mathlib.Nat.{mul-le-mul, mul-le-mul_left}
use Rattle.std.proofs.Common.{ℕ, ◌*◌, arith}
use mathlib.Core.Path.{ap₂}
use Rattle.cut_replay.proofs.event_numbers.Goals as goal

pub overflow_mul-result-2 : goal.overflow_mul-result-2
overflow_mul-result-2 c =
    let few = mul-le-mul c.timeout.ensures.small (mul-le-mul_left 2 c.messages.ensures.small) in
    record { fits = omega arith }

pub returns : goal.returns
returns c = ap₂ (λ (t m : ℕ). t * (2 * m)) c.timeout.ensures.is c.messages.ensures.is
