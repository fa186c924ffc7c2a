-- `sets::one_if` meets its contract: her digit alone, which is not shifted out, or none. Assumes nothing.
use Prim.Native.Nat.{ℕ, ◌*◌, ◌%◌, ◌^◌, ◌<◌}
use mathlib.Core.Bool.{Bool, true, false}
use native.Mathlib.Nat.{one-mul, zero-mul}
use native.Mathlib.Omega.{arith}
use mir.Val.{bool_byte}
use lib.Pow.{shl_exact}
use Rattle.scope.specs.Limits.{most_messages}
use Rattle.sets.specs.Sets.{IsOneIf}
use Rattle.sets.proofs.Sets.{has-none, has_one}
use Rattle.sets.proofs.one_if.Goals as goal

shifted : (there : Bool) (m : ℕ) → m < most_messages → IsOneIf there m (bool_byte there * 2 ^ m % 2 ^ 32)
shifted true m l n = rw (shl_exact {a = 1} 1 m 32 (omega arith) (omega arith), one-mul) (has_one m n)
shifted false m l n = rw zero-mul (has-none n)

pub returns : goal.returns
returns c = rw c.from.ensures (shifted c.args.there c.args.m c.requires)
