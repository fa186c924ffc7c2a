-- `bits::power` meets its contract: no bit is shifted out. Assumes nothing.
use Prim.Native.Nat.{◌*◌, ◌%◌, ◌^◌, ◌≤◌}
use mathlib.Core.Path.{◌≡◌, ◌∙◌}
use native.Mathlib.Nat.{one-mul}
use native.Mathlib.Omega.{arith}
use lib.Pow.{pow_pos, pow_mono, shl_exact}
use Rattle.bits.proofs.power.Goals as goal

pub returns : goal.returns
returns c =
    let k = c.args.k in
    let e : 1 * 2 ^ k % 2 ^ 64 ≡ 2 ^ k = shl_exact 1 k 64 (omega arith) (omega arith) ∙ one-mul (2 ^ k) in
    let most : 2 ^ k ≤ 2 ^ 24 = pow_mono c.requires in
    record { is = e; some = rw e (pow_pos k); small = rw e most }
