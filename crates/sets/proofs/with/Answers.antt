-- `sets::with` meets its contract: her digit, which is not shifted out, or those that were there. Assumes nothing.
use Prim.Native.Nat.{ℕ, ◌*◌, ◌%◌, ◌^◌, ◌<◌}
use mathlib.Core.Path.{◌≡◌, ◌∙◌, ap}
use mathlib.Core.Bool.{◌||◌}
use native.Mathlib.Nat.{one-mul}
use native.Mathlib.Omega.{arith}
use lib.Bits.{bit_or}
use lib.Pow.{shl_exact}
use Rattle.scope.specs.Limits.{most_vertices}
use Rattle.sets.specs.Sets.{has, IsWith}
use Rattle.sets.proofs.Sets.{has_one, has_either, turned}
use Rattle.sets.proofs.with.Goals as goal

added : (set v : ℕ) → v < most_vertices → IsWith set v (bit_or set (1 * 2 ^ v % 2 ^ 64))
added set v l n =
    let one : 1 * 2 ^ v % 2 ^ 64 ≡ 2 ^ v = shl_exact {a = 1} 1 v 64 (omega arith) (omega arith) ∙ one-mul (2 ^ v) in
    has_either set (1 * 2 ^ v % 2 ^ 64) n ∙ ap (λ x. has set n || has x n) one ∙ ap (λ b. has set n || b) (has_one v n) ∙
    turned (has set n) _

pub returns : goal.returns
returns c = added c.args.set c.args.v c.requires
