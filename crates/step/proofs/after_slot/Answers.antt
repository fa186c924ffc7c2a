-- `step::after_slot` meets its contract: nobody has tried anything when the slot begins. Assumes nothing.
use mathlib.Core.Path.{◌≡◌}
use lib.ListN.{length}
use native.Mathlib.Omega.{arith}
use borrow.Author.Rules.{rules}
use Rattle.step.proofs.after_slot.Goals as goal

pub lend-requires : goal.lend-requires
lend-requires c =
    let z : length c.args.ps ≡ 32 = search rules in
    record {
      stand = c.requires.0;
      long = omega (arith, z, c.requires.0.few);
      early = c.requires.1;
      room = omega (arith, c.none-tried.ensures.1);
      none = c.none-tried.ensures.0;
    }

pub returns : goal.returns
returns c = record { next = c.lend.ensures.next; rest = c.lend.ensures.rest }
