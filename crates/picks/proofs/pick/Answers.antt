-- `picks::pick` meets its contract: one pair more, and both ways of its cable down.
use Prim.Native.Nat.{ℕ, ◌+◌, ◌*◌}
use native.Mathlib.Omega.{arith}
use mathlib.Core.Path.{ap}
use lib.ListN.{set}
use Rattle.picks.specs.declared.Picked.{Picked}
use Rattle.picks.proofs.pick.Goals as goal

pub bounds-q-o : goal.bounds-q-o
bounds-q-o c =
    omega (arith, c.other-o.ensures, c.requires.3.below _ c.requires.2)

pub returns : goal.returns
returns c =
    let p = c.args.p in
    let s = c.args.s in
    let e = c.args.e in
    let with : ℕ → Picked =
    λ o. record {
      count = p.count + 1;
      slot = s;
      link = e + 1;
      numbers = set (set p.numbers (2 * p.count) s) (2 * p.count + 1) e;
      down = set (set p.down e 1) o 1;
      closed = set p.closed e 1;
    } in
    ap with c.other-o.ensures
