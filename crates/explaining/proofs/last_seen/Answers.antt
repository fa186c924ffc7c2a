-- `explaining::last_seen` meets its contract: what is noted was seen.
use Prim.Native.Nat.{◌*◌, ◌<◌}
use native.Mathlib.Omega.{arith}
use lib.Seq.{get_or-take, length-take-le}
use Rattle.explaining.proofs.Seen.{link-below, lasts-none, lasts-more}
use Rattle.explaining.proofs.last_seen.Goals as goal

pub loop-k-init : goal.loop-k-init
loop-k-init c = lasts-none _ _

pub bounds-last-c : goal.bounds-last-c
bounds-last-c c = link-below _ c.if-c-gt0.true c.if-c-le-LINKS.true

pub bounds-last-other : goal.bounds-last-other
bounds-last-other c =
    let links = c.requires.2 in
    omega (arith, c.other-other.ensures, links.below _ (bounds-last-c c))

pub loop-k-preserved : goal.loop-k-preserved
loop-k-preserved c =
    let inv = c.loop-k.invariant in
    let links = c.requires.2 in
    let end = c.args.z.timeout * 32 in
    let crossed = c.args.crossed.now in
    let early : c.loop-k.k < end =
    omega (arith, c.loop-k-test.true, length-take-le end crossed (omega (arith, c.requires.0, c.requires.1))) in
    elim c.if-k-z.branch [
      | goal.then-k-z+then-c-gt0+then-c-le-LINKS w ↦
          rw (w.last-is, w.other-other.ensures)
          (lasts-more _ _ _ _ _ inv early (get_or-take end crossed c.loop-k.k 0 early) w.if-k-z.true w.if-c-gt0.true w.if-c-le-LINKS.true links)
      | goal.else-k-z w ↦ rw w.last-is inv
    ]
