-- `clues::suspect` meets its contract: each turn plays one slot more, or cuts one more link that a slot names.
use native.Mathlib.Omega.{arith}
use mathlib.Core.Path.{refl, sym}
use Rattle.clues.proofs.Suspecting.{suspects_none_yet, may_look, suspects_on, suspects_dead, link-small, suspects_none, suspects_more, suspects_over, suspects_fewer, suspects_only}
use Rattle.clues.proofs.suspect.Goals as goal

pub loop-i-init : goal.loop-i-init
loop-i-init c = record { of = λ p m d s. suspects_none_yet _ _ _ _ _ p m _ _ d s; few = omega arith }

pub slice_bounds-look-end : goal.slice_bounds-look-end
slice_bounds-look-end c =
    let may = c.requires in
    sym (c.loop-i.invariant.of _ may refl refl).size

pub look-requires : goal.look-requires
look-requires c =
    let may = c.requires in
    let inv = c.loop-i.invariant.of _ may refl refl in
    may_look _ _ _ _ _ _ may _ _ _ _ inv c.loop-i-test.true

pub loop-i-preserved-in-Nothing : goal.loop-i-preserved-in-Nothing
loop-i-preserved-in-Nothing c =
    let inv = c.loop-i.invariant in
    record {
      of = λ p m d s.
          suspects_on _ _ _ _ _ p m _ _ _ _ (inv.of p m d s) c.loop-i-test.true _
          c.look.ensures _ c.in-Nothing.is;
      few = inv.few;
    }

pub returns-then-named-n : goal.returns-then-named-n
returns-then-named-n c =
    let may = c.requires in
    let inv = c.loop-i.invariant.of _ may refl refl in
    λ j few.
    suspects_none _ _ _ _ _ _ may _ _ _ _ inv c.loop-i-test.true _
    c.look.ensures _ c.in-Link.is j
    (omega (arith, c.if-named-n.true))

pub slice_bounds-other-end : goal.slice_bounds-other-end
slice_bounds-other-end c =
    let may = c.requires in
    sym may.play.others.bytes.size

pub bounds-down-x : goal.bounds-down-x
bounds-down-x c =
    let may =
    c.requires in
    let inv = c.loop-i.invariant.of _ may refl refl in
    link-small _ _ _ _ _ _ may _ _ _ _ inv c.loop-i-test.true _
    c.look.ensures _ c.in-Link.is

pub bounds-down-other : goal.bounds-down-other
bounds-down-other c =
    let may =
    c.requires in
    let link = bounds-down-x c in
    omega (arith, c.other-other.ensures, may.play.others.bytes.below _ link)

pub loop-i-preserved : goal.loop-i-preserved
loop-i-preserved c =
    let inv = c.loop-i.invariant in
    record {
      of = λ p m d s.
          suspects_more _ _ _ _ _ p m _ _ _ _ (inv.of p m d s)
          c.loop-i-test.true _
          c.look.ensures _ c.in-Link.is _
          c.other-other.ensures;
      few = omega (arith, inv.few, c.if-named-n.false);
    }

pub returns-in-Dead : goal.returns-in-Dead
returns-in-Dead c =
    let may = c.requires in
    let inv = c.loop-i.invariant.of _ may refl refl in
    suspects_dead _ _ _ _ _ _ may _ _ _ _ inv c.loop-i-test.true _
    c.look.ensures c.in-Dead.is c.args.n

pub returns : goal.returns
returns c =
    let may = c.requires in
    let loop = c.loop-i.invariant in
    let inv = loop.of _ may refl refl in
    record {
      few = loop.few;
      fewer = suspects_fewer _ _ _ _ _ _ may _ _ _ _ inv;
      whole = suspects_over _ _ _ _ _ _ may _ _ _ _ inv c.loop-i-test.false;
      only = suspects_only _ _ _ _ _ _ may _ _ _ _ inv;
    }
