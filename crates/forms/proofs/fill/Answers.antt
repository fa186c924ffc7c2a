use Prim.Native.Nat.{◌+◌, ◌<◌}
use mathlib.Core.Path.{◌≡◌, refl, sym, ◌∙◌}
use native.Mathlib.Omega.{arith}
use lib.ListN.{length, length-set}
use Rattle.scope.specs.Fields.{width}
use Rattle.scope.specs.Bits.{bits}
use Rattle.bits.proofs.Laws.{length-bits}
use Rattle.grammar.proofs.Most.{fewer, falls, width-most, number_small}
use Rattle.forms.proofs.Walk.{bits-end, bits-short, fields_end, fields_short}
use Rattle.forms.proofs.Filling.{turns, starts, goes_on, gives_row}
use Rattle.forms.proofs.fill.Goals as goal

pub loop-s-init : goal.loop-s-init
loop-s-init c = starts c.args.file.now c.args.row.now _
    c.requires.0 c.requires.1 c.opening-s.ensures

pub shape_of-row-then-w-eq0 : goal.shape_of-row-then-w-eq0
shape_of-row-then-w-eq0 c = c.loop-s.invariant.long ∙ simp length-set

pub returns-then-w-eq0 : goal.returns-then-w-eq0
returns-then-w-eq0 c =
    let a = c.args in
    let file = a.file.now in
    let at = c.loop-s in
    let on = at.invariant in
    let none : width at.s ≡ 0 = sym c.width-w.ensures ∙ c.if-w-eq0.true in
    gives_row file _ at.row at.s at.p at.i on a.row.now _ _ refl
    (rw length-set c.requires.1)
    (fields_end (bits file) at.s at.p (turns file at.i) none) (bits-end (bits file) at.s at.p (turns file at.i) none) refl
    refl

pub overflow_add-p : goal.overflow_add-p
overflow_add-p c =
    let at = c.loop-s in
    let on = at.invariant in
    let is = c.width-w.ensures in
    let most = width-most at.s on.narrow in
    omega (arith, most, is, on.short)

pub overflow_add-p-in-loop-s : goal.overflow_add-p-in-loop-s
overflow_add-p-in-loop-s c =
    let at = c.loop-s in
    let on = at.invariant in
    let is = c.width-w.ensures in
    let most = width-most at.s on.narrow in
    omega (arith, most, is, on.short)

pub shape_of-row-then-file-p : goal.shape_of-row-then-file-p
shape_of-row-then-file-p c = c.loop-s.invariant.long ∙ simp length-set

pub returns-then-file-p : goal.returns-then-file-p
returns-then-file-p c =
    let a = c.args in
    let file = a.file.now in
    let at = c.loop-s in
    let on = at.invariant in
    let is = c.width-w.ensures in
    let some : width at.s ≡ 0 → ⊥ = λ z. c.if-w-eq0.false (is ∙ z) in
    let less : length (bits file) < at.p + width at.s = rw length-bits (omega (arith, is, c.if-file-p.true)) in
    gives_row file _ at.row at.s at.p at.i on a.row.now _ _ refl
    (rw length-set c.requires.1)
    (fields_short (bits file) at.s at.p (turns file at.i) some less)
    (bits-short (bits file) at.s at.p (turns file at.i) some less)
    c.refuse.ensures refl

pub field-v-requires : goal.field-v-requires
field-v-requires c =
    let at = c.loop-s in
    let on = at.invariant in
    let is = c.width-w.ensures in
    let most = width-most at.s on.narrow in
    record {
      narrow = omega (arith, most, is);
      near = omega (arith, on.short);
      inside = omega (arith, c.if-file-p.false);
    }

pub overflow_cast-row : goal.overflow_cast-row
overflow_cast-row c =
    let at = c.loop-s in
    let on = at.invariant in
    let is = c.width-w.ensures in
    let most = width-most at.s on.narrow in
    record { fits = number_small _ _ (omega (arith, most, is)) c.field-v.ensures.small }

pub offset_bounds-row-i : goal.offset_bounds-row-i
offset_bounds-row-i c =
    let at = c.loop-s in
    let on = at.invariant in
    omega (arith, on.few)

pub bounds-row-i : goal.bounds-row-i
bounds-row-i c =
    let at = c.loop-s in
    let on = at.invariant in
    let is = c.width-w.ensures in
    let nonzero : width at.s ≡ 0 → ⊥ = λ z. c.if-w-eq0.false (is ∙ z) in
    let less = falls (λ w. 1) at.s c.field-v.result nonzero (rw is at c.field-v.ensures.small) in
    let place : at.i < length at.row = omega (
      arith,
      on.few,
      less,
      on.long,
      simp length-set at on.long,
      c.requires.1,
    ) in
    place

pub overflow_add-p-in-loop-s-2 : goal.overflow_add-p-in-loop-s-2
overflow_add-p-in-loop-s-2 c =
    let at = c.loop-s in
    let on = at.invariant in
    let is = c.width-w.ensures in
    let most = width-most at.s on.narrow in
    omega (arith, most, is, on.short)

pub overflow_add-i : goal.overflow_add-i
overflow_add-i c =
    let at = c.loop-s in
    let on = at.invariant in
    omega (arith, on.few)

pub loop-s-smaller : goal.loop-s-smaller
loop-s-smaller c =
    fewer c.loop-s.s _ _ _ c.width-w.ensures
    c.if-w-eq0.false c.field-v.ensures.small c.step-s.ensures

pub loop-s-preserved : goal.loop-s-preserved
loop-s-preserved c =
    let a = c.args in
    let file = a.file.now in
    let at = c.loop-s in
    let on = at.invariant in
    goes_on file _ at.row at.s at.p at.i on _ _ _
    (rw length-set c.requires.1)
    c.width-w.ensures c.if-w-eq0.false
    (omega (arith, c.if-file-p.false)) c.field-v.ensures c.step-s.ensures
