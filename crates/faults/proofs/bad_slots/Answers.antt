use Rattle.std.proofs.Common.{◌<◌, ◌≤◌, not, ◌∙◌, sym, ap, refl, arith}
use Rattle.scope.specs.Plan.{place_count}
use Rattle.rows.proofs.Parts.{timeout-is}
use Rattle.faults.proofs.Laws as law
use Rattle.faults.proofs.bad_slots.Goals as goal

pub loop-k-init : goal.loop-k-init
loop-k-init c = let a = c.args in
    let e = law.all_left a.row.now a.i _ refl in
    let f = c.timeout-t.ensures.is ∙ sym (timeout-is a.row.now) in
    (law.passing_first a.row.now a.i _, rw (e, f))

pub returns-then-here-least : goal.returns-then-here-least
returns-then-here-least c = let a = c.args in
    let l = c.loop-k in
    let more : l._k < place_count a.row.now a.i = omega (arith, c.loop-k-test.true, c.place_count-k-end.ensures.is) in
    ap not (sym (law.slots_out a.row.now _ l.at l._k c.place_at-here.result c.place_at-here.ensures more
    c.timeout-t.result l.least c.then-here-least.either) ∙ l.invariant.1)

pub loop-k-preserved : goal.loop-k-preserved
loop-k-preserved c = let a = c.args in
    let l = c.loop-k in
    let more : l._k < place_count a.row.now a.i = omega (arith, c.loop-k-test.true, c.place_count-k-end.ensures.is) in (
      law.passing_next a.row.now a.i _ l.at l._k c.place_at-here.result l.invariant.0 more c.place_at-here.ensures,
      law.slots_next a.row.now _ l.at l._k c.place_at-here.result c.place_at-here.ensures more
          c.timeout-t.result l.least c.if-here-least.false c.if-t-here.false ∙ l.invariant.1,
    )

pub returns : goal.returns
returns c = let a = c.args in
    let l = c.loop-k in
    let done : place_count a.row.now a.i ≤ l._k = omega (arith, c.loop-k-test.false, c.place_count-k-end.ensures.is) in
    ap not (sym (law.slots_done a.row.now _ l.at l._k c.timeout-t.result l.least done) ∙ l.invariant.1)
