use Rattle.std.proofs.Common.{◌<◌, ◌≤◌, ◌∙◌, refl, sym, arith}
use Rattle.scope.specs.Plan.{place_count}
use Rattle.faults.proofs.Laws as law
use Rattle.faults.proofs.held_below.Goals as goal

pub loop-k-init : goal.loop-k-init
loop-k-init c = let a = c.args in
    let e = law.all_left a.row.now a.i _ refl in
    (law.passing_first a.row.now a.i _, rw e)

pub returns-then-holder-m : goal.returns-then-holder-m
returns-then-holder-m c = let a = c.args in
    let l = c.loop-k in
    let more : l._k < place_count a.row.now a.i = omega (arith, c.loop-k-test.true, c.place_count-k-end.ensures.is) in
    sym (law.held_there a.row.now _ l.at l._k c.place_at-here.result c.place_at-here.ensures more
    a.table.now a.m c.entry-holder.result c.entry-holder.ensures c.if-holder-m.true) ∙ l.invariant.1

pub loop-k-preserved : goal.loop-k-preserved
loop-k-preserved c = let a = c.args in
    let l = c.loop-k in
    let more : l._k < place_count a.row.now a.i = omega (arith, c.loop-k-test.true, c.place_count-k-end.ensures.is) in (
      law.passing_next a.row.now a.i _ l.at l._k c.place_at-here.result l.invariant.0 more c.place_at-here.ensures,
      law.held_next a.row.now _ l.at l._k c.place_at-here.result c.place_at-here.ensures more
          a.table.now a.m c.entry-holder.result c.entry-holder.ensures c.if-holder-m.false ∙ l.invariant.1,
    )

pub returns : goal.returns
returns c = let a = c.args in
    let l = c.loop-k in
    let done : place_count a.row.now a.i ≤ l._k = omega (arith, c.loop-k-test.false, c.place_count-k-end.ensures.is) in
    sym (law.held_done a.row.now _ l.at l._k a.table.now a.m done) ∙ l.invariant.1
