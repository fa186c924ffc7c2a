use native.Mathlib.Omega.{arith}
use Rattle.paths.proofs.Laws as law
use Rattle.paths.proofs.first_links.Goals as goal

pub loop-k-preserved : goal.loop-k-preserved
loop-k-preserved c = let a = c.args in
    let l = c.loop-k in
    law.copying_next a.row.now a.i c.place_count-n.result a.path.now l.at l.k
    l.path c.place_at-here.result l.invariant c.loop-k-test.true (omega arith) c.place_at-here.ensures

pub returns : goal.returns
returns c = let a = c.args in
    let l = c.loop-k in
    law.copying_done a.row.now a.i c.place_count-n.result a.path.now l.at l.k l.path l.invariant
    c.loop-k-test.false c.place_count-n.ensures.is
