-- `Met::acts` meets its contract: it is on its first path, or on its second. Assumes nothing.
use Rattle.step.proofs.Turns.{met_first, met_second}
use Rattle.step.proofs.Met.acts.Goals as goal

pub returns-then-p : goal.returns-then-p
returns-then-p c = let a = c.args in let g = c.requires in
    met_second a.row.now a.self g.0 g.2 a.slot.0 a.entry _ a.first _ c.if-p.true c.act_second.ensures

pub returns-else-p : goal.returns-else-p
returns-else-p c = let a = c.args in let g = c.requires in
    met_first a.row.now a.self g.0 g.2 a.slot.0 a.entry _ a.first _ c.if-p.false c.act_first.ensures
