-- `faults::second_fault` meets its contract: the links copied say where the first path ends. Assumes nothing.
use Rattle.scope.specs.Plan.{plan_of}
use Rattle.faults.proofs.Laws as law
use Rattle.faults.proofs.second_fault.Goals as goal

pub returns : goal.returns
returns c =
    let f = c.first_links-n in
    let row = c.args.row.now in
    law.second_paths_lem row (plan_of row) c.args.i f.result _ f.new.path f.ensures _ c.path_end-end.ensures
    c.places_fault.result c.places_fault.ensures
