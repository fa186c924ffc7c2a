-- `faults::first_fault` meets its contract: the links copied are those of the first path. Assumes nothing.
use Rattle.std.proofs.Common.{◌∙◌, refl, ap, arith, None}
use Rattle.scope.specs.Plan.{plan_of, link_of}
use Rattle.paths.proofs.Laws.{from-small}
use Rattle.faults.proofs.Laws as law
use Rattle.faults.proofs.first_fault.Goals as goal

pub path_fault-requires : goal.path_fault-requires
path_fault-requires c =
    (c.requires.0, omega (arith, c.ends_at-first.ensures.from, from-small c.args.row.now c.requires.0 c.number.result))

pub returns-in_err-fault : goal.returns-in_err-fault
returns-in_err-fault c =
    let f = c.first_links-n in
    let row = c.args.row.now in
    rw c.from_residual.ensures
    (law.first_path row (plan_of row) c.args.i f.result _ f.new.path f.ensures _
    (c.ends_at-first.ensures.from ∙ ap (λ e. (link_of (plan_of row) e).from) c.number.ensures.is)
    None (c.in_err-fault.ensures) refl)

pub returns : goal.returns
returns c =
    let f = c.first_links-n in
    let row = c.args.row.now in
    let g = c.in_ok-fault.ensures in
    law.first_path row (plan_of row) c.args.i f.result _ f.new.path f.ensures _
    (c.ends_at-first.ensures.from ∙ ap (λ e. (link_of (plan_of row) e).from) c.number.ensures.is)
    _ g refl
