-- `faults::bad_ends` meets its contract. Assumes nothing.
use Rattle.std.proofs.Common.{◌≡◌, ◌∙◌, sym, arith}
use Rattle.std.proofs.lemmas.Bool.Decides.{nat_tests}
use Rattle.scope.specs.Plan.{plan_of}
use Rattle.rows.proofs.Parts.{vertex_count_lem}
use Rattle.faults.proofs.bad_ends.Goals as goal
use Rattle.faults.proofs.bad_ends.Goals.{then-v-ends, else-v-ends}

pub returns-then-v-ends-2 : goal.returns-then-v-ends-2
returns-then-v-ends-2 c =
    let v : c.vertices-v.result ≡ (plan_of c.args.row.now).vertices = c.vertices-v.ensures.is ∙ sym (vertex_count_lem c.args.row.now) in
    let from = c.ends_at-ends.ensures.from in
    let to = c.ends_at-ends.ensures.to in
    elim c.if-v-ends.branch [ then-v-ends w ↦ grind (arith, nat_tests) | else-v-ends w ↦ grind (arith, nat_tests) ]

pub returns-else-v-ends-2 : goal.returns-else-v-ends-2
returns-else-v-ends-2 c =
    let v : c.vertices-v.result ≡ (plan_of c.args.row.now).vertices = c.vertices-v.ensures.is ∙ sym (vertex_count_lem c.args.row.now) in
    let from = c.ends_at-ends.ensures.from in
    let to = c.ends_at-ends.ensures.to in
    grind (arith, nat_tests)
