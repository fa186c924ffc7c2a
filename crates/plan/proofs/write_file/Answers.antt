-- `plan::write_file` meets its contract: the row is judged first, then the room is asked for, then its bytes are packed. Assumes nothing.
use Rattle.std.proofs.Common.{rules, ◌++◌, drop, sym, ap, ◌∙◌}
use lib.Seq.{length-take-le}
use Rattle.scope.proofs.Outcomes.{passed}
use Rattle.plan.specs.Answers.{Writes}
use Rattle.plan.proofs.Ways as law
use Rattle.plan.proofs.write_file.Goals as goal

pub packed_bytes-n-requires : goal.packed_bytes-n-requires
packed_bytes-n-requires c = (law.good-row _ _ (sym c.in_ok-judge.ensures)).form

pub slice_bounds-pack-end-then-n-file : goal.slice_bounds-pack-end-then-n-file
slice_bounds-pack-end-then-n-file c = sym (length-take-le _ _ (search rules))

pub pack-requires : goal.pack-requires
pack-requires c =
    let n = c.packed_bytes-n in
    record {
      complete = (law.good-row _ _ (sym c.in_ok-judge.ensures)).form;
      room = length-take-le _ _ c.if-n-file.true ∙ n.ensures.is;
    }

pub returns-then-n-file : goal.returns-then-n-file
returns-then-n-file c =
    let n = c.packed_bytes-n in
    law.written _ _ _ _ _ (sym c.in_ok-judge.ensures) n.ensures.is c.if-n-file.true
    (ap (λ x. x ++ drop n.result c.args.file.now) c.pack.ensures)

pub returns-else-n-file : goal.returns-else-n-file
returns-else-n-file c =
    law.write_no_room _ _ _ _ _ (sym c.in_ok-judge.ensures) c.packed_bytes-n.ensures.is c.if-n-file.false c.refuse.ensures

pub returns-in_err-judge : goal.returns-in_err-judge
returns-in_err-judge c =
    passed (Writes _ _ _) _ _ c.from_residual.ensures.1 (law.write_bad _ _ _ (sym c.in_err-judge.ensures))
