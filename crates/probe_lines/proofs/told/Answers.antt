-- `probe_lines::told` meets its contract: one text for each case of the answer.
use Rattle.scope.specs.Outcome.{gives, refused}
use Rattle.text.proofs.Laid.{told-first, told-rest, then}
use Rattle.probe_lines.proofs.Short.{told-told}
use Rattle.probe_lines.proofs.told.Goals as goal

pub ok-next-requires : goal.ok-next-requires
ok-next-requires c =
    told-first _ _ (told-told _ (gives _) c.args.written c.args.lent.now c.requires)

pub numbers_end-requires : goal.numbers_end-requires
numbers_end-requires c =
    told-rest c.ok-next.ensures _ (told-told _ (gives _) c.args.written c.args.lent.now c.requires)

pub put_refusal-last-requires : goal.put_refusal-last-requires
put_refusal-last-requires c =
    told-first _ _ (told-told _ (refused _) c.args.written c.args.lent.now c.requires)

pub end-requires : goal.end-requires
end-requires c =
    rw c.kept.ensures
    (told-rest c.put_refusal-last.ensures _ (told-told _ (refused _) c.args.written c.args.lent.now c.requires))

pub returns-in-Ok : goal.returns-in-Ok
returns-in-Ok c =
    rw c.in-Ok.is (then c.ok-next.ensures c.numbers_end.ensures)

pub returns-in-Err : goal.returns-in-Err
returns-in-Err c =
    rw c.in-Err.is (then c.put_refusal-last.ensures (rw c.kept.ensures at c.end.ensures))
