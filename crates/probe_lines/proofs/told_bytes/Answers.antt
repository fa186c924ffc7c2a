-- `probe_lines::told_bytes` meets its contract: one text for each case of the answer.
use Rattle.scope.specs.Outcome.{gives, refused}
use Rattle.text.proofs.Laid.{told-first, told-rest, then}
use Rattle.probe_lines.proofs.Short.{bytes-told}
use Rattle.probe_lines.proofs.told_bytes.Goals as goal

pub ok-next-requires : goal.ok-next-requires
ok-next-requires c =
    told-first _ _ (bytes-told _ (gives _) c.args.lent.now c.requires)

pub bytes_end-requires : goal.bytes_end-requires
bytes_end-requires c =
    told-rest c.ok-next.ensures _ (bytes-told _ (gives _) c.args.lent.now c.requires)

pub put_refusal-last-requires : goal.put_refusal-last-requires
put_refusal-last-requires c =
    told-first _ _ (bytes-told _ (refused _) c.args.lent.now c.requires)

pub end-requires : goal.end-requires
end-requires c =
    rw c.kept.ensures (told-rest c.put_refusal-last.ensures _ (bytes-told _ (refused _) c.args.lent.now c.requires))

pub returns-in-Ok : goal.returns-in-Ok
returns-in-Ok c =
    rw c.in-Ok.is (then c.ok-next.ensures c.bytes_end.ensures)

pub returns-in-Err : goal.returns-in-Err
returns-in-Err c =
    rw c.in-Err.is (then c.put_refusal-last.ensures (rw c.kept.ensures at c.end.ensures))
