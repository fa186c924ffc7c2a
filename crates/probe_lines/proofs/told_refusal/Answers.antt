-- `probe_lines::told_refusal` meets its contract.
use Rattle.text.proofs.Laid.{told-first, told-rest, then}
use Rattle.probe_lines.proofs.Short.{refusal-told}
use Rattle.probe_lines.proofs.told_refusal.Goals as goal

pub put_refusal-last-requires : goal.put_refusal-last-requires
put_refusal-last-requires c = told-first _ _ (refusal-told _ c.args.refusal c.requires)

pub put_byte-requires : goal.put_byte-requires
put_byte-requires c =
    told-rest c.put_refusal-last.ensures _ (refusal-told _ c.args.refusal c.requires)

pub returns : goal.returns
returns c = then c.put_refusal-last.ensures c.put_byte.ensures
