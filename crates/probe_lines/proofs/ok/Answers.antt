-- `probe_lines::ok` meets its contract.
use Rattle.text.proofs.Laid.{told-rest, then}
use Rattle.probe_lines.proofs.ok.Goals as goal

pub put_decimal-requires : goal.put_decimal-requires
put_decimal-requires c =
    told-rest c.put_word-first.ensures _ c.requires

pub returns : goal.returns
returns c = then c.put_word-first.ensures c.put_decimal.ensures
