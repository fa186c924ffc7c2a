-- `probe_lines::bytes_end` meets its contract.
use Rattle.text.proofs.Laid.{told-first, told-rest, then}
use Rattle.probe_lines.proofs.bytes_end.Goals as goal

pub put_bytes-last-requires : goal.put_bytes-last-requires
put_bytes-last-requires c =
    told-first _ _ (told-rest c.put_byte-word.ensures _ c.requires)

pub end-requires : goal.end-requires
end-requires c =
    rw c.kept.ensures (told-rest c.put_bytes-last.ensures _ (told-rest c.put_byte-word.ensures _ c.requires))

pub returns : goal.returns
returns c =
    then c.put_byte-word.ensures (then c.put_bytes-last.ensures (rw c.kept.ensures at c.end.ensures))
