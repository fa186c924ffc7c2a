-- `text::put_number` meets its contract: the byte comes after the number.
use Rattle.text.proofs.Laid.{told-first, told-rest, then}
use Rattle.text.proofs.put_number.Goals as goal

pub put_decimal-next-requires : goal.put_decimal-next-requires
put_decimal-next-requires c = told-first _ _ c.requires

pub put_byte-requires : goal.put_byte-requires
put_byte-requires c =
    told-rest c.put_decimal-next.ensures _ c.requires

pub returns : goal.returns
returns c = then c.put_decimal-next.ensures c.put_byte.ensures
