-- `text::put_decimal` meets its contract: the last digit comes after the digits of a tenth. The measure is the number.
use Rattle.std.proofs.Common.{[], ◌∷◌, ◌+◌, ◌%◌, ◌/◌, arith}
use Rattle.scope.specs.Lines.{decimal}
use Rattle.text.proofs.Laid.{told-first, told-rest, then}
use Rattle.text.proofs.Decimal.{decimal-small, decimal_large}
use Rattle.text.proofs.+put_decimal.Goals as goal

pub put_byte-requires : goal.put_byte-requires
put_byte-requires t c = rw (decimal-small c.args.n c.if-n-lt10.true) at c.requires

pub returns-then-n-lt10 : goal.returns-then-n-lt10
returns-then-n-lt10 t c = rw (decimal-small c.args.n c.if-n-lt10.true) c.put_byte.ensures

pub put_decimal-next-requires : goal.put_decimal-next-requires
put_decimal-next-requires t c =
    let n = c.args.n in
    (omega arith, told-first (decimal (n / 10)) ((48 + n % 10) ∷ []) (rw (decimal_large n c.if-n-lt10.false c.ranges.n.fits) at c.requires))

pub put_byte-requires-2 : goal.put_byte-requires-2
put_byte-requires-2 t c =
    let n = c.args.n in
    told-rest c.put_decimal-next.ensures ((48 + n % 10) ∷ []) (rw (decimal_large n c.if-n-lt10.false c.ranges.n.fits) at c.requires)

pub returns : goal.returns
returns t c =
    rw (decimal_large c.args.n c.if-n-lt10.false c.ranges.n.fits) (then c.put_decimal-next.ensures c.put_byte-2.ensures)
