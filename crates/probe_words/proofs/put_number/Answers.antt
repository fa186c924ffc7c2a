-- `probe_words::put_number` meets its contract: the index is at most the length, and no number has more than 20 digits.
use Rattle.std.proofs.Common.{arith}
use Rattle.text.proofs.Decimal.{decimal-all}
use Rattle.probe_words.proofs.put_number.Goals as goal

pub put_decimal-requires : goal.put_decimal-requires
put_decimal-requires c = let d = decimal-all c.args.n in record { fits = omega arith }
