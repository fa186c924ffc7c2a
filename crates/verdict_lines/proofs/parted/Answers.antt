-- `verdict_lines::parted` meets its contract: the first number, and the others each after a space.
use Rattle.verdict_lines.proofs.Others.{none-parted, first-told, others-told, some-parted}
use Rattle.verdict_lines.proofs.parted.Goals as goal

pub returns-in_default : goal.returns-in_default
returns-in_default c = none-parted _ _ _ c.in_default.len_below

pub put_decimal-next-requires : goal.put_decimal-next-requires
put_decimal-next-requires c = first-told c.args.numbers.now c.in-len1-up.len_at_least c.requires

pub spaced-requires : goal.spaced-requires
spaced-requires c = others-told c.args.numbers.now c.in-len1-up.len_at_least c.requires c.put_decimal-next.ensures

pub returns : goal.returns
returns c = some-parted c.args.numbers.now c.in-len1-up.len_at_least c.put_decimal-next.ensures c.spaced.ensures
