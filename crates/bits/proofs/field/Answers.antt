-- `bits::field` meets its contract: the field is a part of the three bytes as one number. Assumes nothing.
use native.Mathlib.Nat.{mod-lt}
use lib.Pow.{pow_pos}
use Rattle.bits.proofs.Words.{read_law}
use Rattle.bits.proofs.field.Goals as goal

pub returns : goal.returns
returns c =
    let a = c.args in
    let s = a.bytes.now in
    rw (c.power-2.ensures.is, c.power.ensures.is, c.word.ensures.0)
    (record {
      is = read_law s a.at a.width c.requires
          (λ i. (c.type_inv.bytes i).fits);
      small = mod-lt _ (pow_pos a.width);
    })
