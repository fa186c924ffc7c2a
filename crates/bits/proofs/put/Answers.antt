-- `bits::put` meets its contract: the three stores write the bytes of the number that has the value in its field. Assumes nothing.
use Prim.Native.Nat.{ℕ, ◌-◌, ◌/◌, ◌%◌}
use borrow.Author.Rules.{rules}
use mathlib.Core.Path.{◌∙◌, ap}
use native.Mathlib.Numerals.{add-one, add-two}
use Rattle.bits.specs.Word.{mixed}
use Rattle.bits.proofs.Words.{write_law}
use Rattle.bits.proofs.put.Goals as goal

pub returns : goal.returns
returns c =
    let a = c.args in
    let s = a.bytes.now in
    let i = a.at / 8 in
    let n = c.mix-new.result in
    let new = c.mix-new.ensures ∙
    ap (λ (old : ℕ). mixed old (24 - a.at % 8 - a.width) a.width a.value)
    c.word.ensures.0 in
    rw (
      c.store-3.ensures,
      c.store-2.ensures,
      c.store.ensures,
      add-two i,
      add-one i,
    )
    (write_law s a.at a.width c.requires.0
    (λ j. search rules) a.value n c.requires.1 new)
