-- `forms::packed_bytes` meets its contract: the bits in whole bytes. Assumes nothing.
use mathlib.Core.Path.{sym, ◌∙◌, ap}
use native.Mathlib.Omega.{arith}
use lib.ListN.{length}
use Rattle.scope.specs.File.{whole_bytes}
use Rattle.forms.proofs.Packing.{row_walks, row_bits_most, length-file}
use Rattle.forms.proofs.packed_bytes.Goals as goal

pub overflow_add-result : goal.overflow_add-result
overflow_add-result c =
    let row = c.args.row.now in
    let most = row_bits_most row (row_walks row (length row) c.requires) in
    let size = c.packed_bits.ensures in
    omega (arith, most, size)

pub returns : goal.returns
returns c =
    let row = c.args.row.now in
    let most = row_bits_most row (row_walks row (length row) c.requires) in
    let size = c.packed_bits.ensures in
    record { is = ap whole_bytes size ∙ sym (length-file row); most = omega (arith, most, size) }
