-- `forms::pack` meets its contract: the fields, and then zero bits to the end of the part. Assumes nothing.
use mathlib.Core.Path.{◌≡◌, ◌∙◌}
use lib.Pow.{pow_pos}
use native.Mathlib.Omega.{arith}
use lib.ListN.{length}
use Rattle.scope.specs.File.{row_bits, whole_bytes}
use Rattle.forms.proofs.Packing.{row_walks, row_bits_most, length-file, packs_whole}
use Rattle.forms.proofs.pack.Goals as goal

pub overflow_mul-file : goal.overflow_mul-file
overflow_mul-file c =
    let row = c.args.row.now in
    let fits = c.requires in
    let most = row_bits_most row (row_walks row (length row) fits.complete) in
    let size : length c.pack_fields-end.new.file ≡ whole_bytes
    (length (row_bits row)) = c.pack_fields-end.auto.file ∙ fits.room ∙ length-file row in
    omega (arith, most, size)

pub overflow_sub-file : goal.overflow_sub-file
overflow_sub-file c =
    let row = c.args.row.now in
    let fits = c.requires in
    let most = row_bits_most row (row_walks row (length row) fits.complete) in
    let end = c.pack_fields-end.ensures.end in
    let size : length c.pack_fields-end.new.file ≡ whole_bytes
    (length (row_bits row)) = c.pack_fields-end.auto.file ∙ fits.room ∙ length-file row in
    omega (arith, most, end, size)

pub put-requires : goal.put-requires
put-requires c =
    let row = c.args.row.now in
    let fits = c.requires in
    let most = row_bits_most row (row_walks row (length row) fits.complete) in
    let end = c.pack_fields-end.ensures.end in
    let size : length c.pack_fields-end.new.file ≡ whole_bytes
    (length (row_bits row)) = c.pack_fields-end.auto.file ∙ fits.room ∙ length-file row in (
      record {
        narrow = omega (arith, end, size);
        near = omega (arith, most, end);
        inside = omega (arith, end, size);
      },
      pow_pos _,
    )

pub returns : goal.returns
returns c =
    let row = c.args.row.now in
    packs_whole row c.pack_fields-end.new.file _ _
    c.pack_fields-end.ensures
    (c.pack_fields-end.auto.file ∙
    c.requires.room) c.put.auto.bytes
    (λ i. (c.slice_known-3-1.given i).fits) c.put.ensures
