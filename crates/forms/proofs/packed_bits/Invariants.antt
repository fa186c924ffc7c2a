-- `forms::packed_bits` meets its contract. The loop's invariant: the bits so far and those of the rest are the row's. Assumes nothing.
use Rattle.forms.proofs.Packing.{Counts}
use Rattle.forms.proofs.packed_bits.Given as goal

abbrev pub invariant-loop-i : goal.invariant-loop-i
invariant-loop-i l = Counts l.row l.s l.p l.i
