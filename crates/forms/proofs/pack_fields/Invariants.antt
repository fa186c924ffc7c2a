-- `forms::pack_fields` meets its contract. The loop's invariant: the bits written so far and those of the rest are the row's. Assumes nothing.
use Rattle.forms.proofs.Packing.{OnPack}
use Rattle.forms.proofs.pack_fields.Given as goal

abbrev pub invariant-loop-i : goal.invariant-loop-i
invariant-loop-i l = OnPack l.row l.initial.file l.file l.s l.p l.i
