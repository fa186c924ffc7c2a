-- `pack::main` is safe: what came is packed from a whole buffer into one for the longest file, and what was packed lies in it.
use mathlib.Core.Path.{sym}
use borrow.Author.Rules.{rules}
use lib.Seq.{length-take-le}
use Rattle.row_text.proofs.Enough.{packs_within}
use Rattle.pack.proofs.main.Goals as goal

pub packed-requires : goal.packed-requires
packed-requires c =
    (c.in-Some.ensures.0, search rules, search rules)

pub slice_bounds-plan-end : goal.slice_bounds-plan-end
slice_bounds-plan-end c = packs_within _ _ _ _ _ c.packed.ensures _
    c.in-Ok.is

pub slice_bounds-save-end-in-Ok : goal.slice_bounds-save-end-in-Ok
slice_bounds-save-end-in-Ok c =
    sym (length-take-le _ _ (packs_within _ _ _ _ _ c.packed.ensures _ c.in-Ok.is))
