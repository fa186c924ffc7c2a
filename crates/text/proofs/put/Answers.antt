-- `text::put` meets its contract: a store within the buffer, nothing behind its end.
use Rattle.std.proofs.Common.{[], ◌∷◌, refl, sym}
use Rattle.text.proofs.Laid.{laid_one, laid_none}
use Rattle.text.proofs.put.Goals as goal
use Rattle.text.proofs.put.Goals.{then-at-out, else-at-out}

pub returns : goal.returns
returns g c = record {
  buffer = elim c.if-at-out.branch [
    | then-at-out w ↦ rw w.out-is (sym (laid_one c.args.out.now c.args.at c.args.item))
    | else-at-out w ↦ rw w.out-is (sym (laid_none c.args.out.now c.args.at (c.args.item ∷ []) w.if-at-out.false))
  ];
  ends = refl;
}
