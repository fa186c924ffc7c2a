-- `all_verdicts::put_answer` meets its contract.
use mathlib.Core.Path.{◌≡◌, refl}
use native.Mathlib.Omega.{arith}
use lib.ListN.{length, set, length-set}
use borrow.Author.Rules.{rules}
use Rattle.all_verdicts.proofs.Putting.{puts-seven, seven-length, room-left}
use Rattle.all_verdicts.proofs.put_answer.Goals as goal

pub slice_bounds-copy-count : goal.slice_bounds-copy-count
slice_bounds-copy-count c = simp length-set (omega (arith, c.requires))

pub slice_bounds-copy-start : goal.slice_bounds-copy-start
slice_bounds-copy-start c = simp length-set (omega (arith, c.requires))

pub copy-requires : goal.copy-requires
copy-requires c =
    let z : length c.args.numbers ≡ 6 = search rules in rw z
    (room-left (set c.args.out.now 0 c.args.head) 1 6
    (simp length-set (omega (arith, c.requires))))

pub shape_of-out : goal.shape_of-out
shape_of-out c =
    let z : length c.args.numbers ≡ 6 = search rules in seven-length
    c.args.out.now c.args.numbers _
    c.args.head c.requires z
    (puts-seven c.args.out.now
    c.args.numbers _ _ c.args.head
    c.requires z c.copy.ensures refl)

pub returns : goal.returns
returns c =
    let z : length c.args.numbers ≡ 6 = search rules in puts-seven
    c.args.out.now c.args.numbers _ _
    c.args.head c.requires z
    c.copy.ensures refl
