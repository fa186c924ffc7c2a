-- `cut_lines::number` meets its contract: a digit behind a single one shows that there is no number.
use Rattle.std.proofs.Common.{◌≡◌, ◌+◌, true, false, arith}
use Rattle.std.proofs.lemmas.Option.{gets}
use Rattle.std.proofs.lemmas.Grind.{common_steps}
use Rattle.scope.specs.Lines.{is_digit, byte_at}
use Rattle.cut_lines.proofs.Meets.{number_none, found-cut, found_one, found-other}
use Rattle.cut_lines.proofs.number.Goals as goal
use Rattle.cut_lines.proofs.number.Goals.{else-r-i-via-then-r-i+else-is_some_and, else-r-i-via-else-r-i}

pub returns-in_err-r : goal.returns-in_err-r
returns-in_err-r c = rw c.from_residual.ensures (number_none c.args.text.now c.args.i c.in_err-r.ensures)

pub returns-then-is_some_and : goal.returns-then-is_some_and
returns-then-is_some_and c =
    let d : is_digit (byte_at c.args.text.now (c.args.i + 1)) ≡ true = grind (arith, common_steps, gets) in
    found-cut _ _ _ c.in_ok-r.ensures.1 c.if-r-i.true d

pub returns : goal.returns
returns c =
    let r = c.in_ok-r.ensures in
    elim c.else-r-i.branch [
      | else-r-i-via-then-r-i+else-is_some_and w ↦
          let d : is_digit (byte_at c.args.text.now (c.args.i + 1)) ≡ false = grind (arith, common_steps, gets) in
          found_one _ _ _ r.1 r.0 w.if-r-i.true d
      | else-r-i-via-else-r-i w ↦ found-other _ _ _ r.1 r.0 w.if-r-i.false
    ]
