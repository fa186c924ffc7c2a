-- `explain_text::explained` meets its contract: the listing is laid behind the line's place, and the line before it.
use native.Mathlib.Omega.{arith}
use Rattle.explain_text.proofs.Captures.{lines_given, lines_refused, given_short, refused-short}
use Rattle.plan.proofs.Ways.{known_good}
use Rattle.explain_text.proofs.explained.Goals as goal

pub overflow_add-result : goal.overflow_add-result
overflow_add-result c =
    omega (
      arith,
      given_short c.args.good.row.now c.args.list.now (known_good _ c.args.good.is_good) c.requires _ _ _ _ _ _ c.list_line-n.ensures
          c.min-from.ensures c.played.ensures _ c.in-Ok.is,
    )

pub overflow_add-n : goal.overflow_add-n
overflow_add-n c =
    omega (
      arith,
      refused-short c.args.good.row.now c.args.list.now (known_good _ c.args.good.is_good) c.requires _ _ _ _ _ _ c.list_line-n.ensures
          c.min-from.ensures c.played.ensures _ c.in-Err.is,
    )

pub returns-in-Ok : goal.returns-in-Ok
returns-in-Ok c =
    lines_given c.args.good.row.now c.args.list.now (known_good _ c.args.good.is_good) c.requires _ _ _ _ _ _ c.list_line-n.ensures
    c.min-from.ensures c.played.ensures _ _ _ c.in-Ok.is c.list_line.ensures

pub returns-in-Err : goal.returns-in-Err
returns-in-Err c =
    lines_refused c.args.good.row.now c.args.list.now (known_good _ c.args.good.is_good) c.requires _ _ _ _ _ _ c.list_line-n.ensures
    c.min-from.ensures c.played.ensures _ _ c.in-Err.is c.refuse.ensures
