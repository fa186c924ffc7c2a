-- `capture_lines::finish` meets its contract: by what is kept, and by the line that the text has ended in.
use mathlib.Core.Path.{sym, ◌∙◌}
use Rattle.capture_lines.proofs.Pieces.{ends-bad, ends_fresh, ends_midst}
use Rattle.capture_lines.proofs.finish.Goals as goal

pub returns-then-kept : goal.returns-then-kept
returns-then-kept c = ends-bad c.args.reading c.if-kept.true

pub returns-then-is_fresh : goal.returns-then-is_fresh
returns-then-is_fresh c =
    ends_fresh c.args.reading c.if-kept.false (sym c.is_fresh.ensures ∙ c.if-is_fresh.true)

pub returns : goal.returns
returns c =
    ends_midst c.args.reading c.if-kept.false c.unfinished.result
    (sym c.is_fresh.ensures ∙ c.if-is_fresh.false) c.unfinished.ensures
