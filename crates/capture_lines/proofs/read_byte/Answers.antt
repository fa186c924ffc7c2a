-- `capture_lines::read_byte` meets its contract: by what the byte does to the line.
use Rattle.std.proofs.Common.{sym, rules}
use Rattle.capture_lines.proofs.Pieces.{feeds_bad, feeds_on, feeds_end, feeds_out}
use Rattle.capture_lines.proofs.read_byte.Goals as goal

pub returns-then-kept : goal.returns-then-kept
returns-then-kept c =
    let may = c.requires in
    feeds_bad _ _ c.args.reading may.size may.fits may.line _ c.if-kept.true

pub returns-in-On : goal.returns-in-On
returns-in-On c =
    let may = c.requires in
    feeds_on _ _ c.args.reading may.size may.fits may.line c.args.b c.if-kept.false _
    (sym c.in-On.ensures)

pub returns-in-End : goal.returns-in-End
returns-in-End c =
    let may = c.requires in
    feeds_end _ _ c.args.reading may.size may.fits may.line c.args.b c.if-kept.false _ _ _
    (sym c.in-End.ensures) c.add.ensures (search rules)

pub returns-in-Out : goal.returns-in-Out
returns-in-Out c =
    let may = c.requires in
    feeds_out _ _ c.args.reading may.size may.fits may.line c.args.b c.if-kept.false _ _
    (sym c.in-Out.ensures) c.unfinished.ensures (search rules)
