-- `probe_lines::end` meets its contract: one word for each way.
use Rattle.text.specs.Text.{Told}
use Rattle.probe_lines.specs.Answers.{ending}
use Rattle.probe_lines.proofs.end.Goals as goal

pub put_word-requires : goal.put_word-requires
put_word-requires c =
    let p : Told c.args.at (ending c.args.kept) = c.requires in rw c.if-kept.true at p

pub returns-then-kept : goal.returns-then-kept
returns-then-kept c = rw c.if-kept.true c.put_word.ensures

pub put_word-requires-2 : goal.put_word-requires-2
put_word-requires-2 c =
    let p : Told c.args.at (ending c.args.kept) = c.requires in rw c.if-kept.false at p

pub returns : goal.returns
returns c = rw c.if-kept.false c.put_word-2.ensures
