-- `probe_questions::second_row` meets its contract: the part is the second path.
use Rattle.probe_questions.proofs.Lines.{puts_as, part-long, part-short}
use Rattle.probe_questions.proofs.second_row.Goals as goal

pub returns-then-links-gt65536 : goal.returns-then-links-gt65536
returns-then-links-gt65536 c =
    let links = c.second_path-links.ensures.shows in
    puts_as (part-long _ _ links c.if-links-gt65536.true) c.unknown.ensures

pub returns : goal.returns
returns c =
    let links = c.second_path-links.ensures.shows in
    puts_as (part-short _ _ links c.if-links-gt65536.false) c.told_part.ensures
