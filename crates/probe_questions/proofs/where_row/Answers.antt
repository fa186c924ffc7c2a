-- `probe_questions::where_row` meets its contract: the index and the part are those of the second path.
use Rattle.probe_questions.proofs.Lines.{puts_as, place_as}
use Rattle.probe_questions.proofs.where_row.Goals as goal

pub returns : goal.returns
returns c =
    let links = c.second_path-links.ensures.shows in
    puts_as (place_as c.second_index-index.ensures links) c.told_place.ensures
