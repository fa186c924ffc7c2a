-- `board::Board::fill` meets its contract: what the tables hold is right.
use Rattle.std.proofs.Common.{rules, refl}
use Rattle.board.proofs.Lending.{lies, may_fill, few_slots, may-touch, may-strip, may-weigh, lends}
use Rattle.board.proofs.Board.fill.Goals as goal

pub other_ways-others-requires : goal.other_ways-others-requires
other_ways-others-requires c = lies _ c.requires

pub fill-requires : goal.fill-requires
fill-requires c = may_fill _ c.requires _ _ (search rules) refl

pub fill_table-requires : goal.fill_table-requires
fill_table-requires c = (search rules, (lies c.args.row.now c.requires).messages)

pub touch_sets-requires : goal.touch_sets-requires
touch_sets-requires c = may-touch _ c.requires _ c.timeout-slots.ensures.is _ c.fill_table.ensures _ (search rules)

pub strip_sets-requires : goal.strip_sets-requires
strip_sets-requires c =
    may-strip _ c.requires _ c.timeout-slots.ensures.is _ c.fill_table.ensures _ _ c.fill.ensures _ (search rules)

pub weigh_all-requires : goal.weigh_all-requires
weigh_all-requires c =
    may-weigh _ c.requires _ c.timeout-slots.ensures.is _ c.fill_table.ensures _ _ c.fill.ensures _ _ c.other_ways-others.ensures (search rules)

pub tops_all-requires : goal.tops_all-requires
tops_all-requires c =
    record {
      heavy = c.weigh_all.ensures.long;
      few = few_slots _ c.requires _ c.timeout-slots.ensures.is;
      long = search rules;
    }

pub returns : goal.returns
returns c =
    lends _ c.requires _ c.timeout-slots.ensures.is _ _ _ _ _ _ _ _ c.fill_table.ensures c.fill.ensures c.other_ways-others.ensures
    c.touch_sets.ensures c.strip_sets.ensures c.weigh_all.ensures c.tops_all.ensures _ _ c.links.ensures.is c.messages.ensures.is
