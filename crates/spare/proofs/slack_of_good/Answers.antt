-- `spare::slack_of_good` meets its contract: one law for each way out. Assumes nothing.
use Rattle.spare.proofs.Ways as law
use Rattle.plan.proofs.Ways.{known_good}
use Rattle.spare.proofs.slack_of_good.Goals as goal

pub returns-then-messages-m : goal.returns-then-messages-m
returns-then-messages-m c =
    law.out_message c.args.good.row.now c.args.m c.args.p (known_good _ c.args.good.is_good) _ _ c.messages.ensures.is c.if-messages-m.true
    c.refusal_at.ensures

pub returns-then-place_count-p : goal.returns-then-place_count-p
returns-then-place_count-p c =
    law.out_place c.args.good.row.now c.args.m c.args.p (known_good _ c.args.good.is_good) _ _ _ c.messages.ensures.is
    c.if-messages-m.false c.message_index-i.ensures.is c.place_count.ensures.is _ c.if-place_count-p.true
    c.refusal_at-then-place_count-p.ensures

pub returns-then-here-eq0 : goal.returns-then-here-eq0
returns-then-here-eq0 c =
    law.out_second c.args.good.row.now c.args.m c.args.p (known_good _ c.args.good.is_good) _ _ _ c.messages.ensures.is c.if-messages-m.false
    c.message_index-i.ensures.is c.place_count.ensures.is _ _ c.if-place_count-p.false
    c.after_places-at.ensures.is c.place_at-here.ensures _ c.if-here-eq0.true c.refusal_at-then-here-eq0.ensures

pub less-requires : goal.less-requires
less-requires c =
    let a = c.args in
    let there = law.found a.good.row.now a.m a.p (known_good _ c.args.good.is_good) _ _ _ c.messages.ensures.is c.if-messages-m.false c.message_index-i.ensures.is
    c.place_count.ensures.is _ _ c.if-place_count-p.false c.after_places-at.ensures.is c.place_at-here.ensures c.if-here-eq0.false in
    let stands = law.place_at a.good.row.now a.m a.p c.message_index-i.ensures.is c.after_places-at.ensures.is in
    law.fits a.good.row.now a.m a.p (known_good _ c.args.good.is_good) there _ _ _ _ stands c.place_at-here.ensures c.timeout.ensures.is c.delay.ensures.is

pub returns : goal.returns
returns c =
    let a = c.args in
    let there = law.found a.good.row.now a.m a.p (known_good _ c.args.good.is_good) _ _ _ c.messages.ensures.is c.if-messages-m.false c.message_index-i.ensures.is
    c.place_count.ensures.is _ _ c.if-place_count-p.false c.after_places-at.ensures.is c.place_at-here.ensures c.if-here-eq0.false in
    let stands = law.place_at a.good.row.now a.m a.p c.message_index-i.ensures.is c.after_places-at.ensures.is in
    law.spares a.good.row.now a.m a.p (known_good _ c.args.good.is_good) there _ _ _ _ stands c.place_at-here.ensures c.timeout.ensures.is c.delay.ensures.is _
    c.less.ensures
