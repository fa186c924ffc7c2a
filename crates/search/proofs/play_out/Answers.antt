-- `search::play_out` meets its contract: the messages stand at time i.
use Rattle.search.proofs.Playing.{settled_none, settled_some, ends-first, ends-may, ends_more, ends_light, ends_over}
use Rattle.search.proofs.play_out.Goals as goal

pub loop-i-init : goal.loop-i-init
loop-i-init c = ends-first _ _ _ _ c.requires

pub returns-then-too_few : goal.returns-then-too_few
returns-then-too_few c =
    ends_light _ _ _ _ c.requires _ _ _ c.loop-i.invariant _ _ c.at_risk-risk.ensures c.too_few.ensures c.if-too_few.true

pub advance-standing-requires : goal.advance-standing-requires
advance-standing-requires c = ends-may _ _ _ _ c.requires _ _ _ c.loop-i.invariant c.loop-i-test.true

pub away-left-requires : goal.away-left-requires
away-left-requires c = c.advance-standing.ensures.next.stand.few

pub loop-i-preserved : goal.loop-i-preserved
loop-i-preserved c =
    ends_more _ _ _ _ c.requires _ _ _ c.loop-i.invariant _ _ c.loop-i-test.true c.advance-standing.ensures c.away-left.ensures

pub count_home-arrivals-requires : goal.count_home-arrivals-requires
count_home-arrivals-requires c = c.loop-i.invariant.stand.next.stand.few

pub returns-then-answers : goal.returns-then-answers
returns-then-answers c =
    settled_some _ _ _ _ c.requires _ _
    (ends_over _ _ _ _ c.requires _ _ _ c.loop-i.invariant _ c.loop-i-test.false (c.count_home-arrivals.ensures _))
    c.answers.ensures c.if-answers.true

pub returns-else-answers : goal.returns-else-answers
returns-else-answers c =
    settled_none _ _ _ _ c.requires _ _
    (ends_over _ _ _ _ c.requires _ _ _ c.loop-i.invariant _ c.loop-i-test.false (c.count_home-arrivals.ensures _))
    c.answers.ensures c.if-answers.false
