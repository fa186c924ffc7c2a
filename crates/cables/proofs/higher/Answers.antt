use Rattle.std.proofs.Common.{cond, ltb, rules}
use Rattle.cables.specs.Others.{other_in, higher_of}
use Rattle.cables.proofs.Made.{from_fn_pure}
use Rattle.cables.proofs.higher.Goals as goal

pub returns : goal.returns
unfolding higher_of
returns c = from_fn_pure _ (λ e. cond (ltb (other_in c.args.others.now e) e) 1 0) _ (λ i y q k. search rules) _ _ c.from_fn.ensures.items
