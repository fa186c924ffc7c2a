-- `paths::path_end` meets its contract: the last link is that of the highest index. Assumes nothing.
use Rattle.std.proofs.Common.{◌≡◌, ◌-◌, ◌∙◌, ap, length, get_or, arith}
use Rattle.scope.specs.Plan.{plan_of, link_of}
use Rattle.paths.proofs.Laws.{end_is}
use Rattle.paths.proofs.path_end.Goals as goal

pub returns : goal.returns
returns c =
    let plan = plan_of c.args.row.now in
    let path = c.args.path.now in
    let last : c.saturating_sub-last.result ≡ length path - 1 = omega arith in
    c.ends_at-ends.ensures.to ∙ ap (λ e. (link_of plan e).to) (c.number.ensures.is ∙ ap (λ i. get_or path i 0) last) ∙ end_is plan path
