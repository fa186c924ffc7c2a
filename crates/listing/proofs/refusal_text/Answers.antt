-- `listing::refusal_text` meets its contract.
use Rattle.std.proofs.Common.{rules}
use Rattle.scope.specs.Lines.{refused_line}
use Rattle.listing.proofs.refusal_text.Goals as goal

pub returns : goal.returns
returns c = c.print.ensures (refused_line c.args.refusal) (λ s n t p. search rules)
