-- `explain_text::unexplained` meets its contract.
use Rattle.std.proofs.Common.{rules}
use Rattle.scope.specs.Lines.{unexplained_line}
use Rattle.explain_text.proofs.unexplained.Goals as goal

pub returns : goal.returns
returns c = c.print.ensures unexplained_line (λ s n t p. search rules)
