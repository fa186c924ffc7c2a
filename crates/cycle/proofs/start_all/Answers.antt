-- `cycle::start_all` meets its contract: the first records, at the first time. Assumes nothing.
use mathlib.Core.Path.{◌≡◌, ◌∙◌, ap}
use lib.ListN.{length}
use borrow.Author.Rules.{rules}
use Rattle.scope.specs.Limits.{most_messages}
use Rattle.cycle.proofs.start_all.Goals as goal

pub returns : goal.returns
returns c =
    let z : length c.first_records-ps.result ≡ most_messages = search rules in
    record {
      time = c.first.ensures.0;
      long = ap length c.first.ensures.1 ∙ z;
      next = rw c.first.ensures.1 c.first_records-ps.ensures;
    }
