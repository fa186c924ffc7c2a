-- `strips::fill` meets its contract: numbers and bytes that are 0 are counted, then the tables are filled. Assumes nothing.
use Rattle.std.proofs.Common.{ℕ}
use Rattle.std.proofs.lemmas.List.{length-replicate}
use Rattle.scope.specs.Limits.{most_links, seconds_size}
use Rattle.strips.proofs.Puts.{zeros}
use Rattle.strips.proofs.fill.Goals as goal

pub count_all-requires : goal.count_all-requires
count_all-requires c =
    record {
      good = c.requires.good;
      numbers = length-replicate {A = ℕ} most_links 0;
      clear = zeros most_links;
      bytes = length-replicate {A = ℕ} seconds_size 0;
      none = zeros seconds_size;
    }
