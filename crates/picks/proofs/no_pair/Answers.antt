-- `picks::no_pair` meets its contract: the higher links of cables are closed, and all else is 0.
use Prim.Native.Nat.{ℕ, ◌*◌}
use mathlib.Core.Path.{ap}
use mathlib.Core.List.{List}
use lib.ListN.{replicate}
use Rattle.scope.specs.Limits.{most_cuts, most_links}
use Rattle.picks.specs.declared.Picked.{Picked}
use Rattle.picks.proofs.no_pair.Goals as goal

pub returns : goal.returns
returns c =
    let with : List ℕ → Picked =
    λ closed. record { count = 0; slot = 0; link = 0; numbers = replicate (2 * most_cuts) 0; down = replicate most_links 0; closed = closed } in
    ap with c.higher-closed.ensures
