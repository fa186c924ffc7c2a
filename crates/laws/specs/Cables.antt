-- Document 02, [3]: a link is cut exactly if its cable is, so "no link of the second path is down" and "no cable of the second path is cut" say
-- the same, and so for a first path.
use Rattle.std.specs.Prelude.{ℕ, ◌<◌, ◌≡◌, true, List, length}
use Rattle.scope.specs.Outcome.{gives}
use Rattle.scope.specs.Plan.{Plan}
use Rattle.scope.specs.Rules.{rules}
use Rattle.scope.specs.Cables.{other_way}
use Rattle.scope.specs.Cuts.{is_cut_list, is_cut}

abbrev pub CutBothWays : Type 0
CutBothWays =
    (plan : Plan) (cuts : List ℕ) → rules plan ≡ gives 0 → is_cut_list plan cuts ≡ true → (i e : ℕ) → e < length plan.links →
    is_cut plan cuts i (other_way plan e) ≡ is_cut plan cuts i e
