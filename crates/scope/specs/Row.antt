-- What a row of numbers says about its form: refusals 1 to 4, "2 and 3 by the first one met from the front".
use Rattle.std.specs.Prelude.{ℕ, ◌+◌, ◌^◌, cond, List, [], ◌∷◌, ltb, eqb}
use Rattle.scope.specs.declared.Fields.{Fields}
use Rattle.scope.specs.Outcome.{Outcome, gives, refuse}
use Rattle.scope.specs.Fields.{width, step, opening, edition}

-- from the number at index i on: where the fields end, or the first refusal met
unfoldable pub walk_from : Fields → ℕ → List ℕ → Outcome
walk_from s i [] = cond (eqb (width s) 0) (gives i) (refuse 2 i)
walk_from s i (v ∷ vs) =
    cond (eqb (width s) 0) (refuse 4 i)
    (cond (ltb v (2 ^ width s)) (walk_from (step s v) (i + 1) vs) (refuse 3 i))

-- refusals 1 to 4 of a row, or how many numbers it has
unfoldable pub walk_row : List ℕ → Outcome
walk_row [] = refuse 2 0
walk_row (v ∷ vs) = cond (eqb v edition) (walk_from opening 1 vs) (refuse 1 0)
