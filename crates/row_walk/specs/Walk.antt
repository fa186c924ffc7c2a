-- A part of a walk over a row: what it refuses, or where it ends and which field is next there.
use Rattle.std.specs.Prelude.{ℕ, zero, suc, ◌+◌, ◌^◌, ◌≤◌, ◌<◌, ◌≡◌, cond, List, [], ◌∷◌, ltb, length, drop}
use Rattle.scope.specs.declared.Field.{Field}
use Rattle.scope.specs.Outcome.{Outcome, gives, refuse, and_then}
use Rattle.scope.specs.Fields.{opening}
use Rattle.scope.specs.Row.{walk_from}

-- n fields of w bits, from the number at index i on: the first refusal met, or the index after them
unfoldable pub fields_from : ℕ → ℕ → ℕ → List ℕ → Outcome
fields_from w zero i vs = gives i
fields_from w (suc n) i [] = refuse 2 i
fields_from w (suc n) i (v ∷ vs) = cond (ltb v (2 ^ w)) (fields_from w n (i + 1) vs) (refuse 3 i)

-- r is where n numbers from index i on end in a list of that length: after them, or at the end of the list
pub record Stops (long i n r : ℕ) : Type 0 where
  pub from : i ≤ r
  pub inside : r ≤ long
  pub most : r ≤ i + n
  pub short : r < i + n → r ≡ long

-- what is left of a row from index i on, where the next field is f
abbrev pub rest_of : List ℕ → Field → ℕ → Outcome
rest_of row f i = walk_from (record { slot = opening.slot; next = f }) i (drop i row)

-- o is what the walk from field f at index i finds, up to where field g is next, with p places and m messages still to come after these
pub record Passes (row : List ℕ) (f g : ℕ → ℕ → Field) (i : ℕ) (o : Outcome) : Type 0 where
  pub same : (p m : ℕ) → rest_of row (f p m) i ≡ and_then o (rest_of row (g p m))
  pub inside : (j : ℕ) → o ≡ gives j → j ≤ length row
