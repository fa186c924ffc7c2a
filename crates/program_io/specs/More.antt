-- What one read behind the first bytes of a buffer gives: a count that lies within the rest.
use Rattle.std.specs.Prelude.{ℕ, ◌+◌, ◌≤◌, List, length, min, Result, Ok, Err, Option, Some, None}

-- what the answer of a read says that was handed so many bytes: an error is never an end
unfoldable pub says : {E : Type 0} → Result ℕ E → ℕ → Option ℕ
says (Ok k) most = Some (min k most)
says (Err e) most = None

abbrev pub More : {E : Type 0} → Result ℕ E → ℕ → List ℕ → Type 0
More (Ok n) from buffer = from + n ≤ length buffer
More (Err e) from buffer = Unit {0}
