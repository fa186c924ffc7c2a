-- "Asked for a second path by message and place, the library shows that part of the row itself, its links only."
use Rattle.std.specs.Prelude.{ℕ, ◌+◌, Bool, cond, ◌&&◌, List, [], take, drop, ltb, eqb}
use Rattle.scope.specs.Outcome.{Outcome, number}
use Rattle.scope.specs.Plan.{message_count, first_message, after_messages, after_places, place_count, flagged, second_start, second_count}

-- where message m, and where place p of it, stand in a row
abbrev pub message_index : List ℕ → ℕ → ℕ
message_index row m = after_messages row (first_message row) m

abbrev pub place_index : List ℕ → ℕ → ℕ → ℕ
place_index row m p = after_places row (message_index row m + 1) p

-- there is such a message, such a place, and a second path from it
abbrev pub has_second : List ℕ → ℕ → ℕ → Bool
has_second row m p =
    ltb m (message_count row) && ltb p (place_count row (message_index row m)) && flagged row (place_index row m p)

-- the part that is shown. "A bad row, a message or place that doesn't exist or a place without a second path gives a part of length 0"
unfoldable pub shown : Outcome → List ℕ → ℕ → ℕ → List ℕ
shown judged row m p =
    cond (eqb (number judged) 0 && has_second row m p)
    (take (second_count row (place_index row m p)) (drop (second_start (place_index row m p)) row))
    []
