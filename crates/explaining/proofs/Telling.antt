-- What the walk tells: a list that is the first of more.
use Prim.Native.Nat.{ℕ, ◌*◌}
use mathlib.Core.Path.{◌≡◌, subst}
use mathlib.Core.List.{List}
use lib.ListN.{take}
use Rattle.explaining.specs.Walk.{Lists}

-- a list of so many pairs is one of as many, and what is known of it may be said otherwise
pub lists_more : (First First' : List ℕ → Type 0) (c d : ℕ) (numbers : List ℕ) → c ≡ d →
    (First (take (2 * d) numbers) → First' (take (2 * d) numbers)) → Lists First c numbers → Lists First' d numbers
lists_more First First' c d numbers e more f =
    let g : Lists First d numbers = subst (λ (n : ℕ). Lists First n numbers) e f in
    record { long = g.long; first = more g.first; past = g.past }
