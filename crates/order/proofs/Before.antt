-- The order of lists, under a common beginning and by the first pair after it.
use Prim.Native.Nat.{ℕ, ◌<◌}
use native.Mathlib.Omega.{arith}
use mathlib.Core.Path.{◌≡◌, refl}
use mathlib.Core.Bool.{Bool, true, false, ◌&&◌, ◌||◌}
use mathlib.Core.List.{List, [], ◌∷◌, ◌++◌}
use lib.Dec.{ltb, eqb}
use borrow.Author.Tests.{le-ltb, eq-eqb, ne_eqb, eqb-true}
use Rattle.scope.specs.Limits.{most_links}
use Rattle.scope.specs.Verdict.{earlier}
use Rattle.order.specs.Search.{code}

pub earlier_under : (pre x y : List ℕ) → earlier (pre ++ x) (pre ++ y) ≡ earlier x y
unfolding earlier
earlier_under [] x y = refl
earlier_under (c ∷ pre) x y = rw (le-ltb c c (omega arith), eq-eqb c c refl) (earlier_under pre x y)

-- a pair with a higher code does not come earlier
pub not_earlier : (a b c d : ℕ) (x y : List ℕ) → b < most_links → d < most_links → code c d < code a b → earlier (a ∷ b ∷ x) (c ∷ d ∷ y) ≡ false
unfolding earlier
not_earlier a b c d x y hb hd h = by (eqb a c) refl
  where
    by : (t : Bool) → eqb a c ≡ t → (ltb a c || (t && (ltb b d || (eqb b d && earlier x y)))) ≡ false
    by true e =
        let s : a ≡ c = eqb-true a c e in
        rw (le-ltb a c (omega arith), le-ltb b d (omega arith), ne_eqb b d (λ z. omega arith))
    by false e = rw (le-ltb a c (omega arith))
