-- The line of a list: its parts, and how many bytes it has.
use Prim.Native.Nat.{ℕ, suc, ◌*◌, ◌≤◌, ◌<◌}
use mathlib.Core.List.{List, [], ◌∷◌, ◌++◌}
use native.Mathlib.Omega.{arith}
use lib.ListN.{length, get_or, length-append}
use Rattle.scope.specs.Lines.{decimal, spaced, parted, line_feed}
use Rattle.text.specs.Text.{Told}
use Rattle.text.proofs.Decimal.{decimal-all, decimal-most}
use Rattle.explain_text.specs.Text.{list_line}

-- whatever its numbers are
spaced-size : (ns : List ℕ) → length (spaced ns) ≤ 21 * length ns
unfolding spaced
spaced-size [] = omega arith
spaced-size (n ∷ ns) =
    let d = decimal-all n in
    let r = spaced-size ns in
    simp length-append (omega arith)

pub line-size : (cuts : List ℕ) → length cuts ≤ 4 → length (list_line cuts) ≤ 105
unfolding parted
line-size [] h = omega arith
line-size (n ∷ ns) h =
    let d = decimal-all n in
    let r = spaced-size ns in
    let a = length-append (decimal n) (spaced ns) in
    let b = length-append (decimal n ++ spaced ns) line_feed in
    omega arith

pub line-told : (cuts : List ℕ) → length cuts ≤ 4 → Told 0 (list_line cuts)
line-told cuts h = record { fits = omega (arith, line-size cuts h) }

-- numbers of at most two digits
spaced-small : (ns : List ℕ) → ((i : ℕ) → i < length ns → get_or ns i 0 < 100) → length (spaced ns) ≤ 3 * length ns
unfolding spaced
spaced-small [] small = omega arith
spaced-small (n ∷ ns) small =
    let d = decimal-most n 1 (small 0 (omega arith)) in
    let r = spaced-small ns (λ i h. small (suc i) (omega arith)) in
    simp length-append (omega arith)

pub line_small : (cuts : List ℕ) → length cuts ≤ 4 → ((i : ℕ) → i < length cuts → get_or cuts i 0 < 100) → length (list_line cuts) ≤ 12
unfolding parted
line_small [] h small = omega arith
line_small (n ∷ ns) h small =
    let d = decimal-most n 1 (small 0 (omega arith)) in
    let r = spaced-small ns (λ i g. small (suc i) (omega arith)) in
    let a = length-append (decimal n) (spaced ns) in
    let b = length-append (decimal n ++ spaced ns) line_feed in
    omega arith
