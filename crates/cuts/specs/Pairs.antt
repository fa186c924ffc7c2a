-- A pair of a list; and a bad one, for a timeout, a number of links and their other ways.
use Rattle.std.specs.Prelude.{ℕ, ◌+◌, ◌*◌, ◌≡◌, Bool, not, ◌||◌, List, length, ltb, eqb}
use Rattle.scope.specs.Lowest.{some}
use Rattle.scope.specs.Cuts.{cut_slot, cut_link, falls}
use Rattle.cables.specs.Others.{other_in}
use Rattle.cuts.specs.declared.Pair.{Pair}

-- p is pair i
pub record IsPair (cuts : List ℕ) (i : ℕ) (p : Pair) : Type 0 where
  pub slot : p.slot ≡ cut_slot cuts i
  pub link : p.link ≡ cut_link cuts i

-- pair i names a link that an earlier pair names
abbrev pub is_twice : List ℕ → ℕ → Bool
is_twice cuts i = some (λ j. eqb (cut_link cuts j) (cut_link cuts i)) i

-- pair i is bad in a plan of this timeout and so many links, with these other ways
abbrev pub is_bad : ℕ → ℕ → List ℕ → List ℕ → ℕ → Bool
is_bad timeout links others cuts i =
    eqb (length cuts) (2 * i + 1) ||
    not (ltb (cut_slot cuts i) timeout) ||
    not (ltb (cut_link cuts i) links) ||
    falls cuts i ||
    is_twice cuts i ||
    ltb (other_in others (cut_link cuts i)) (cut_link cuts i)
