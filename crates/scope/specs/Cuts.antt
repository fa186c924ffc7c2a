-- "A cut list is a row of pairs slot, link": refusal 12, and when a link is cut. A pair cuts a cable, which specs/Cables has.
use Rattle.std.specs.Prelude.{ℕ, ◌+◌, ◌-◌, ◌*◌, ◌/◌, Bool, not, ◌&&◌, ◌||◌, List, length, get_or, ltb, leb, eqb}
use Rattle.scope.specs.Lowest.{some}
use Rattle.scope.specs.Outcome.{Outcome, gives, unless_some}
use Rattle.scope.specs.Plan.{Plan}
use Rattle.scope.specs.Cables.{other_way, is_higher}

-- how many pairs there are: "an odd last number counts as a bad pair"
abbrev pub pairs : List ℕ → ℕ
pairs cuts = (length cuts + 1) / 2

abbrev pub cut_slot : List ℕ → ℕ → ℕ
cut_slot cuts i = get_or cuts (2 * i) 0

abbrev pub cut_link : List ℕ → ℕ → ℕ
cut_link cuts i = get_or cuts (2 * i + 1) 0

-- "by slot, then by link": the pair a, b comes before the pair c, d
abbrev pub pair_before : ℕ → ℕ → ℕ → ℕ → Bool
pair_before a b c d = ltb a c || (eqb a c && ltb b d)

-- "pairs rising strictly": pair i does not come after the one before it
abbrev pub falls : List ℕ → ℕ → Bool
falls cuts i = ltb 0 i && not (pair_before (cut_slot cuts (i - 1)) (cut_link cuts (i - 1)) (cut_slot cuts i) (cut_link cuts i))

-- "slots below t, links below E, pairs rising strictly (by slot, then by link), no link twice": pair i breaks one of these
abbrev pub bad_link_pair : Plan → List ℕ → ℕ → Bool
bad_link_pair plan cuts i =
    eqb (length cuts) (2 * i + 1) ||
    not (ltb (cut_slot cuts i) plan.timeout) ||
    not (ltb (cut_link cuts i) (length plan.links)) ||
    falls cuts i ||
    some (λ j. eqb (cut_link cuts j) (cut_link cuts i)) i

-- or it is "a pair that names the higher link"
abbrev pub bad_pair : Plan → List ℕ → ℕ → Bool
bad_pair plan cuts i = bad_link_pair plan cuts i || is_higher plan (cut_link cuts i)

-- refusal 12, with the "index of first bad pair", or how many pairs there are
unfoldable pub check_cuts : Plan → List ℕ → Outcome
check_cuts plan cuts = unless_some 12 (bad_pair plan cuts) (pairs cuts) (gives (pairs cuts))

-- a list without a bad pair
abbrev pub is_cut_list : Plan → List ℕ → Bool
is_cut_list plan cuts = not (some (bad_pair plan cuts) (pairs cuts))

-- "a pair cuts the named link and the link with the same ends reversed, if the plan has one": one that names link d cuts link e
unfoldable pub cuts_link : Plan → ℕ → ℕ → Bool
cuts_link plan d e = eqb d e || eqb (other_way plan d) e

-- "A link is cut in its slot and every later one"
unfoldable pub is_cut : Plan → List ℕ → ℕ → ℕ → Bool
is_cut plan cuts i e = some (λ j. cuts_link plan (cut_link cuts j) e && leb (cut_slot cuts j) i) (pairs cuts)
