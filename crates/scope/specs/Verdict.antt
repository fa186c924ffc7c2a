-- "Verdict": resistant, the order of lists, the first list that answers a question, and the first failing list. Nothing here says how they
-- are found.
use Rattle.std.specs.Prelude.{ℕ, ◌<◌, ◌≤◌, ◌≡◌, Bool, true, false, ◌&&◌, ◌||◌, List, [], ◌∷◌, ltb, eqb}
use Rattle.scope.specs.Plan.{Plan}
use Rattle.scope.specs.Cuts.{pairs, is_cut_list}
use Rattle.scope.specs.Cycle.{arrivals}

-- "the plan is resistant exactly if every cut list of at most k pairs gives at least l arrivals"
unfoldable pub Resistant : Plan → ℕ → ℕ → Type 0
Resistant plan k l = (cuts : List ℕ) → is_cut_list plan cuts ≡ true → pairs cuts ≤ k → l ≤ arrivals plan cuts

-- "the order of its numbers from the left"
unfoldable pub earlier : List ℕ → List ℕ → Bool
earlier [] [] = false
earlier [] (d ∷ ds) = true
earlier (c ∷ cs) [] = false
earlier (c ∷ cs) (d ∷ ds) = ltb c d || (eqb c d && earlier cs ds)

-- "with the fewest pairs and, among those, the first in the order of its numbers from the left": cuts goes before others
unfoldable pub goes_before : List ℕ → List ℕ → Bool
goes_before cuts others = ltb (pairs cuts) (pairs others) || (eqb (pairs cuts) (pairs others) && earlier cuts others)

-- the answer of a question that is asked of lists: of the cut lists of at most k pairs that answer it the one that goes before all others
pub record First (plan : Plan) (Answers : List ℕ → Type 0) (k : ℕ) (cuts : List ℕ) : Type 0 where
  pub good : is_cut_list plan cuts ≡ true
  pub few : pairs cuts ≤ k
  pub answers : Answers cuts
  pub first : (others : List ℕ) → is_cut_list plan others ≡ true → Answers others → goes_before others cuts ≡ false

-- a list that leaves fewer than l arrivals
abbrev pub Fails : Plan → ℕ → List ℕ → Type 0
Fails plan l cuts = arrivals plan cuts < l

-- "the failing list" that is the answer
abbrev pub FirstFailing : Plan → ℕ → ℕ → List ℕ → Type 0
FirstFailing plan k l = First plan (Fails plan l) k
