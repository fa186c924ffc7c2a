-- What a search over the lists that extend a given one says, whatever it seeks: `Answers cuts` says that a list is sought. Two questions
-- are asked so: which list leaves too few arrivals, and which explains a capture. A pair has a code, and codes rise as pairs do: by slot,
-- then by link.
use Rattle.std.specs.Prelude.{ℕ, ◌+◌, ◌*◌, ◌≤◌, ◌<◌, ◌≡◌, true, List, ◌∷◌, ◌++◌, length}
use Rattle.scope.specs.Limits.{most_links}
use Rattle.scope.specs.Plan.{Plan}
use Rattle.scope.specs.Cuts.{cut_slot, cut_link, is_cut_list}
use Rattle.scope.specs.Verdict.{earlier}

abbrev pub code : ℕ → ℕ → ℕ
code s e = s * most_links + e

abbrev pub code_at : List ℕ → ℕ → ℕ
code_at cuts j = code (cut_slot cuts j) (cut_link cuts j)

-- no pair of the first n is in a slot before s
abbrev pub NotBefore : ℕ → List ℕ → ℕ → Type 0
NotBefore s cuts n = (j : ℕ) → j < n → s ≤ cut_slot cuts j

-- d pairs are chosen, and the next one has code `lo` or a higher one
pub record Chosen (plan : Plan) (pre : List ℕ) (d lo : ℕ) : Type 0 where
  pub long : length pre ≡ 2 * d
  pub good : is_cut_list plan pre ≡ true
  pub none : d ≡ 0 → lo ≡ 0
  pub next : (j : ℕ) → j + 1 ≡ d → code_at pre j + 1 ≡ lo

module _ (plan : Plan) (Answers : List ℕ → Type 0) where
  -- a list that is none, or none that answers
  abbrev pub Not : List ℕ → Type 0
  Not cuts = is_cut_list plan cuts ≡ true → Answers cuts → ⊥

  module _ (pre : List ℕ) where
    -- no list of n pairs more answers
    abbrev pub NoneOf : ℕ → Type 0
    NoneOf n = (x : List ℕ) → length x ≡ 2 * n → Not (pre ++ x)

    -- r is the first list of n pairs more that does
    pub record FirstOf (n : ℕ) (r : List ℕ) : Type 0 where
      pub rest : List ℕ
      pub is : r ≡ pre ++ rest
      pub long : length rest ≡ 2 * n
      pub good : is_cut_list plan r ≡ true
      pub answers : Answers r
      pub first : (x : List ℕ) → length x ≡ 2 * n → earlier (pre ++ x) r ≡ true → Not (pre ++ x)

    -- the same of the lists whose first pair has a code from `lo` on, and below `hi`; k pairs come after it
    abbrev pub NoneIn : ℕ → ℕ → ℕ → Type 0
    NoneIn k lo hi = (a b : ℕ) (x : List ℕ) → length x ≡ 2 * k → lo ≤ code a b → code a b < hi → Not (pre ++ a ∷ b ∷ x)

    pub record FirstFrom (k lo : ℕ) (r : List ℕ) : Type 0 where
      pub slot : ℕ
      pub link : ℕ
      pub rest : List ℕ
      pub is : r ≡ pre ++ slot ∷ link ∷ rest
      pub long : length rest ≡ 2 * k
      pub good : is_cut_list plan r ≡ true
      pub answers : Answers r
      pub first : (a b : ℕ) (x : List ℕ) → length x ≡ 2 * k → lo ≤ code a b → earlier (pre ++ a ∷ b ∷ x) r ≡ true → Not (pre ++ a ∷ b ∷ x)
