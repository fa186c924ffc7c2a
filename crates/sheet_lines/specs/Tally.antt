-- The two sums for each k, as they are kept while plans are taken one by one.
use Rattle.std.specs.Prelude.{ℕ, ◌+◌, ◌*◌, ◌^◌, ◌≤◌, ◌<◌, ◌≡◌, List, [], ◌∷◌, ◌++◌, length, get_or}
use Rattle.scope.specs.Limits.{most_cuts, most_messages}
use Rattle.scope.specs.Shelf.{Rated, unharmed, loss_sum}
use Rattle.sheet_lines.specs.declared.Sums.{Sums}
use Rattle.sheet_lines.specs.declared.Tally.{Tally}

-- how many k there are
abbrev pub sums : ℕ
sums = 1 + most_cuts

-- a plan by its number of messages and its figures
abbrev pub rated : ℕ → List ℕ → Rated
rated m fs = record { messages = m; figures = fs }

-- the sums for k
abbrev pub no_sums : Sums
no_sums = record { unharmed = 0; lost = 0 }

abbrev pub sums_at : Tally → ℕ → Sums
sums_at t k = get_or t.sums k no_sums

-- the sums are those of these plans, none of which can lose more messages than a plan has
pub record Tallies (ps : List Rated) (t : Tally) : Type 0 where
  pub size : length t.sums ≡ sums
  pub counts : (k : ℕ) → k < sums → (sums_at t k).unharmed ≡ unharmed k ps
  pub losses : (k : ℕ) → k < sums → (sums_at t k).lost ≡ loss_sum k ps
  pub small : (k : ℕ) → k < sums → loss_sum k ps ≤ most_messages * length ps

-- a plan can be added to the sums: they are those of so few plans that no sum outgrows 64 bits
pub record MayAdd (t : Tally) (messages : ℕ) (figures : List ℕ) : Type 0 where
  pub plans : List Rated
  pub tallies : Tallies plans t
  pub few : length plans < 2 ^ 32
  pub most : messages ≤ most_messages
  pub short : length figures ≤ sums

-- a plan was added: of whichever plans the sums were, now it is one of them
abbrev pub Adds : Tally → Rated → Tally → Type 0
Adds t p r = (ps : List Rated) → Tallies ps t → Tallies (ps ++ (p ∷ [])) r
