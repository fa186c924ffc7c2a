-- The walk in the code's own terms: what it may be asked, and what it tells of the lists that match a table of crossings.
use Rattle.std.specs.Prelude.{ℕ, ◌+◌, ◌-◌, ◌*◌, ◌≤◌, ◌<◌, ◌≡◌, Bool, true, false, not, ◌&&◌, ◌||◌, ◌⊎◌, List, [], ◌∷◌, ◌++◌, Option, MatchOption, length, get_or, take, leb}
use Rattle.scope.specs.Limits.{most_links, most_cuts, crossed_size}
use Rattle.scope.specs.Outcome.{gives}
use Rattle.scope.specs.Rules.{rules}
use Rattle.scope.specs.Plan.{plan_of}
use Rattle.scope.specs.Cuts.{pairs}
use Rattle.scope.specs.Verdict.{First}
use Rattle.cables.specs.Others.{other_in}
use Rattle.cuts.specs.Down.{is_down}
use Rattle.step.specs.declared.Standing.{Standing}
use Rattle.order.specs.Search.{code, Not, NoneOf, FirstOf, NoneIn, FirstFrom}
use Rattle.capture.specs.Kept.{crossed_at}
use Rattle.picks.specs.declared.Sizes.{Sizes}
use Rattle.picks.specs.declared.Picked.{Picked}
use Rattle.picks.specs.Picks.{cuts_of, Playable, Holding, StandAt}
use Rattle.clues.specs.declared.Suspicion.{Suspicion}
use Rattle.clues.specs.Clues.{MatchesBefore, Matches, MaySuspect, Names}
use Rattle.explaining.specs.declared.Hunted.{Hunted}

-- a link that nobody crosses in slot s or later, one way or the other, by the slots noted for each link
abbrev pub is_unseen : List ℕ → ℕ → ℕ → Bool
is_unseen last s e = leb (get_or last e 0) s

-- a link that is to be tried in slot s: not yet named, not crossed from there on and, where all that are to be cut are named, one of them
abbrev pub is_open : List ℕ → List ℕ → List ℕ → Bool → ℕ → ℕ → Bool
is_open closed named last all s e = not (is_down closed e) && (is_unseen last s e && (not all || is_down named e))

-- the table has link e or its other way crossed by a message, in slot s or later
pub record SeenFrom (crossed : List ℕ) (z : Sizes) (s e : ℕ) : Type 0 where
  pub link : ℕ
  pub slot : ℕ
  pub message : ℕ
  pub from : s ≤ slot
  pub early : slot < z.timeout
  pub there : message < z.messages
  pub crosses : crossed_at crossed slot message ≡ link + 1
  pub cable : (link ≡ e) ⊎ (other_in z.others link ≡ e)

-- for each link one more than a slot in which the table has its cable crossed, or 0; that it is the last such slot is only for speed
pub record Lasts (crossed : List ℕ) (z : Sizes) (last : List ℕ) : Type 0 where
  pub size : length last ≡ most_links
  pub seen : (s e : ℕ) → s < get_or last e 0 → SeenFrom crossed z s e

-- n pairs more may be sought: what the table says of them is known, and where each link was seen crossed
pub record MaySeek (row table crossed : List ℕ) (z : Sizes) (ps : Standing) (p : Picked) (n : ℕ) (v : Suspicion) (last : List ℕ) : Type 0 where
  pub suspect : MaySuspect row table crossed z ps p
  pub few : p.count + n ≤ most_cuts
  pub told : Names row crossed p n v
  pub lasts : Lasts crossed z last

-- the first of them in slot s, from link e on; and where all is true, no list that matches goes on with a link that is not named
pub record MaySeekIn (row table crossed : List ℕ) (z : Sizes) (ps : Standing) (p : Picked) (n : ℕ) (named last : List ℕ) (all : Bool)
    (s e : ℕ) : Type 0 where
  pub good : rules (plan_of row) ≡ gives 0
  pub play : Playable row table z
  pub holding : Holding row z p
  pub stand : StandAt row z.messages (cuts_of p) s ps
  pub before : MatchesBefore (plan_of row) crossed (cuts_of p) s
  pub size : length crossed ≡ crossed_size
  pub lasts : Lasts crossed z last
  pub few : p.count + n ≤ most_cuts
  pub some : 0 < n
  pub early : s < z.timeout
  pub link : e ≤ z.links
  pub later : code p.slot p.link ≤ code s e
  pub only : all ≡ true → (a b : ℕ) (x : List ℕ) → length x + 2 ≡ 2 * n → is_down named b ≡ false →
      Not (plan_of row) (Matches (plan_of row) crossed) (cuts_of p ++ a ∷ b ∷ x)

-- a list of c pairs of which so much is known, with zeros after it
pub record Lists (First : List ℕ → Type 0) (c : ℕ) (numbers : List ℕ) : Type 0 where
  pub long : length numbers ≡ 2 * most_cuts
  pub first : First (take (2 * c) numbers)
  pub past : (i : ℕ) → 2 * c ≤ i → get_or numbers i 0 ≡ 0

-- what was found of all lists with n pairs more
abbrev pub Sought : List ℕ → List ℕ → Picked → ℕ → Option (List ℕ) → Type 0
Sought row crossed p n r =
    MatchOption r (NoneOf (plan_of row) (Matches (plan_of row) crossed) (cuts_of p) n)
    (Lists (FirstOf (plan_of row) (Matches (plan_of row) crossed) (cuts_of p) n) (p.count + n))

-- and of those whose next pair is in one slot
abbrev pub SoughtIn : List ℕ → List ℕ → Picked → ℕ → ℕ → ℕ → Option (List ℕ) → Type 0
SoughtIn row crossed p n s e r =
    MatchOption r (NoneIn (plan_of row) (Matches (plan_of row) crossed) (cuts_of p) (n - 1) (code s e) (code (s + 1) 0))
    (Lists (FirstFrom (plan_of row) (Matches (plan_of row) crossed) (cuts_of p) (n - 1) (code s e)) (p.count + n))

-- lists of at most k pairs may be sought
pub record MayHunt (row table crossed : List ℕ) (z : Sizes) (ps : Standing) (k : ℕ) : Type 0 where
  pub good : rules (plan_of row) ≡ gives 0
  pub play : Playable row table z
  pub stand : StandAt row z.messages [] 0 ps
  pub size : length crossed ≡ crossed_size
  pub few : k ≤ most_cuts

-- the first list of at most k pairs that matches has so many; zeros in every other place
pub record IsFirst (row crossed : List ℕ) (k : ℕ) (r : Hunted) : Type 0 where
  pub few : r.pairs ≤ k
  pub list : Lists (First (plan_of row) (Matches (plan_of row) crossed) k) r.pairs r.numbers

-- none of them matches, or this is the first one that does
abbrev pub Hunts : List ℕ → List ℕ → ℕ → Option Hunted → Type 0
Hunts row crossed k r =
    MatchOption r ((cuts : List ℕ) → pairs cuts ≤ k → Not (plan_of row) (Matches (plan_of row) crossed) cuts) (λ h. IsFirst row crossed k h)
