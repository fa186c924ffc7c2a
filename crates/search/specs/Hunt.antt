-- The search in the code's own terms: what is asked, the pairs picked so far, and what was found.
use Rattle.std.specs.Prelude.{ℕ, ◌+◌, ◌-◌, ◌*◌, ◌≤◌, ◌<◌, ◌≡◌, false, Option, MatchOption, List, [], length, get_or, take}
use Rattle.scope.specs.Limits.{most_cuts}
use Rattle.scope.specs.Plan.{plan_of}
use Rattle.scope.specs.Verdict.{Fails, FirstFailing}
use Rattle.scope.specs.Cycle.{arrivals}
use Rattle.cuts.specs.Down.{is_down}
use Rattle.picks.specs.Picks.{cuts_of}
use Rattle.order.specs.Search.{code, NoneOf, FirstOf, NoneIn, FirstFrom}
use Rattle.risks.specs.declared.Rest.{Rest}
use Rattle.risks.specs.Weighed.{Leaves}
use Rattle.board.specs.declared.Board.{Board}
use Rattle.board.specs.declared.Walk.{Walk}
use Rattle.bound.specs.Bounds.{Bounds}
use Rattle.board.specs.Lent.{Laid}
use Rattle.board.specs.Walks.{Walks}
use Rattle.search.specs.declared.Asked.{Asked}
use Rattle.picks.specs.declared.Picked.{Picked}
use Rattle.search.specs.declared.Found.{Found}

-- what is sought: of the search's words this alone knows the question
abbrev pub Seeks : List ℕ → Asked → List ℕ → Type 0
Seeks row a cuts = Fails (plan_of row) a.least cuts

-- the board is right, and a list that is sought must weigh so much
pub record Ready (row : List ℕ) (board : Board) (a : Asked) : Type 0 where
  pub laid : Laid row board
  pub small : a.need ≤ 65536
  pub bounds : Bounds (plan_of row) (Seeks row a) a.need board.weights board.most

-- n pairs more may be sought
pub record MaySeek (row : List ℕ) (board : Board) (a : Asked) (walk : Walk) (n : ℕ) : Type 0 where
  pub ready : Ready row board a
  pub walks : Walks row board walk.picked.slot walk
  pub few : walk.picked.count + n ≤ most_cuts

-- the pair of slot s and link e may be picked as the first of n pairs more
pub record MayGoOn (row : List ℕ) (board : Board) (a : Asked) (walk : Walk)
    (n s e : ℕ) : Type 0 where
  pub ready : Ready row board a
  pub walks : Walks row board s walk
  pub few : walk.picked.count + n ≤ most_cuts
  pub some : 0 < n
  pub early : s < board.sizes.timeout
  pub link : e < board.sizes.links
  pub later : code walk.picked.slot walk.picked.link ≤ code s e
  pub free : is_down walk.picked.closed e ≡ false

-- in one slot, from a link on, where so much can be lost besides the pair of that slot
pub record MaySeekIn (row : List ℕ) (board : Board) (a : Asked) (walk : Walk) (n s e : ℕ) (rest : Rest) : Type 0 where
  pub ready : Ready row board a
  pub leaves : Leaves row (cuts_of walk.picked) board.most s (n - 1) rest
  pub walks : Walks row board s walk
  pub few : walk.picked.count + n ≤ most_cuts
  pub some : 0 < n
  pub early : s < board.sizes.timeout
  pub link : e ≤ board.sizes.links
  pub later : code walk.picked.slot walk.picked.link ≤ code s e

-- the list of what was found
abbrev pub list_of : Found → List ℕ
list_of f = take (2 * f.pairs) f.numbers

-- its arrivals, and zeros after it
pub record Told (row : List ℕ) (f : Found) : Type 0 where
  pub long : length f.numbers ≡ 2 * most_cuts
  pub left : f.arrivals ≡ arrivals (plan_of row) (list_of f)
  pub past : (i : ℕ) → 2 * f.pairs ≤ i → get_or f.numbers i 0 ≡ 0

-- a list of c pairs, of which so much is known
pub record Tells (row : List ℕ) (First : List ℕ → Type 0) (c : ℕ) (f : Found) : Type 0 where
  pub told : Told row f
  pub count : f.pairs ≡ c
  pub first : First (list_of f)

-- what was found of all lists with n pairs more: none answers, or the first that does
abbrev pub Sought : List ℕ → Asked → Picked → ℕ → Option Found → Type 0
Sought row a p n r =
    MatchOption r (NoneOf (plan_of row) (Seeks row a) (cuts_of p) n)
    (Tells row (FirstOf (plan_of row) (Seeks row a) (cuts_of p) n) (p.count + n))

-- and of those whose next pair is in one slot
abbrev pub SoughtIn : List ℕ → Asked → Picked → ℕ → ℕ → ℕ → Option Found → Type 0
SoughtIn row a p n s e r =
    MatchOption r (NoneIn (plan_of row) (Seeks row a) (cuts_of p) (n - 1) (code s e) (code (s + 1) 0))
    (Tells row (FirstFrom (plan_of row) (Seeks row a) (cuts_of p) (n - 1) (code s e)) (p.count + n))

-- lists of at most k pairs may be sought, where those of fewer than `low` are known not to answer
pub record MayHunt (row : List ℕ) (board : Board) (a : Asked) (low k : ℕ) : Type 0 where
  pub ready : Ready row board a
  pub few : k ≤ most_cuts
  pub within : low ≤ k + 1
  pub before : (i : ℕ) → i < low → NoneOf (plan_of row) (Seeks row a) [] i

-- a list fails that is the first, leaves so many arrivals, and has zeros behind it; none of fewer pairs fails
pub record Hunted (row : List ℕ) (l k : ℕ) (f : Found) : Type 0 where
  pub told : Told row f
  pub few : f.pairs ≤ k
  pub first : FirstFailing (plan_of row) k l (list_of f)
  pub fewer : (i : ℕ) → i < f.pairs → NoneOf (plan_of row) (Fails (plan_of row) l) [] i

-- no list of at most k pairs fails, or the first one that does is found
abbrev pub Hunts : List ℕ → ℕ → ℕ → Option Found → Type 0
Hunts row l k r = MatchOption r ((i : ℕ) → i < k + 1 → NoneOf (plan_of row) (Fails (plan_of row) l) [] i) (Hunted row l k)
