-- What the breaker's turn, a pick of his and the network's turn promise each other: the least number of arrivals from there on, if it is below
-- the least that is known, said both ways.
use Rattle.std.specs.Prelude.{ℕ, ◌+◌, ◌-◌, ◌*◌, ◌≤◌, ◌<◌, ◌≡◌, Bool, true, false, cond, List, ◌∷◌, ◌++◌, length, ltb, eqb}
use Rattle.scope.specs.Limits.{most_cuts}
use Rattle.scope.specs.Plan.{Plan, plan_of}
use Rattle.scope.specs.Cuts.{pairs, is_cut_list}
use Rattle.scope.specs.Cycle.{arrivals}
use Rattle.scope.specs.Lowest.{seek}
use Rattle.scope.specs.Verdict.{Fails}
use Rattle.order.specs.Search.{code, Not}
use Rattle.cuts.specs.Down.{is_down}
use Rattle.step.specs.declared.Standing.{Standing}
use Rattle.picks.specs.declared.Picked.{Picked}
use Rattle.picks.specs.Picks.{cuts_of, Holding, StandAt}
use Rattle.risks.specs.declared.Hits.{Hits}
use Rattle.risks.specs.Weighed.{AreAway, Covers}
use Rattle.board.specs.declared.Board.{Board}
use Rattle.board.specs.Lent.{Lent}

-- what a list must lose to leave fewer than so many arrivals; more than there can be where that is none
abbrev pub needed_for : ℕ → ℕ → ℕ
needed_for messages least = cond (eqb least 0) 65536 (messages + 1 - least)

-- the first link of slot s that is worth a cut, or how many links there are; none is worth one where no pair may be picked
abbrev pub first_worth : ℕ → (ℕ → Bool) → ℕ → ℕ
first_worth n worth links = cond (eqb n 0) links (seek worth (links - 0) 0)

-- how many pairs are worth picking
abbrev pub worth_picking : ℕ → ℕ → ℕ → ℕ
worth_picking n f links = cond (ltb f links) n 0

-- a list of at most k pairs leaves exactly f arrivals
pub record Reached (plan : Plan) (k f : ℕ) : Type 0 where
  pub list : List ℕ
  pub good : is_cut_list plan list ≡ true
  pub few : pairs list ≤ k
  pub is : arrivals plan list ≡ f

-- no list that goes on from `pre` with at most n pairs, the first of them from a code on, leaves fewer than f
pub record Leave (plan : Plan) (pre : List ℕ) (n lo f : ℕ) : Type 0 where
  pub none : f ≤ arrivals plan pre
  pub more : (k : ℕ) → k < n → (a b : ℕ) (x : List ℕ) → length x ≡ 2 * k → lo ≤ code a b → Not plan (Fails plan f) (pre ++ a ∷ b ∷ x)

-- it is somebody's turn in slot s, with n pairs more
pub record Turn (row : List ℕ) (board : Board) (hits : Hits) (ps : Standing) (p : Picked) (n s least : ℕ) :
    Type 0 where
  pub lent : Lent row board
  pub holding : Holding row board.sizes p
  pub covers : Covers row (cuts_of p) hits
  pub stand : StandAt row board.sizes.messages (cuts_of p) s ps
  pub few : p.count + n ≤ most_cuts
  pub from : p.slot ≤ s
  pub early : s < board.sizes.timeout
  pub low : least ≤ board.sizes.messages

-- the breaker's, from link e on, where those of `left` are away
pub record MayBreak (row : List ℕ) (board : Board) (hits : Hits) (ps : Standing) (left : ℕ) (p : Picked)
    (n s e least : ℕ) : Type 0 where
  pub turn : Turn row board hits ps p n s least
  pub away : AreAway ps.positions board.sizes.messages left
  pub link : e ≤ board.sizes.links
  pub later : code p.slot p.link ≤ code s e

-- link e of slot s may be picked, as the first of n pairs more
pub record MayPick (row : List ℕ) (board : Board) (hits : Hits) (ps : Standing) (left : ℕ) (p : Picked)
    (n s e least : ℕ) : Type 0 where
  pub turn : Turn row board hits ps p n s least
  pub away : AreAway ps.positions board.sizes.messages left
  pub some : 0 < n
  pub link : e < board.sizes.links
  pub later : code p.slot p.link ≤ code s e
  pub free : is_down p.closed e ≡ false

-- what either answers: no list from here leaves fewer, and one leaves exactly that many, if it is fewer than what is known
pub record Turned (row : List ℕ) (p : Picked) (n lo least r : ℕ) : Type 0 where
  pub low : r ≤ least
  pub leave : Leave (plan_of row) (cuts_of p) n lo r
  pub reached : r < least → Reached (plan_of row) (p.count + n) r

-- the game may be played from the start, with k pairs, where so many arrivals are known to be left by some list of at most k pairs
pub record MayPlay (row : List ℕ) (board : Board) (k least : ℕ) : Type 0 where
  pub lent : Lent row board
  pub few : k ≤ most_cuts
  pub some : 0 < board.sizes.timeout
  pub low : least ≤ board.sizes.messages
  pub reached : Reached (plan_of row) k least
