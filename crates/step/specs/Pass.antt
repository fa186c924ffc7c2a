-- One slot in one pass: the messages go through it in their order, and a list that is lent has who has tried which link so far.
-- proofs/Pass has that the pass is the slot of document 01, in which all try before anyone acts.
use Rattle.std.specs.Prelude.{ℕ, ◌+◌, ◌≤◌, ◌<◌, ◌≡◌, Bool, not, cond, List, [], ◌∷◌, length, get_or, drop, set, ltb, eqb}
use Rattle.scope.specs.Lowest.{lowest}
use Rattle.scope.specs.Limits.{most_messages}
use Rattle.scope.specs.Plan.{plan_of}
use Rattle.scope.specs.Slot as S
use Rattle.scope.specs.Cycle.{order_of, slot, nexts}
use Rattle.step.specs.declared.Position.{Position}
use Rattle.step.specs.declared.Moved.{Moved}
use Rattle.step.specs.declared.Try.{Try}
use Rattle.step.specs.declared.Tries.{Tries}
use Rattle.step.specs.Where.{position_of, end_of, Leads, Acts}
use Rattle.step.specs.Stand.{positions_of, Stand, Become}

-- an entry past the last one
abbrev pub no_try : Try
no_try = record { link = 0; message = 0 }

-- who has tried which link in this slot: the link and the message of entry j
abbrev pub tried_link : Tries → ℕ → ℕ
tried_link tried j = (get_or tried.list j no_try).link

abbrev pub tried_by : Tries → ℕ → ℕ
tried_by tried j = (get_or tried.list j no_try).message

-- the first entry of link e, and its message, or m where there is none
abbrev pub found_at : Tries → ℕ → ℕ
found_at tried e = lowest (λ j. eqb (tried_link tried j) e) tried.count

unfoldable pub first_trier : Tries → ℕ → ℕ → ℕ
first_trier tried e m = cond (ltb (found_at tried e) tried.count) (tried_by tried (found_at tried e)) m

-- message m tries link e too
unfoldable pub noted : Tries → ℕ → ℕ → Tries
noted tried e m = record { count = tried.count + 1; list = set tried.list tried.count (record { link = e; message = m }) }

-- there is room to note message m and those after it, and whoever has been noted is lower
pub record Noting (tried : Tries) (m : ℕ) : Type 0 where
  pub low : m < most_messages
  pub room : most_messages ≤ length tried.list
  pub few : tried.count ≤ m
  pub below : (j : ℕ) → j < tried.count → tried_by tried j < m

-- what has been tried after message m, at a position, and after it and those that follow
unfoldable pub tried_after : (ℕ → Bool) → Tries → ℕ → S.Position → Tries
tried_after down tried m p =
    let q = S.turn down p in
    cond (eqb (S.tries down q) 0) tried (noted tried (S.next_second q) m)

unfoldable pub all_tried : (ℕ → Bool) → Tries → ℕ → List S.Position → Tries
all_tried down tried m [] = tried
all_tried down tried m (p ∷ ps) = all_tried down (tried_after down tried m p) (m + 1) ps

module _ (down : ℕ → Bool) (owner : ℕ → ℕ) (i : ℕ) where
  -- what message m does at a position in slot i, and what it and those that follow do
  unfoldable pub does : Tries → ℕ → S.Position → S.Moved
  does tried m p =
      let q = S.turn down p in
      let first = first_trier tried (S.next_second q) m in
      S.act down i (owner (S.next_second q)) (not (eqb first m)) first q

  unfoldable pub pass : Tries → ℕ → List S.Position → List S.Moved
  pass tried m [] = []
  pass tried m (p ∷ ps) = does tried m p ∷ pass (tried_after down tried m p) (m + 1) ps

-- message m may act: its position, the slot and the list are in their bounds
pub record MayAct (row : List ℕ) (p : Position) (m i : ℕ) (tried : Tries) : Type 0 where
  pub fit : end_of row p < 65536
  pub early : i < 65536
  pub noting : Noting tried m

-- it has acted, and it has moved
pub record ActsIn (row : List ℕ) (down : ℕ → Bool) (owner : ℕ → ℕ) (i : ℕ) (p : Position) (m : ℕ) (tried tried' : Tries)
    (r : Moved) : Type 0 where
  pub acts : Acts row p (does down owner i tried m (position_of row p)) r
  pub noted : tried' ≡ tried_after down tried m (position_of row p)

pub record MovesIn (row : List ℕ) (down : ℕ → Bool) (owner : ℕ → ℕ) (i : ℕ) (p : Position) (m : ℕ) (tried tried' : Tries)
    (r : Position) : Type 0 where
  pub next : Leads row p (does down owner i tried m (position_of row p)).next r
  pub noted : tried' ≡ tried_after down tried m (position_of row p)

-- n messages may move in slot i, in the records that are lent: nobody has tried anything yet
pub record MayMoveAll (row : List ℕ) (ps : List Position) (n i : ℕ) (tried : Tries) : Type 0 where
  pub stand : Stand row n ps
  pub long : n ≤ length ps
  pub early : i < 65536
  pub room : most_messages ≤ length tried.list
  pub none : tried.count ≡ 0

-- they have moved: the first n records are the next positions of the slot, the records past them are as they were, and the list has who
-- tried what
pub record MovesAll (row : List ℕ) (n : ℕ) (down : ℕ → ℕ → Bool) (owner : ℕ → ℕ → ℕ) (i : ℕ) (ps ps' : List Position)
    (tried tried' : Tries) : Type 0 where
  pub next : Become row n (nexts (slot (order_of (plan_of row)) down owner i (positions_of row n ps))) ps'
  pub rest : drop n ps' ≡ drop n ps
  pub noted : tried' ≡ all_tried (down i) tried 0 (positions_of row n ps)
