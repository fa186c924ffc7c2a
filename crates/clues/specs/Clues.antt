-- The crossings of a replay against a table of crossings: what one slot says of the cuts, and what a table says of a list. The table has a
-- byte for each slot and message: the link that the message crosses in the slot, plus one, or 0.
use Rattle.std.specs.Prelude.{ℕ, ◌+◌, ◌*◌, ◌≤◌, ◌<◌, ◌≡◌, Bool, true, false, cond, ◌&&◌, List, ◌∷◌, ◌++◌, Option, MatchOption, length, ltb}
use Rattle.scope.specs.Limits.{crossed_size}
use Rattle.scope.specs.Outcome.{gives}
use Rattle.scope.specs.Plan.{Plan, plan_of}
use Rattle.scope.specs.Rules.{rules}
use Rattle.scope.specs.Slot.{Event}
use Rattle.scope.specs.Cuts.{is_cut}
use Rattle.scope.specs.Cycle.{order_of, table_of, start}
use Rattle.laws.specs.Message.{event_of}
use Rattle.cuts.specs.Down.{is_down}
use Rattle.step.specs.declared.Standing.{Standing}
use Rattle.step.specs.Events.{crossing_of}
use Rattle.step.specs.Stand.{Stand}
use Rattle.order.specs.Search.{Not, NoneOf}
use Rattle.capture.specs.Kept.{crossed_at}
use Rattle.picks.specs.declared.Sizes.{Sizes}
use Rattle.picks.specs.declared.Picked.{Picked}
use Rattle.picks.specs.Picks.{cuts_of, Playable, Holding, StandAt}
use Rattle.clues.specs.declared.Clue.{Clue}
use Rattle.clues.specs.declared.Clue.TheVariants.{Nothing, Link, Dead}
use Rattle.clues.specs.declared.Suspicion.{Suspicion}

-- message m's event in slot i of the replay under a list
abbrev pub event_in : Plan → List ℕ → ℕ → ℕ → Event
event_in plan cuts i m = event_of (order_of plan) (is_cut plan cuts) (table_of plan) m i (start plan)

-- the link that it crosses there, plus one, or 0
abbrev pub crossing_in : Plan → List ℕ → ℕ → ℕ → ℕ
crossing_in plan cuts i m = crossing_of (event_in plan cuts i m)

-- the replay under a list has in slot i the crossings of the table; in every slot before s; in every slot
abbrev pub MatchesIn : Plan → List ℕ → List ℕ → ℕ → Type 0
MatchesIn plan crossed cuts i = (m : ℕ) → m < length plan.messages → crossing_in plan cuts i m ≡ crossed_at crossed i m

abbrev pub MatchesBefore : Plan → List ℕ → List ℕ → ℕ → Type 0
MatchesBefore plan crossed cuts s = (i : ℕ) → i < s → MatchesIn plan crossed cuts i

abbrev pub Matches : Plan → List ℕ → List ℕ → Type 0
Matches plan crossed cuts = MatchesBefore plan crossed cuts plan.timeout

-- an event can name a link as cut: its message waits for the link, or crosses it
abbrev pub may_name : Event → Bool
may_name v = ltb 0 v.kind && ltb v.kind 4

-- of n messages m is the foremost whose crossing is not the one that was seen
pub record Foremost (event : ℕ → Event) (seen : ℕ → ℕ) (n m : ℕ) : Type 0 where
  pub there : m < n
  pub alike : (j : ℕ) → j < m → crossing_of (event j) ≡ seen j
  pub differs : crossing_of (event m) ≡ seen m → ⊥

-- what the events of n messages say of the cuts, against the crossings that were seen: nothing, where they are the same; else the event of
-- the foremost message that differs names a link, or can name none
abbrev pub Says : (ℕ → Event) → (ℕ → ℕ) → ℕ → Clue → Type 0
Says event seen n (Nothing next) = (m : ℕ) → m < n → crossing_of (event m) ≡ seen m
Says event seen n (Link x) = (m : ℕ) × Foremost event seen n m × (may_name (event m) ≡ true) × ((event m).number ≡ x)
Says event seen n Dead = (m : ℕ) × Foremost event seen n m × (may_name (event m) ≡ false)

-- what the event of the foremost message that differs says
abbrev pub clue_of : Event → Clue
clue_of v = cond (may_name v) (Link v.number) Dead

-- the messages may be looked at in the slot that begins now
pub record MayLook (row table crossed : List ℕ) (z : Sizes) (ps : Standing) : Type 0 where
  pub play : Playable row table z
  pub stand : Stand row z.messages ps.positions
  pub early : ps.time.0 < z.timeout
  pub size : length crossed ≡ crossed_size

-- what slot s says under a list, and where the messages stand after it, where it says nothing
pub record Shows (row crossed : List ℕ) (n : ℕ) (cuts : List ℕ) (s : ℕ) (r : Clue) : Type 0 where
  pub says : Says (event_in (plan_of row) cuts s) (crossed_at crossed s) (length (plan_of row).messages) r
  pub stand : (next : Standing) → r ≡ Nothing next → StandAt row n cuts (s + 1) next

-- that of the slot that begins now, under any list under which the messages stand as they do and which cuts in that slot what is down
abbrev pub Looked : List ℕ → List ℕ → Sizes → List ℕ → Standing → Clue → Type 0
Looked row crossed z down ps r =
    (cuts : List ℕ) → StandAt row z.messages cuts ps.time.0 ps →
    ((e : ℕ) → is_down down e ≡ is_cut (plan_of row) cuts ps.time.0 e) → Shows row crossed z.messages cuts ps.time.0 r

-- lists that go on from the pairs picked may be suspected: they have the crossings of the table up to the last one's slot
pub record MaySuspect (row table crossed : List ℕ) (z : Sizes) (ps : Standing) (p : Picked) : Type 0 where
  pub good : rules (plan_of row) ≡ gives 0
  pub play : Playable row table z
  pub holding : Holding row z p
  pub stand : StandAt row z.messages (cuts_of p) p.slot ps
  pub before : MatchesBefore (plan_of row) crossed (cuts_of p) p.slot
  pub size : length crossed ≡ crossed_size

-- no list matches with fewer pairs more than links are named; the first pair more of one that does with as many cuts a link that is down; and
-- where none is named, the pairs picked match
pub record Names (row crossed : List ℕ) (p : Picked) (n : ℕ) (r : Suspicion) : Type 0 where
  pub few : r.named ≤ n
  pub fewer : (j : ℕ) → j < r.named → NoneOf (plan_of row) (Matches (plan_of row) crossed) (cuts_of p) j
  pub whole : r.named ≡ 0 → Matches (plan_of row) crossed (cuts_of p)
  pub only : (s e : ℕ) (x : List ℕ) → length x + 2 ≡ 2 * r.named → is_down r.down e ≡ false →
      Not (plan_of row) (Matches (plan_of row) crossed) (cuts_of p ++ s ∷ e ∷ x)

-- nothing: no list with at most n pairs more matches; else so much is known of those that do
abbrev pub Suspected : List ℕ → List ℕ → Picked → ℕ → Option Suspicion → Type 0
Suspected row crossed p n r =
    MatchOption r ((j : ℕ) → j ≤ n → NoneOf (plan_of row) (Matches (plan_of row) crossed) (cuts_of p) j) (λ v. Names row crossed p n v)
