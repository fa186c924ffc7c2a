-- Who crosses a link: the lowest message that tries a free and whole link does, at most one message crosses a link in a slot, and what a
-- message has crossed on its second path it never tries again.
use Rattle.std.specs.Prelude.{ℕ, ◌+◌, ◌≤◌, ◌<◌, ◌≡◌, Bool, true, false, List, [], ◌∷◌, length}
use Rattle.scope.specs.Outcome.{gives}
use Rattle.scope.specs.Plan.{Plan, Place}
use Rattle.scope.specs.Good.{different}
use Rattle.scope.specs.Rules.{rules}
use Rattle.scope.specs.Slot.{Position, on_first, on_second, Moved, turn}
use Rattle.scope.specs.Cuts.{is_cut}
use Rattle.scope.specs.Cycle.{positions, start, table_of, order_of}
use Rattle.laws.specs.Message.{position_of, move_in, event_of, crosses, tries_link}

-- kind 3: message m crosses link e of its second path, and has the links after it left
pub record CrossesOnSecond (down : ℕ → Bool) (m e : ℕ) (ps : List Position) (does : Moved) : Type 0 where
  pub kind : does.event.kind ≡ 3
  pub number : does.event.number ≡ e
  pub rest : List ℕ
  pub before : turn down (position_of m ps) ≡ on_second (e ∷ rest)
  pub after : does.next ≡ on_second rest

-- the lowest message that tries a free and whole link crosses it
abbrev pub LowestCrosses : Type 0
LowestCrosses =
    (rank : ℕ → ℕ) (down : ℕ → ℕ → Bool) (owner : ℕ → ℕ → ℕ) (m i e : ℕ) (ps : List Position) →
    tries_link (down i) e m ps ≡ true → owner i e ≡ 0 → ((j : ℕ) → tries_link (down i) e j ps ≡ true → rank m ≤ rank j) →
    CrossesOnSecond (down i) m e ps (move_in rank down owner m i ps)

-- nobody crosses a link of its second path that is down, or that the table gives to a message
pub record FreeAndWhole (down : ℕ → Bool) (owner : ℕ → ℕ) (e : ℕ) : Type 0 where
  pub whole : down e ≡ false
  pub free : owner e ≡ 0

abbrev pub OnlyFreeLinks : Type 0
OnlyFreeLinks =
    (rank : ℕ → ℕ) (down : ℕ → ℕ → Bool) (owner : ℕ → ℕ → ℕ) (m i e : ℕ) (ps : List Position) →
    (move_in rank down owner m i ps).event.kind ≡ 3 → (move_in rank down owner m i ps).event.number ≡ e → FreeAndWhole (down i) (owner i) e

-- the table gives message m the link and slot of each place that it has left
abbrev pub TableGives : (ℕ → ℕ → ℕ) → ℕ → List Place → Type 0
TableGives owner m [] = Unit {0}
TableGives owner m (p ∷ ps) = (owner p.slot p.link ≡ m + 1) × TableGives owner m ps

abbrev pub TableGivesLeft : (ℕ → ℕ → ℕ) → ℕ → Position → Type 0
TableGivesLeft owner m (on_first ps) = TableGives owner m ps
TableGivesLeft owner m (on_second es) = Unit {0}

-- so a link is crossed by at most one message in a slot: two that cross it are one
abbrev pub AtMostOneCrosses : Type 0
AtMostOneCrosses =
    (rank : ℕ → ℕ) (down : ℕ → ℕ → Bool) (owner : ℕ → ℕ → ℕ) (i e a b : ℕ) (ps : List Position) → (rank a ≡ rank b → a ≡ b) →
    TableGivesLeft owner a (position_of a ps) → TableGivesLeft owner b (position_of b ps) →
    crosses e (move_in rank down owner a i ps).event ≡ true → crosses e (move_in rank down owner b i ps).event ≡ true → a ≡ b

-- no two messages have the same rank
abbrev pub RanksDiffer : (ℕ → ℕ) → Plan → Type 0
RanksDiffer rank plan = (a b : ℕ) → a < length plan.messages → b < length plan.messages → rank a ≡ rank b → a ≡ b

-- in each slot of the replay of a good plan, whatever is down
abbrev pub AtMostOneInReplay : Type 0
AtMostOneInReplay =
    (rank : ℕ → ℕ) (down : ℕ → ℕ → Bool) (plan : Plan) → rules plan ≡ gives 0 → RanksDiffer rank plan →
    (i e a b : ℕ) → a < length plan.messages → b < length plan.messages →
    crosses e (event_of rank down (table_of plan) a i (start plan)) ≡ true →
    crosses e (event_of rank down (table_of plan) b i (start plan)) ≡ true → a ≡ b

abbrev pub AtMostOneUnderCuts : Type 0
AtMostOneUnderCuts =
    (plan : Plan) (cuts : List ℕ) → rules plan ≡ gives 0 → (i e a b : ℕ) → a < length plan.messages → b < length plan.messages →
    crosses e (event_of (order_of plan) (is_cut plan cuts) (table_of plan) a i (start plan)) ≡ true →
    crosses e (event_of (order_of plan) (is_cut plan cuts) (table_of plan) b i (start plan)) ≡ true → a ≡ b

-- no link stands twice on a second path that a message may still take, or is on
abbrev pub NoLinkTwice : List Place → Type 0
NoLinkTwice [] = Unit {0}
NoLinkTwice (p ∷ ps) = (different p.second ≡ true) × NoLinkTwice ps

abbrev pub NoLinkTwiceLeft : Position → Type 0
NoLinkTwiceLeft (on_first ps) = NoLinkTwice ps
NoLinkTwiceLeft (on_second es) = different es ≡ true

-- then a link that a message crosses on its second path in slot i it tries in no later slot
abbrev pub NeverTriesAgain : Type 0
NeverTriesAgain =
    (rank : ℕ → ℕ) (down : ℕ → ℕ → Bool) (owner : ℕ → ℕ → ℕ) (m i e : ℕ) (ps : List Position) → NoLinkTwiceLeft (position_of m ps) →
    (move_in rank down owner m i ps).event.kind ≡ 3 → (move_in rank down owner m i ps).event.number ≡ e →
    (n : ℕ) → tries_link (down (i + (1 + n))) e m (positions rank down owner i (1 + n) ps) ≡ false

-- so in the replay of a good plan, whatever is down
abbrev pub NeverTriesAgainInReplay : Type 0
NeverTriesAgainInReplay =
    (rank : ℕ → ℕ) (down : ℕ → ℕ → Bool) (plan : Plan) → rules plan ≡ gives 0 → (m i e : ℕ) →
    (event_of rank down (table_of plan) m i (start plan)).kind ≡ 3 → (event_of rank down (table_of plan) m i (start plan)).number ≡ e →
    (j : ℕ) → i < j → tries_link (down j) e m (positions rank down (table_of plan) 0 j (start plan)) ≡ false
