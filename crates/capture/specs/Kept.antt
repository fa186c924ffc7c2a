-- What is kept of a capture: a few numbers, and a table with a byte for each slot and message: the link that the message crosses in
-- that slot, plus one, or 0 where it crosses none.
use Rattle.std.specs.Prelude.{ℕ, ◌+◌, ◌-◌, ◌*◌, ◌%◌, ◌≤◌, ◌<◌, ◌≡◌, true, false, Option, MatchOption, List, [], ◌∷◌, ◌++◌, length, get_or, replicate, eqb}
use Rattle.scope.specs.Limits.{most_slots, most_links, most_messages, crossed_size}
use Rattle.scope.specs.Lowest.{lowest, some}
use Rattle.scope.specs.Plan.{Plan, link_count, message_count, timeout_of}
use Rattle.scope.specs.Capture.{triples, seen_slot, seen_link, seen_message, bad_triple, is_captured}
use Rattle.capture.specs.declared.Triple.{Triple}
use Rattle.capture.specs.declared.Kept.{Kept}

-- where the table has a slot and a message, and what it has there
abbrev pub crossed_index : ℕ → ℕ → ℕ
crossed_index i m = i * most_messages + m

abbrev pub crossed_at : List ℕ → ℕ → ℕ → ℕ
crossed_at crossed i m = get_or crossed (crossed_index i m) 0

-- the number of a triple among all triples in their order
abbrev pub code_of : ℕ → ℕ → ℕ → ℕ
code_of i e m = (i * most_links + e) * most_messages + m

abbrev pub code : Triple → ℕ
code t = code_of t.slot t.link t.message

-- the numbers of the last of n triples are small, and triples rise, so that there are no more than a plan has slots, links and messages for
pub record FitsTriple (n : ℕ) (t : Triple) : Type 0 where
  pub slot : t.slot < most_slots
  pub link : t.link < most_links
  pub message : t.message < most_messages
  pub few : n ≤ code t + 1

abbrev pub FitsLast : ℕ → Option Triple → Type 0
FitsLast n last = MatchOption last (n ≡ 0) (FitsTriple n)

pub record Fits (k : Kept) : Type 0 where
  pub last : FitsLast k.count k.last

-- a message that was seen on two links in one slot
pub record Clash (plan : Plan) (capture : List ℕ) : Type 0 where
  pub slot : ℕ
  pub message : ℕ
  pub link : ℕ
  pub other : ℕ
  pub early : slot < plan.timeout
  pub known : message < length plan.messages
  pub differ : link ≡ other → ⊥
  pub here : is_captured capture slot link message ≡ true
  pub there : is_captured capture slot other message ≡ true

-- t is the last of the n triples of a capture
pub record IsLast (capture : List ℕ) (n : ℕ) (t : Triple) : Type 0 where
  pub some : 0 < n
  pub slot : seen_slot capture (n - 1) ≡ t.slot
  pub link : seen_link capture (n - 1) ≡ t.link
  pub message : seen_message capture (n - 1) ≡ t.message

-- what is kept of a capture without a bad triple
pub record KeepsAll (plan : Plan) (capture crossed : List ℕ) (k : Kept) : Type 0 where
  pub long : length capture ≡ 3 * k.count
  pub last : MatchOption k.last (k.count ≡ 0) (IsLast capture k.count)
  pub most : (i e m : ℕ) → is_captured capture i e m ≡ true → MatchOption k.last ⊥ (λ t. code_of i e m ≤ code t)
  pub marks : k.twice ≡ false → (i e m : ℕ) → i < most_slots → m < most_messages → is_captured capture i e m ≡ eqb (crossed_at crossed i m) (e + 1)
  pub clash : k.twice ≡ true → Clash plan capture

-- what is kept of a capture: whether a triple of it is bad, and the first such, or all of it
pub record Keeps (plan : Plan) (capture crossed : List ℕ) (k : Kept) : Type 0 where
  pub size : length crossed ≡ crossed_size
  pub fits : Fits k
  pub bad : k.bad ≡ some (bad_triple plan capture) (triples capture)
  pub place : k.bad ≡ true → k.count ≡ lowest (bad_triple plan capture) (triples capture)
  pub all : k.bad ≡ false → KeepsAll plan capture crossed k

-- no triple of a capture is unfinished
abbrev pub Whole : List ℕ → Type 0
Whole capture = length capture % 3 ≡ 0

-- the slots, links and messages of a row's plan have their places in the table
pub record Small (row : List ℕ) : Type 0 where
  pub timeout : timeout_of row ≤ most_slots
  pub links : link_count row ≤ most_links
  pub messages : message_count row ≤ most_messages

-- what is kept of the capture without a triple, beside a table of zeros
pub record Begins (k : Kept) : Type 0 where
  pub fits : Fits k
  pub keeps : (plan : Plan) → Keeps plan [] (replicate crossed_size 0) k

-- a triple may be added
pub record MayAdd (row crossed : List ℕ) (k : Kept) : Type 0 where
  pub small : Small row
  pub size : length crossed ≡ crossed_size
  pub fits : Fits k

-- it was added to every capture of which this was kept; behind a bad triple nothing changes
pub record Adds (plan : Plan) (i e m : ℕ) (crossed : List ℕ) (k : Kept) (crossed' : List ℕ) (r : Kept) : Type 0 where
  pub size : length crossed' ≡ crossed_size
  pub fits : Fits r
  pub keeps : (capture : List ℕ) → Whole capture → Keeps plan capture crossed k → Keeps plan (capture ++ i ∷ e ∷ m ∷ []) crossed' r

-- one or two numbers more end it with an unfinished triple
pub record Ends (k r : Kept) : Type 0 where
  pub bad : r.bad ≡ true
  pub fits : Fits k → Fits r
  pub keeps : (plan : Plan) (capture crossed : List ℕ) → Whole capture → Keeps plan capture crossed k →
      (more : List ℕ) → 0 < length more → length more < 3 → Keeps plan (capture ++ more) crossed r
