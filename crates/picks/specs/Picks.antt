-- The pairs picked so far, as a list; what they hold, and where the messages stand under them.
use Rattle.std.specs.Prelude.{ℕ, ◌+◌, ◌*◌, ◌≤◌, ◌<◌, ◌≡◌, Bool, ◌||◌, List, length, get_or, take, set, replicate, eqb}
use Rattle.scope.specs.Limits.{most_cuts, most_slots, most_links}
use Rattle.scope.specs.Lowest.{some}
use Rattle.scope.specs.Plan.{plan_of}
use Rattle.scope.specs.Cables.{is_higher}
use Rattle.scope.specs.Cuts.{pairs, cut_link, is_cut}
use Rattle.scope.specs.Cycle.{order_of, table_of, start, positions}
use Rattle.cables.specs.Others.{OtherWays, higher_of}
use Rattle.cuts.specs.Down.{is_down, with_cable}
use Rattle.table.specs.Table.{entry_at}
use Rattle.step.specs.declared.Standing.{Standing}
use Rattle.step.specs.Stand.{Become}
use Rattle.order.specs.Search.{code, Chosen}
use Rattle.picks.specs.declared.Sizes.{Sizes}
use Rattle.picks.specs.declared.Picked.{Picked}

-- the pairs picked, as a list
abbrev pub cuts_of : Picked → List ℕ
cuts_of p = take (2 * p.count) p.numbers

-- with one pair more
abbrev pub with_pair : Sizes → Picked → ℕ → ℕ → Picked
with_pair z p s e =
    record {
      count = p.count + 1;
      slot = s;
      link = e + 1;
      numbers = set (set p.numbers (2 * p.count) s) (2 * p.count + 1) e;
      down = with_cable z.others p.down e;
      closed = set p.closed e 1;
    }

-- no pair
abbrev pub no_pair : Sizes → Picked
no_pair z =
    record {
      count = 0;
      slot = 0;
      link = 0;
      numbers = replicate (2 * most_cuts) 0;
      down = replicate most_links 0;
      closed = higher_of z.others;
    }

-- the sizes and the other ways are those of the plan of a row, and the table is that plan's
pub record Playable (row table : List ℕ) (z : Sizes) : Type 0 where
  pub timeout : z.timeout ≡ (plan_of row).timeout
  pub short : z.timeout ≤ most_slots
  pub links : z.links ≡ length (plan_of row).links
  pub few : z.links ≤ most_links
  pub messages : z.messages ≡ length (plan_of row).messages
  pub others : OtherWays (plan_of row) z.others
  pub owner : (i : ℕ) → i < most_slots → entry_at table i ≡ table_of (plan_of row) i

-- a pair of the list names link e
abbrev pub is_named : List ℕ → ℕ → Bool
is_named cuts e = some (λ j. eqb (cut_link cuts j) e) (pairs cuts)

-- the pairs picked are a cut list, none of them is later than the last one's slot, from there on their cables are down, and no later pair may
-- name one of them again or the higher link of any
pub record Holding (row : List ℕ) (z : Sizes) (p : Picked) : Type 0 where
  pub long : length p.numbers ≡ 2 * most_cuts
  pub slot : p.slot ≤ z.timeout
  pub link : p.link ≤ z.links
  pub chosen : Chosen (plan_of row) (cuts_of p) p.count (code p.slot p.link)
  pub size : length p.down ≡ most_links
  pub down : (i e : ℕ) → p.slot ≤ i → is_down p.down e ≡ is_cut (plan_of row) (cuts_of p) i e
  pub shut : length p.closed ≡ most_links
  pub closed : (e : ℕ) → e < z.links → is_down p.closed e ≡ (is_named (cuts_of p) e || is_higher (plan_of row) e)
  pub past : (i : ℕ) → 2 * p.count ≤ i → get_or p.numbers i 0 ≡ 0

-- the messages stand where they do at time s under a cut list
pub record StandAt (row : List ℕ) (n : ℕ) (cuts : List ℕ) (s : ℕ) (ps : Standing) : Type 0 where
  pub time : ps.time.0 ≡ s
  pub next : Become row n (positions (order_of (plan_of row)) (is_cut (plan_of row) cuts) (table_of (plan_of row)) 0 s (start (plan_of row)))
      ps.positions

-- the list picked may be played one slot on
pub record MayAdvance (row table : List ℕ) (z : Sizes) (ps : Standing) (p : Picked) : Type 0 where
  pub play : Playable row table z
  pub holding : Holding row z p
  pub stand : StandAt row z.messages (cuts_of p) ps.time.0 ps
  pub from : p.slot ≤ ps.time.0
  pub early : ps.time.0 < z.timeout
