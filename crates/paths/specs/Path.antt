-- The rules of a path by their order, the earliest that is broken, and what the links of a first path are in a buffer.
use Rattle.std.specs.Prelude.{ℕ, ◌<◌, ◌≡◌, Bool, true, false, cond, ◌&&◌, List, take, drop, eqb, Option, Some, None}
use Rattle.std.specs.declared.cmp.Ordering.{Ordering}
use Rattle.std.specs.Ordering.{is_lt}
use Rattle.scope.specs.Lowest.{lowest, some}
use Rattle.scope.specs.Limits.{most_vertices}
use Rattle.scope.specs.Plan.{Plan, link_of, place_count, message_at}
use Rattle.scope.specs.Good.{links_of}
use Rattle.scope.specs.PathRules.{no_link, apart, again}
use Rattle.paths.specs.declared.Ends.{Ends}
use Rattle.paths.specs.declared.Fault.{Fault}
use Rattle.paths.specs.declared.Rule.{Rule}
use Rattle.paths.specs.declared.Rule.TheVariants.{NoLink, Apart, Astray, Again, Replaced}

-- r has the ends of link e
pub record EndsAt (plan : Plan) (e : ℕ) (r : Ends) : Type 0 where
  pub from : r.from ≡ (link_of plan e).from
  pub to : r.to ≡ (link_of plan e).to

-- and they are vertices that a plan may have
pub record EndsOf (plan : Plan) (e : ℕ) (r : Ends) : Type 0 where
  pub from : r.from ≡ (link_of plan e).from
  pub to : r.to ≡ (link_of plan e).to
  pub from_small : r.from < most_vertices
  pub to_small : r.to < most_vertices

-- of two faults or none, by the order of their rules: the one here comes before the one that was found first
abbrev pub goes_first : {R : Type 0} → (R → R → Ordering) → Option (Fault R) → Option (Fault R) → Bool
goes_first cmp found None = false
goes_first cmp None (Some here) = true
goes_first cmp (Some found) (Some here) = is_lt (cmp here.rule found.rule)

-- the rules by number, in the order in which they are asked; of a fault or none, its rule's, 5 for none, and where it is
abbrev pub order_of : Rule → ℕ
order_of NoLink = 0
order_of Apart = 1
order_of Astray = 2
order_of Again = 3
order_of Replaced = 4

abbrev pub order : Option (Fault Rule) → ℕ
order None = 5
order (Some f) = order_of f.rule

abbrev pub message_of : Option (Fault Rule) → ℕ
message_of None = 0
message_of (Some f) = f.message

abbrev pub at_of : Option (Fault Rule) → ℕ
at_of None = 0
at_of (Some f) = f.at

abbrev pub step_of : Option (Fault Rule) → ℕ
step_of None = 0
step_of (Some f) = f.step

-- the rules of a path that begins at vertex v: rule r is broken in step s
abbrev pub path_rule : Plan → ℕ → List ℕ → ℕ → ℕ → Bool
path_rule plan v es r s =
    cond (eqb r 0) (no_link plan es s)
    (cond (eqb r 1) (apart plan v es s)
    (eqb r 3 && again plan v es s))

-- the rule that a link below E breaks, by whether it does not join and whether it leads to a vertex met already; 5, none
abbrev pub link_rule : Bool → Bool → ℕ
link_rule parted met = cond parted 1 (cond met 3 5)

-- of k rules and n things the earliest rule that some thing breaks, k where there is none, and the lowest thing that breaks it
pub record Earliest (broken : ℕ → ℕ → Bool) (k n rule thing : ℕ) : Type 0 where
  pub earliest : rule ≡ lowest (λ r. some (broken r) n) k
  pub first : rule < k → thing ≡ lowest (broken rule) n

-- the first r numbers of a buffer that held `entry` are the links of the message at index i, the others as they were
pub record FirstLinks (row : List ℕ) (i : ℕ) (entry buffer : List ℕ) (r : ℕ) : Type 0 where
  pub count : r ≡ place_count row i
  pub are : take r buffer ≡ links_of (message_at row i)
  pub rest : drop r buffer ≡ drop r entry
