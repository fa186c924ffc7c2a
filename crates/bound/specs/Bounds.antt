-- What a search needs to know of its bounds. Each gives a pair a weight: a list that is sought has enough of it, the messages that its first
-- pairs mark and that are away at a time counted with it; later pairs have no more than a number for each slot says, and on one link no more
-- than earlier ones.
use Rattle.std.specs.Prelude.{ℕ, ◌+◌, ◌-◌, ◌*◌, min, ◌≤◌, ◌<◌, ◌≡◌, true, List, ◌++◌, length, get_or}
use Rattle.scope.specs.Limits.{most_slots, most_messages, plane_size, front_size}
use Rattle.scope.specs.Plan.{Plan}
use Rattle.table.specs.Table.{index_of}
use Rattle.scope.specs.Cuts.{cut_link, is_cut_list}
use Rattle.losses.specs.Touch.{harm}
use Rattle.order.specs.Search.{NotBefore}
use Rattle.losses.specs.Harmed.{harmed}
use Rattle.losses.specs.Strips.{bared, lost}

-- the weight of a pair, from planes of all slots and links one after another, and the most from a slot on, from lists of all slots
abbrev pub weight_in : List ℕ → ℕ → ℕ → ℕ → ℕ
weight_in weights j s e = get_or weights (j * plane_size + index_of s e) 0

abbrev pub top_in : List ℕ → ℕ → ℕ → ℕ
top_in most j s = get_or most (j * most_slots + s) 0

-- a place for each slot and each count of messages, of which there can be no more than so many
abbrev pub front_of : ℕ → ℕ → ℕ
front_of s x = s * front_size + min x most_messages

-- the most that one pair of slot s strips which touches at least x messages, from a list after those of all slots
abbrev pub front_in : List ℕ → ℕ → ℕ → ℕ
front_in most s x = get_or most (3 * most_slots + front_of s x) 0

-- a list that answers: what its first part marks that is away at time s, and what its later pairs weigh, is at least `need`
abbrev pub Enough : Plan → (List ℕ → Type 0) → ℕ → (List ℕ → ℕ → ℕ) → (ℕ → ℕ → ℕ) → Type 0
Enough plan Answers need marked weight =
    (pre x : List ℕ) (d n s : ℕ) → s ≤ plan.timeout → length pre ≡ 2 * d → length x ≡ 2 * n → NotBefore s x n →
    is_cut_list plan (pre ++ x) ≡ true → Answers (pre ++ x) → need ≤ marked pre s + harm weight x n

pub record BoundOn (plan : Plan) (Answers : List ℕ → Type 0) (need : ℕ) (marked : List ℕ → ℕ → ℕ) (weight : ℕ → ℕ → ℕ)
    (top : ℕ → ℕ) : Type 0 where
  pub enough : Enough plan Answers need marked weight
  pub later : (s i e : ℕ) → s ≤ i → i < plan.timeout → e < length plan.links → weight i e ≤ top s
  pub falls : (s i e : ℕ) → s ≤ i → i < plan.timeout → e < length plan.links → weight i e ≤ weight s e

-- both at once, counted in halves: twice the losses are at most the touches and the strips together
abbrev pub harmed_and_bared : Plan → List ℕ → ℕ → ℕ
harmed_and_bared plan cuts s = harmed plan cuts s + bared plan cuts s

-- where two pairs are to come and the first is on link e, one last pair must make up both what is still to be touched and what is still to be
-- stripped
abbrev pub OneLast : Plan → (List ℕ → Type 0) → ℕ → List ℕ → List ℕ → Type 0
OneLast plan Answers need weights most =
    (pre x : List ℕ) (d s touched stripped : ℕ) → length pre ≡ 2 * d → length x ≡ 2 * 2 → NotBefore s x 2 →
    is_cut_list plan (pre ++ x) ≡ true → Answers (pre ++ x) → harmed plan pre s ≤ touched → bared plan pre s ≤ stripped →
    need - (stripped + weight_in weights 1 s (cut_link x 0)) ≤ front_in most s (need - (touched + weight_in weights 0 s (cut_link x 0)))

-- all that the search knows: touches, strips, both, a last pair's, and a whole list's losses
pub record Bounds (plan : Plan) (Answers : List ℕ → Type 0) (need : ℕ) (weights most : List ℕ) : Type 0 where
  pub touches : BoundOn plan Answers need (harmed plan) (weight_in weights 0) (top_in most 0)
  pub strips : BoundOn plan Answers need (bared plan) (weight_in weights 1) (top_in most 1)
  pub both : BoundOn plan Answers (2 * need) (harmed_and_bared plan) (weight_in weights 2) (top_in most 2)
  pub last : OneLast plan Answers need weights most
  pub whole : (cuts : List ℕ) (d s : ℕ) → s ≤ plan.timeout → length cuts ≡ 2 * d → is_cut_list plan cuts ≡ true → Answers cuts →
      need ≤ lost plan cuts s
