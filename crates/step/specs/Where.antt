-- What a position in a row says: the places or links that are left to it, and where they end.
use Rattle.std.specs.Prelude.{ℕ, ◌+◌, ◌-◌, ◌≤◌, ◌<◌, ◌≡◌, Bool, not, ◌&&◌, cond, List, eqb}
use Rattle.scope.specs.Plan.{Place, at, slot_at, numbers_at, place_at, place_size, places_at, after_places}
use Rattle.scope.specs.Slot as S
use Rattle.step.specs.declared.Position.{Position}
use Rattle.step.specs.declared.Met.{Met}
use Rattle.step.specs.declared.Moved.{Moved}
use Rattle.step.specs.Events.{event_of}

-- what is left from index i on: n links of a second path for a message that has turned, n places of its first path else
abbrev pub left_at : List ℕ → Bool → ℕ → ℕ → S.Position
left_at row turned i n = cond turned (S.on_second (numbers_at row i n)) (S.on_first (places_at row i n))

abbrev pub position_of : List ℕ → Position → S.Position
position_of row p = left_at row p.turned p.at p.left

abbrev pub moved_of : List ℕ → Moved → S.Moved
moved_of row m = record { next = position_of row m.next; event = event_of m.event }

-- the index after all that is left
abbrev pub end_at : List ℕ → Bool → ℕ → ℕ → ℕ
end_at row turned i n = cond turned (i + n) (after_places row i n)

abbrev pub end_of : List ℕ → Position → ℕ
end_of row p = end_at row p.turned p.at p.left

-- what is left after the next place, and after the next link
abbrev pub places_after : List ℕ → Position → List Place
places_after row p = places_at row (p.at + place_size row p.at) (p.left - 1)

abbrev pub links_after : List ℕ → Position → List ℕ
links_after row p = numbers_at row (p.at + 1) (p.left - 1)

-- what a message at p does on its first path, and on its second path, with its next link cut or whole
abbrev pub does_first : List ℕ → Position → Bool → ℕ → S.Moved
does_first row p cut slot = S.on_first_path cut slot (place_at row p.at) (places_after row p)

abbrev pub does_second : List ℕ → Position → Bool → ℕ → Bool → ℕ → S.Moved
does_second row p cut entry held first = S.on_second_path cut entry held first (at row p.at) (links_after row p)

-- it waits: on its first path, with its next link whole, in another slot than its own there
abbrev pub waits_in : List ℕ → (ℕ → Bool) → ℕ → Position → Bool
waits_in row down slot p = not (eqb (slot_at row p.at) slot) && not p.turned && not (down (at row p.at))

-- r is the position `next`, and does not go beyond p's end
pub record Leads (row : List ℕ) (p : Position) (next : S.Position) (r : Position) : Type 0 where
  pub is : position_of row r ≡ next
  pub within : end_of row r ≤ end_of row p

-- r is what a message at p does, and its next position does not go beyond p's end
pub record Acts (row : List ℕ) (p : Position) (does : S.Moved) (r : Moved) : Type 0 where
  pub is : moved_of row r ≡ does
  pub within : end_of row r.next ≤ end_of row p

-- r is the position p, with the link before it
pub record Faces (row : List ℕ) (down : ℕ → Bool) (p : Position) (r : Met) : Type 0 where
  pub same : r.position ≡ p
  pub link : r.link ≡ at row p.at
  pub cut : r.down ≡ down r.link

-- r is where a message at p stands after its turn, with the link before it: it is not yet at its target
pub record Meets (row : List ℕ) (down : ℕ → Bool) (p : Position) (r : Met) : Type 0 where
  pub turned : Leads row p (S.turn down (position_of row p)) r.position
  pub left : 0 < r.position.left
  pub link : r.link ≡ at row r.position.at
  pub cut : r.down ≡ down r.link

-- r is what a message does that meets this, whatever else is down
abbrev pub MetActs : List ℕ → ℕ → ℕ → Bool → ℕ → Met → Moved → Type 0
MetActs row slot entry held first met r =
    (down : ℕ → Bool) → met.down ≡ down met.link →
    Acts row met.position (S.act down slot entry held first (position_of row met.position)) r
