-- "A plan has V switches and hosts, E directed links, M messages and a timeout t": the plan that a row says.
use Rattle.std.specs.Prelude.{ℕ, zero, suc, ◌+◌, ◌*◌, Bool, cond, List, [], ◌∷◌, get_or, eqb}

pub record Link : Type 0 where
  pub from : ℕ
  pub to : ℕ

-- a place of a first path: its link, its slot, and the second path from there, empty where there is none
pub record Place : Type 0 where
  pub link : ℕ
  pub slot : ℕ
  pub second : List ℕ

pub record Plan : Type 0 where
  pub vertices : ℕ
  pub timeout : ℕ
  pub links : List Link
  pub messages : List (List Place)

-- the number at an index of a row
abbrev pub at : List ℕ → ℕ → ℕ
at row i = get_or row i 0

-- so many numbers from index i on
unfoldable pub numbers_at : List ℕ → ℕ → ℕ → List ℕ
numbers_at row i zero = []
numbers_at row i (suc n) = at row i ∷ numbers_at row (i + 1) n

-- so many links from index i on
unfoldable pub links_at : List ℕ → ℕ → ℕ → List Link
links_at row i zero = []
links_at row i (suc n) = record { from = at row i; to = at row (i + 1) } ∷ links_at row (i + 2) n

-- the slot and the flag of the place at index i, whose link stands there
abbrev pub slot_at : List ℕ → ℕ → ℕ
slot_at row i = at row (i + 1)

abbrev pub flag_at : List ℕ → ℕ → ℕ
flag_at row i = at row (i + 2)

abbrev pub flagged : List ℕ → ℕ → Bool
flagged row i = eqb (flag_at row i) 1

-- where the links of the second path from the place at index i stand, and how many there are
abbrev pub second_start : ℕ → ℕ
second_start i = i + 4

abbrev pub second_count : List ℕ → ℕ → ℕ
second_count row i = at row (i + 3) + 1

abbrev pub second_at : List ℕ → ℕ → List ℕ
second_at row i = cond (flagged row i) (numbers_at row (second_start i) (second_count row i)) []

abbrev pub place_at : List ℕ → ℕ → Place
place_at row i = record { link = at row i; slot = slot_at row i; second = second_at row i }

-- how many numbers the place at index i takes
abbrev pub place_size : List ℕ → ℕ → ℕ
place_size row i = cond (flagged row i) (4 + second_count row i) 3

-- so many places from index i on, and the index after them
unfoldable pub places_at : List ℕ → ℕ → ℕ → List Place
places_at row i zero = []
places_at row i (suc n) = place_at row i ∷ places_at row (i + place_size row i) n

unfoldable pub after_places : List ℕ → ℕ → ℕ → ℕ
after_places row i zero = i
after_places row i (suc n) = after_places row (i + place_size row i) n

-- the message whose number of links less one stands at index i
abbrev pub place_count : List ℕ → ℕ → ℕ
place_count row i = at row i + 1

abbrev pub message_at : List ℕ → ℕ → List Place
message_at row i = places_at row (i + 1) (place_count row i)

abbrev pub after_message : List ℕ → ℕ → ℕ
after_message row i = after_places row (i + 1) (place_count row i)

-- so many messages from index i on, and the index of the one after them
unfoldable pub messages_at : List ℕ → ℕ → ℕ → List (List Place)
messages_at row i zero = []
messages_at row i (suc n) = message_at row i ∷ messages_at row (after_message row i) n

unfoldable pub after_messages : List ℕ → ℕ → ℕ → ℕ
after_messages row i zero = i
after_messages row i (suc n) = after_messages row (after_message row i) n

-- V, E, M and t: the file has each less one
abbrev pub vertex_count : List ℕ → ℕ
vertex_count row = at row 1 + 1

abbrev pub link_count : List ℕ → ℕ
link_count row = at row 2 + 1

abbrev pub message_count : List ℕ → ℕ
message_count row = at row 3 + 1

abbrev pub timeout_of : List ℕ → ℕ
timeout_of row = at row 4 + 1

-- where the links and the messages stand
abbrev pub first_link : ℕ
first_link = 5

abbrev pub first_message : List ℕ → ℕ
first_message row = first_link + 2 * link_count row

unfoldable pub plan_of : List ℕ → Plan
plan_of row =
    record {
      vertices = vertex_count row;
      timeout = timeout_of row;
      links = links_at row first_link (link_count row);
      messages = messages_at row (first_message row) (message_count row);
    }

-- the link of a number, and the first path of a message, of a plan
abbrev pub link_of : Plan → ℕ → Link
link_of plan e = get_or plan.links e (record { from = 0; to = 0 })

abbrev pub path_of : Plan → ℕ → List Place
path_of plan m = get_or plan.messages m []

-- the place of a message; without a second path where there is no such message or place
abbrev pub place_of : Plan → ℕ → ℕ → Place
place_of plan m p = get_or (path_of plan m) p (record { link = 0; slot = 0; second = [] })
