-- What looking at a row gives.
use Rattle.std.specs.Prelude.{ℕ, ◌+◌, ◌*◌, ◌<◌, ◌≤◌, ◌≡◌, true, cond, List, [], take, drop}
use Rattle.rows.specs.declared.Span.{Span}
use Rattle.scope.specs.Plan.{at, slot_at, flagged, second_start, second_count, place_size}
use Rattle.scope.specs.SecondPath.{place_index, has_second}
use Rattle.rows.specs.declared.RowPlace.{RowPlace}

-- r is the number at index i of a row, which has 16 bits
pub record Number (row : List ℕ) (i r : ℕ) : Type 0 where
  pub is : r ≡ at row i
  pub small : r < 65536

-- r is this value, which is at most so much
pub record Is (value most r : ℕ) : Type 0 where
  pub is : r ≡ value
  pub small : r ≤ most

-- r is the place at index i of a row
pub record IsPlace (row : List ℕ) (i : ℕ) (r : RowPlace) : Type 0 where
  pub link : r.link ≡ at row i
  pub link_small : r.link < 65536
  pub slot : r.slot ≡ slot_at row i
  pub slot_small : r.slot < 65536
  pub second : r.second ≡ second_start i
  pub count : r.count ≡ cond (flagged row i) (second_count row i) 0
  pub few : r.count ≤ 65536
  pub next : r.next ≡ i + place_size row i
  pub near : r.next ≤ i + 65540

-- a part of a row, or an empty one: what it holds, and that it begins at this index of the row itself, whose numbers take 2 bytes each
pub record PartAt (holds : List ℕ) (index : ℕ) (row : ℕ × ℕ) (now : List ℕ) (part : ℕ × ℕ) : Type 0 where
  pub shows : now ≡ holds
  pub same : part.0 ≡ row.0
  pub begins : part.1 ≡ row.1 + 2 * index

-- the second path of message m from place p as a part of a row, empty where there is none
abbrev pub second_part : List ℕ → ℕ → ℕ → List ℕ
second_part row m p =
    cond (has_second row m p)
    (take (second_count row (place_index row m p)) (drop (second_start (place_index row m p)) row))
    []

-- where that part begins, at the row's first number where it is empty
abbrev pub second_index : List ℕ → ℕ → ℕ → ℕ
second_index row m p = cond (has_second row m p) (second_start (place_index row m p)) 0

-- and where it ends
abbrev pub second_end : List ℕ → ℕ → ℕ → ℕ
second_end row m p = cond (has_second row m p) (second_start (place_index row m p) + second_count row (place_index row m p)) 0

-- r is where the second path of message m from place p stands in a row, from one index to another
pub record IsSpan (row : List ℕ) (m p : ℕ) (r : Span) : Type 0 where
  pub there : has_second row m p ≡ true
  pub begins : r.from ≡ second_index row m p
  pub ends : r.to ≡ second_end row m p
