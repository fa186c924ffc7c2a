-- A part of a row lies in it: it ends within the row, and each of its numbers is small enough for its field. proofs/Walked.antt has
-- that every part of a row without refusals 1 to 4 does.
use Rattle.std.specs.Prelude.{ℕ, ◌+◌, ◌*◌, ◌≤◌, ◌<◌, ◌≡◌, true, List, length}
use Rattle.scope.specs.Plan.{at, slot_at, flag_at, flagged, second_start, second_count, place_size, after_places, place_count, after_message}
use Rattle.scope.specs.Plan.{vertex_count, link_count, message_count, timeout_of}
use Rattle.scope.specs.SecondPath.{message_index}

-- the second path of the place at index i
pub record SecondLies (row : List ℕ) (i : ℕ) : Type 0 where
  pub few : second_count row i ≤ 16
  pub link : (k : ℕ) → k < second_count row i → at row (second_start i + k) < 64
  pub lies : second_start i + second_count row i ≤ length row

-- the place at index i
pub record PlaceLies (row : List ℕ) (i : ℕ) : Type 0 where
  pub link : at row i < 64
  pub slot : slot_at row i < 64
  pub flag : flag_at row i < 2
  pub second : flagged row i ≡ true → SecondLies row i
  pub lies : i + place_size row i ≤ length row

-- the message at index i
pub record MessageLies (row : List ℕ) (i : ℕ) : Type 0 where
  pub few : place_count row i ≤ 16
  pub place : (p : ℕ) → p < place_count row i → PlaceLies row (after_places row (i + 1) p)
  pub lies : after_message row i ≤ length row

-- the plan of a row
pub record PlanLies (row : List ℕ) : Type 0 where
  pub vertices : vertex_count row ≤ 64
  pub links : link_count row ≤ 64
  pub messages : message_count row ≤ 32
  pub timeout : timeout_of row ≤ 64
  pub from : (e : ℕ) → e < link_count row → at row (5 + 2 * e) < 64
  pub to : (e : ℕ) → e < link_count row → at row (6 + 2 * e) < 64
  pub message : (m : ℕ) → m < message_count row → MessageLies row (message_index row m)
  pub ends : message_index row (message_count row) ≡ length row
