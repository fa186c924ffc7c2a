-- A second path as a part of the row, for a caller that is shown no slice: where the part begins, and how many links it has.
use Rattle.std.specs.Prelude.{ℕ, ◌≡◌, cond, List, length, take, drop, eqb}
use Rattle.scope.specs.Plan.{second_start}
use Rattle.scope.specs.SecondPath.{place_index}
use Rattle.scope.specs.Questions.{second_path}

-- the second path of message m from place q has n links, which begin at this index; 0 and 0 where there is none
pub record TellsPart (row : List ℕ) (m q n index : ℕ) : Type 0 where
  pub count : n ≡ length (second_path row m q)
  pub begins : index ≡ cond (eqb n 0) 0 (second_start (place_index row m q))
  pub part : take n (drop index row) ≡ second_path row m q
