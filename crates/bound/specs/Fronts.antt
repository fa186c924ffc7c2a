-- What one pair can both touch and strip: for each slot and each count of messages, no pair of that slot that touches at least so many strips
-- more than a number says.
use Rattle.std.specs.Prelude.{ℕ, min, ◌≤◌, ◌<◌, ◌≡◌, List, length, get_or}
use Rattle.scope.specs.Limits.{most_slots, most_links, most_messages, weights_size, front_size, fronts_size}
use Rattle.bound.specs.Bounds.{weight_in, front_of}

pub record MayFront (weights : List ℕ) (slots : ℕ) (fronts : List ℕ) : Type 0 where
  pub weigh : length weights ≡ weights_size
  pub few : slots ≤ most_slots
  pub long : length fronts ≡ fronts_size

-- what each of the first n links strips is at most the number for how many it touches
pub record Bucketed (touches strips : List ℕ) (n : ℕ) (row : List ℕ) : Type 0 where
  pub long : length row ≡ front_size
  pub most : (e : ℕ) → e < n → get_or strips e 0 ≤ get_or row (min (get_or touches e 0) most_messages) 0

-- each number is at least those for more messages
pub record RunsDown (old new : List ℕ) : Type 0 where
  pub long : length new ≡ front_size
  pub most : (x y : ℕ) → x ≤ y → y ≤ most_messages → get_or old y 0 ≤ get_or new x 0

-- of slot s alone, in its own row
pub record FrontRow (weights : List ℕ) (s : ℕ) (row : List ℕ) : Type 0 where
  pub long : length row ≡ front_size
  pub most : (e x : ℕ) → e < most_links → x ≤ weight_in weights 0 s e → weight_in weights 1 s e ≤ get_or row (min x most_messages) 0

pub record Fronts (weights : List ℕ) (slots : ℕ) (fronts : List ℕ) : Type 0 where
  pub long : length fronts ≡ fronts_size
  pub most : (s e x : ℕ) → s < slots → e < most_links → x ≤ weight_in weights 0 s e → weight_in weights 1 s e ≤ get_or fronts (front_of s x) 0
