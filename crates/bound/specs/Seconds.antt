-- Which links lie on which second paths, as a list of bytes, link by link: 1 where a link is one of a message's, else 0.
use Rattle.std.specs.Prelude.{ℕ, ◌+◌, ◌*◌, ◌<◌, ◌≡◌, Bool, List, length, get_or}
use Rattle.scope.specs.Limits.{most_links, most_messages, seconds_size}
use Rattle.sets.specs.Sums.{sum_of, one_if}

-- the byte of link e and message m
abbrev pub second_in : List ℕ → ℕ → ℕ → ℕ
second_in seconds e m = get_or seconds (e * most_messages + m) 0

-- how many messages have link e
abbrev pub on_link : List ℕ → ℕ → ℕ
on_link seconds e = sum_of (second_in seconds e) most_messages

-- bytes of all links and messages, each as a test of message and link says
pub record Seconds (through : ℕ → ℕ → Bool) (seconds : List ℕ) : Type 0 where
  pub long : length seconds ≡ seconds_size
  pub is : (m e : ℕ) → m < most_messages → e < most_links → second_in seconds e m ≡ one_if (through m e)
