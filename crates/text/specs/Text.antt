-- What writing into a lent buffer leaves there.
use Rattle.std.specs.Prelude.{ℕ, ◌+◌, ◌<◌, ◌^◌, ◌≡◌, List, [], ◌∷◌, length, set}

-- a buffer with a text, of bytes or of other items, laid over it from an index on, as far as the buffer goes
unfoldable pub laid : {A : Type 0} → List A → ℕ → List A → List A
laid buffer at [] = buffer
laid buffer at (b ∷ text) = laid (set buffer at b) (at + 1) text

-- the index after the text can be told
pub record Told {A : Type 0} (at : ℕ) (text : List A) : Type 0 where
  pub fits : at + length text < 2 ^ 64

-- the text is laid over a buffer from index `at` on, and `next` is the index after it
pub record Puts {A : Type 0} (text before after : List A) (at next : ℕ) : Type 0 where
  pub buffer : after ≡ laid before at text
  pub ends : next ≡ at + length text
