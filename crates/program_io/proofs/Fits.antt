-- What came lies within its buffer.
use Rattle.std.proofs.Common.{ℕ, ◌≤◌, ◌≡◌, sym, List, length, take, Option, Some}
use Rattle.std.proofs.lemmas.List.{length-take-le}
use Rattle.program_io.specs.Came.{Source, standard_input, Came, Reads}

module _ (source : Source) (n : ℕ) (buffer : List ℕ) (c : Came source n buffer) where
  pub came-fits : n ≤ length buffer
  unfolding Came
  came-fits = c

  pub came-whole : n ≡ length (take n buffer)
  came-whole = sym (length-take-le n buffer came-fits)

pub bytes-came : (r : Option ℕ) (n : ℕ) (buffer : List ℕ) → r ≡ Some n → Reads r buffer → Came standard_input n buffer
bytes-came r n buffer e h = (rw e at h).0
