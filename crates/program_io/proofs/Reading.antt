-- What a read that did not fail gives.
use Rattle.std.proofs.Common.{ℕ, ◌≤◌, ◌≡◌, sym, List, length, arith, Result, Ok, Err, Option}
use Rattle.std.proofs.lemmas.List.{length-take-le}
use Rattle.program_io.specs.Counts.{IsPrefixLen}
use Rattle.program_io.specs.Came.{Source, Came, standard_input, Reads}
use Rattle.program_io.specs.More.{says}
use Rattle.program_io.specs.Pieces.{ReadsPiece}
use Rattle.program_io.proofs.Pieces.{piece_came}

pub came : (source : Source) (n : ℕ) (buffer : List ℕ) → n ≤ length buffer → Came source n buffer × IsPrefixLen n buffer
unfolding Came
came source n buffer h = (h, (h, sym (length-take-le n buffer h)))

-- a count lies within the bytes that were handed over
module _ {E : Type 0} (buffer : List ℕ) where
  pub reads : (got : Result ℕ E) (r : Option ℕ) → r ≡ says got (length buffer) → Reads r buffer
  unfolding says
  reads (Ok k) r e = rw e (came standard_input _ buffer (omega arith))
  reads (Err x) r e = rw e tt

  pub reads_piece : (turns : ℕ) (got : Result ℕ E) (r : Option ℕ) → r ≡ says got (length buffer) → ReadsPiece r turns buffer
  unfolding says
  reads_piece turns (Ok k) r e = rw e (piece_came _ turns buffer (omega arith))
  reads_piece turns (Err x) r e = rw e tt
