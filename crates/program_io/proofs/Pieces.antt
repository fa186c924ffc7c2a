-- What came piece by piece: nothing before the first read, and of a read that did not fail what it gave.
use Rattle.std.proofs.Common.{ℕ, ◌≤◌, ◌≡◌, sym, List, [], length, Option, Some}
use Rattle.std.proofs.lemmas.List.{length-take-le}
use Rattle.program_io.specs.Pieces.{CameIn, CameWhole, Piece, ReadsPiece}

pub none_came : CameIn 0 []
unfolding CameIn
none_came = tt

pub piece_came : (n turns : ℕ) (buffer : List ℕ) → n ≤ length buffer → Piece n turns buffer
unfolding CameIn CameWhole
piece_came n turns buffer fits =
    record { counts = (fits, sym (length-take-le n buffer fits)); more = λ before came. tt; end = λ z before came. tt }

pub piece_of : (r : Option ℕ) (n turns : ℕ) (buffer : List ℕ) → r ≡ Some n → ReadsPiece r turns buffer → Piece n turns buffer
piece_of r n turns buffer e h = rw e at h
