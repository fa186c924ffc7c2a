-- A whole file: its edition, its fields and its end, one law for each way that it can go.
use Prim.Native.Nat.{ℕ, ◌*◌, ◌≤◌}
use mathlib.Core.Path.{◌≡◌, refl, sym, ◌∙◌}
use mathlib.Core.Bool.{false}
use mathlib.Core.List.{List, [], ◌∷◌}
use native.Mathlib.Omega.{arith}
use lib.ListN.{length, set}
use lib.Dec.{ltb}
use borrow.Author.Tests.{le-ltb, eq-eqb, ne_eqb}
use Rattle.scope.specs.Outcome.{Outcome, gives, refuse, and_then, outcome_of}
use Rattle.scope.specs.Fields.{opening, edition}
use Rattle.scope.specs.Bits.{bits, field_at}
use Rattle.scope.specs.File.{walk_bits, fields_of, ends_at, walk_file, row_of}
use Rattle.bits.proofs.Laws.{length-bits, are-bits}
use Rattle.scope.specs.Limits.{longest_row, longest_bits}
use Rattle.forms.specs.declared.Unpacked.{Unpacked}
use Rattle.forms.specs.Unpack.{Unpacks}
use Rattle.grammar.proofs.Most.{wide_opening}
use Rattle.forms.proofs.Accepted.{Goes, goes, goes-inside, goes-bound}

pub empty_file : (file row : List ℕ) (r : Unpacked) → length file ≡ 0 → longest_row ≤ length row → outcome_of r.answer ≡ refuse 2 0 →
    r.count ≡ 1 →
    Unpacks file row (set row 0 edition) (walk_file file) r
unfolding walk_file row_of fields_of bits
empty_file [] [] r none room is count = absurd (omega arith)
empty_file [] (x ∷ row) r none room is count = record { answer = is; count = count; few = omega arith; row = refl }
empty_file (b ∷ file) row r none room is count = absurd (omega arith)

module _ (file : List ℕ) (some : length file ≡ 0 → ⊥) where
  enough : ltb (length (bits file)) 4 ≡ false
  enough = le-ltb (length (bits file)) 4 (rw length-bits (omega arith))

  pub other-edition : (field_at (bits file) 0 4 ≡ edition → ⊥) → walk_file file ≡ refuse 1 0
  unfolding walk_file
  other-edition h = rw (enough, ne_eqb (field_at (bits file) 0 4) edition h)

  pub file_opens : field_at (bits file) 0 4 ≡ edition →
      walk_file file ≡ and_then (walk_bits (length (bits file)) opening 4 (bits file)) (ends_at (bits file))
  unfolding walk_file
  file_opens h = rw (enough, eq-eqb (field_at (bits file) 0 4) edition h)

  -- the last field ends within the file, and within the longest
  pub end-inside : (end : ℕ) → walk_bits (length (bits file)) opening 4 (bits file) ≡ gives end → (end ≤ 8 * length file) × (end ≤ longest_bits)
  end-inside end e =
      let all : length (bits file) ≡ 8 * length file = length-bits file in
      let way : Goes (bits file) end (length (bits file)) opening 4 = goes (bits file) end (length (bits file)) opening 4 e in
      (omega (arith, goes-inside way (omega arith)), omega (arith, goes-bound (are-bits file) way, wide_opening))

-- the same row with the answer of the whole file
pub with_answer : (file entry exit : List ℕ) (walked o : Outcome) (r t : Unpacked) → Unpacks file entry exit walked r → walk_file file ≡ o →
    outcome_of t.answer ≡ o → t.count ≡ r.count → Unpacks file entry exit (walk_file file) t
with_answer file entry exit walked o r t h is says count =
    record { answer = says ∙ sym is; count = count ∙ h.count; few = omega (arith, h.few); row = h.row }
