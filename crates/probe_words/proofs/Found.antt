-- Laws of a number behind a space.
use Rattle.std.proofs.Common.{ℕ, ◌+◌, ◌≤◌, ◌<◌, Option, Some, None, MatchOption}
use mathlib.Core.Path.{◌≡◌, refl, sym, ◌∙◌}
use mathlib.Core.Bool.{Bool, true, false, ◌&&◌}
use mathlib.Core.List.{List}
use native.Mathlib.Omega.{arith}
use lib.ListN.{length, get_or-eq_default}
use lib.Dec.{ltb, eqb}
use borrow.Author.Tests.{lt-ltb, le-ltb, eq-eqb, ne_eqb}
use Rattle.scope.specs.Lines.{byte_at}
use Rattle.text.specs.Reading.{size_at, Reads}
use Rattle.text.specs.declared.Number.{Number}
use Rattle.probe_words.specs.Words.{Finds, is_number, number_next, number_value}

past_end : (s : List ℕ) (i : ℕ) → length s ≤ i → byte_at s i ≡ 0
past_end s i h = get_or-eq_default s 0 h

and_not : (a b : Bool) → b ≡ false → (a && b) ≡ false
and_not true b e = e
and_not false b e = refl

module _ (line : List ℕ) (i : ℕ) where
  no_number : is_number line i ≡ false → number_next line i ≡ i
  no_number e = rw e

  pub number_past : length line ≤ i → number_next line i ≡ i
  number_past h = no_number (rw (past_end line i h))

  module _ (b : ℕ) (p : b ≡ byte_at line i) where
    pub number-other : (b ≡ 32 → ⊥) → number_next line i ≡ i
    number-other n = no_number (rw (← p, ne_eqb b 32 n))

    -- what the reader of `text` finds behind the space
    pub number-read : (o : Option Number) →
        MatchOption o (size_at 65535 line (i + 1) ≡ 0) (λ r. (0 < size_at 65535 line (i + 1)) × Reads 65535 line (i + 1) r) →
        i < length line → b ≡ 32 →
        MatchOption o (number_next line i ≡ i)
        (λ r. (i < number_next line i) × Finds (number_value line) (number_next line) 65535 (length line) i r)
    number-read None z h s =
        no_number (and_not (eqb (byte_at line i) 32) (ltb 0 (size_at 65535 line (i + 1))) (le-ltb 0 (size_at 65535 line (i + 1)) (omega arith)))
    number-read (Some r) q h s =
        let n = q.1.next in
        let some : is_number line i ≡ true = rw (← p, eq-eqb b 32 s, lt-ltb 0 (size_at 65535 line (i + 1)) q.0) in
        let next : number_next line i ≡ i + 1 + size_at 65535 line (i + 1) = rw some in (
          omega arith,
          record {
            behind = n ∙ sym next;
            is = q.1.value ∙ sym (rw (lt-ltb i (number_next line i) (omega arith)));
            small = q.1.small;
            within = let w = q.1.within in omega arith;
          },
        )
