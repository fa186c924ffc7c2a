-- A line stays small, whatever byte it is read with.
use Prim.Native.Nat.{ℕ, ◌<◌}
use mathlib.Core.Path.{◌≡◌}
use mathlib.Core.Bool.{true}
use native.Mathlib.Omega.{arith}
use Rattle.text.specs.Reading.{goes_on}
use Rattle.text.proofs.Going.{goes_digit}
use Rattle.capture_lines.specs.Rest.{with_digit, with_number, SmallLine}
use Rattle.capture_lines.specs.declared.Line.{Line}

pub digit_small : (l : Line) (b : ℕ) → SmallLine l → goes_on 63 l.begun l.value b ≡ true → SmallLine (with_digit l b)
digit_small l b s g = record {
  numbers = s.numbers;
  value = (goes_digit 63 l.begun l.value b g).fits;
  older = s.older;
  newer = s.newer;
}

pub number_small : (l : Line) → SmallLine l → l.numbers < 2 → SmallLine (with_number l)
number_small l s h = record { numbers = omega arith; value = omega arith; older = s.newer; newer = s.value }
