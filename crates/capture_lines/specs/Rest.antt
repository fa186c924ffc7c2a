-- A line of a capture, read byte by byte: what a byte does to it, and which numbers the rest of a text still adds to the capture.
use Rattle.std.specs.Prelude.{ℕ, ◌+◌, ◌-◌, ◌*◌, ◌≤◌, Bool, true, false, not, cond, ◌&&◌, List, [], ◌∷◌, ltb, eqb}
use Rattle.text.specs.Reading.{goes_on}
use Rattle.capture_lines.specs.declared.Line.{Line}
use Rattle.capture_lines.specs.declared.Step.{Step}
use Rattle.capture_lines.specs.declared.Step.TheVariants.{On, End, Out}

-- a line of which so many numbers are read, the last two of them, and nothing of the next
abbrev pub line_of : ℕ → ℕ → ℕ → Line
line_of n a b = record { numbers = n; begun = false; value = 0; older = a; newer = b }

-- "no line at all": nothing of it is read
abbrev pub fresh : Line
fresh = line_of 0 0 0

-- "single spaces and a line feed": the byte that ends the number that is being read
abbrev pub end_mark : ℕ → ℕ
end_mark n = cond (ltb n 2) 32 10

-- a line with a digit more, and with its number ended
abbrev pub with_digit : Line → ℕ → Line
with_digit l b = record { numbers = l.numbers; begun = true; value = l.value * 10 + (b - 48); older = l.older; newer = l.newer }

abbrev pub with_number : Line → Line
with_number l = line_of (l.numbers + 1) l.newer l.value

-- what a byte does to a line: it goes on, it ends with this byte, or it is out of form
abbrev pub step_of : Line → ℕ → Step
step_of l b =
    cond (goes_on 63 l.begun l.value b) (On (with_digit l b))
    (cond (l.begun && eqb b (end_mark l.numbers)) (cond (ltb l.numbers 2) (On (with_number l)) End) Out)

-- the line that is read after that
abbrev pub line_after : Step → Line
line_after (On l) = l
line_after End = fresh
line_after Out = fresh

-- what the byte adds to the capture before what the rest adds: a triple, where a line has ended, or, where one is out of form, a lone number
-- and nothing behind it
abbrev pub adds : Step → Line → List ℕ → List ℕ
adds (On l) line more = more
adds End line more = line.older ∷ line.newer ∷ line.value ∷ more
adds Out line more = 0 ∷ []

-- nothing of the line is read
abbrev pub is_fresh : Line → Bool
is_fresh l = eqb l.numbers 0 && not l.begun

-- the numbers that a text still adds to a capture, in the midst of a line: a text that ends in a line is out of form
unfoldable pub rest_of : Line → List ℕ → List ℕ
rest_of l [] = cond (is_fresh l) [] (0 ∷ [])
rest_of l (b ∷ text) = adds (step_of l b) l (rest_of (line_after (step_of l b)) text)

-- the numbers of a line are small
pub record SmallLine (l : Line) : Type 0 where
  pub numbers : l.numbers ≤ 2
  pub value : l.value ≤ 63
  pub older : l.older ≤ 63
  pub newer : l.newer ≤ 63
