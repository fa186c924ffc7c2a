-- Laws of the lines: what each is made of, and how long they are.
use Prim.Native.Nat.{ℕ, zero, suc, ◌+◌, ◌-◌, ◌*◌, ◌/◌, ◌%◌, ◌≤◌, ◌<◌}
use mathlib.Core.Path.{◌≡◌, refl, ap}
use mathlib.Core.List.{List, [], ◌∷◌, ◌++◌, append_assoc}
use native.Mathlib.Omega.{arith}
use native.Mathlib.Nat.{mul-le-mul}
use lib.ListN.{length, get_or, length-append}
use Rattle.scope.specs.Lines.{decimal, line_feed, header, event_line, event_lines, arrived_line, refused_text, refused_line, listing}
use Rattle.scope.specs.declared.Refusal.{Refusal}
use Rattle.scope.specs.Outcome.{gives}
use Rattle.scope.specs.Plan.{plan_of, message_count, timeout_of, first_message, messages_at, after_message}
use Rattle.text.specs.Text.{Told}
use Rattle.text.proofs.Decimal.{decimal-all}
use Rattle.text.proofs.Refused.{refused_text_size}

-- a number and the byte after it
abbrev pub part : ℕ → ℕ → List ℕ
part n mark = decimal n ++ (mark ∷ [])

pub event_parts : (i m k n : ℕ) → event_line i m k n ≡ part i 32 ++ (part m 32 ++ (part k 32 ++ part n 10))
event_parts i m k n = simp append_assoc

-- n events of a row, at event j: its line, whose kind and number were read, and the lines after it; and nothing at the end
module _ (m : ℕ) (row : List ℕ) where
  pub lines_more : (j n k v : ℕ) → j < n → k ≡ get_or row (2 * j) 0 → v ≡ get_or row (2 * j + 1) 0 →
      event_lines m row j (n - j) ≡ event_line (j / m) (j % m) k v ++ event_lines m row (j + 1) (n - (j + 1))
  unfolding event_lines
  lines_more j n k v h p q =
      let e : n - j ≡ suc (n - (j + 1)) = omega arith in
      rw (e, p, q)

  pub lines_done : (j n : ℕ) → n ≤ j → event_lines m row j (n - j) ≡ []
  unfolding event_lines
  lines_done j n h =
      let e : n - j ≡ zero = omega arith in
      rw e

  pub lines_first : (n : ℕ) → event_lines m row 0 n ≡ event_lines m row 0 (n - 0)
  lines_first n =
      let e : n ≡ n - 0 = omega arith in
      ap (event_lines m row 0) e

-- how long a line and so many lines can be
event-size : (i m k n : ℕ) → length (event_line i m k n) ≤ 84
event-size i m k n =
    let a = decimal-all i in
    let b = decimal-all m in
    let d = decimal-all k in
    let e = decimal-all n in
    simp length-append (omega arith)

lines_size : (m : ℕ) (row : List ℕ) (j n : ℕ) → length (event_lines m row j n) ≤ n * 84
unfolding event_lines
lines_size m row j zero = omega arith
lines_size m row j (suc n) =
    let h = lines_size m row (j + 1) n in
    let l = event_line (j / m) (j % m) (get_or row (2 * j) 0) (get_or row (2 * j + 1) 0) in
    let e = event-size (j / m) (j % m) (get_or row (2 * j) 0) (get_or row (2 * j + 1) 0) in
    let a = length-append l (event_lines m row (j + 1) n) in
    omega arith

arrived-size : (n m : ℕ) → length (arrived_line n m) ≤ 53
arrived-size n m =
    let a = decimal-all n in
    let b = decimal-all m in
    simp length-append (omega arith)

pub refused-size : (r : Refusal) → length (refused_line r) ≤ 98
refused-size r =
    let a = refused_text_size r in
    let b = length-append (refused_text r) line_feed in
    omega arith

pub refused-told : (r : Refusal) → Told 0 (refused_line r)
refused-told r = record { fits = omega (arith, refused-size r) }

-- the parts of a listing with n arrivals, with m messages and timeout t
abbrev pub replay_text : ℕ → ℕ → ℕ → List ℕ → List ℕ
replay_text n m t events = header ++ (event_lines m events 0 (t * m) ++ arrived_line n m)

pub few_lines : (m t : ℕ) → m ≤ 65536 → t ≤ 65536 → t * m ≤ 4294967296
few_lines m t h g = mul-le-mul g h

pub replay-told : (n m t : ℕ) (events : List ℕ) → m ≤ 65536 → t ≤ 65536 → Told 0 (replay_text n m t events)
replay-told n m t events h g =
    let few = few_lines m t h g in
    let l = lines_size m events 0 (t * m) in
    let a = arrived-size n m in
    let e = length-append (event_lines m events 0 (t * m)) (arrived_line n m) in
    let f = length-append header (event_lines m events 0 (t * m) ++ arrived_line n m) in
    record { fits = omega arith }

count-messages : (row : List ℕ) (i n : ℕ) → length (messages_at row i n) ≡ n
unfolding messages_at
count-messages row i zero = refl
count-messages row i (suc n) = ap suc (count-messages row (after_message row i) n)

pub replay_parts : (n : ℕ) (row events : List ℕ) (m t : ℕ) → m ≡ message_count row → t ≡ timeout_of row →
    listing (gives n) (plan_of row) events ≡ replay_text n m t events
unfolding listing plan_of
replay_parts n row events m t p q =
    rw (count-messages row (first_message row) (message_count row), p, q)
