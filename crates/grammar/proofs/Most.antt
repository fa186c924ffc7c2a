-- How much can still follow: the most that the fields from here on can cost, for any cost of a field by its width. One for each field
-- gives the most numbers of a row, and the width itself the most bits of a file. Reading a field lowers it by what that field costs.
use Prim.Native.Nat.{ℕ, zero, suc, ◌+◌, ◌-◌, ◌*◌, ◌^◌, ◌≤◌, ◌<◌}
use mathlib.Core.Path.{◌≡◌, refl, ◌∙◌}
use native.Mathlib.Nat.{mul-le-mul_right}
use native.Mathlib.Omega.{arith}
use lib.Dec.{eqb-suc-zero}
use lib.Pow.{pow_mono}
use borrow.Author.Tests.{ne_eqb}
use Rattle.scope.specs.declared.Fields.{Fields}
use Rattle.scope.specs.declared.Field.{Field}
use Rattle.scope.specs.declared.Field.TheVariants.{Vertices, Links, Messages, Timeout, From, To, Length, Link, Slot, Flag, SecondLength}
use Rattle.scope.specs.declared.Field.TheVariants.{SecondLink, End}
use Rattle.scope.specs.Fields.{width_of, width, step, following, next_message, next_place, next_link, next_second, after_flag, opening}

module _ (cost : ℕ → ℕ) (slot : ℕ) where
  -- a link, a second path, a place of a first path, a message
  unfoldable pub link : ℕ
  link = cost 6 + cost 6

  unfoldable pub second : ℕ
  second = cost 4 + 16 * cost 6

  unfoldable pub place : ℕ
  place = cost 6 + cost slot + cost 1 + second

  unfoldable pub message : ℕ
  message = cost 4 + 16 * place

  abbrev pub most_of : Field → ℕ
  most_of Vertices = cost 6 + cost 6 + cost 5 + cost slot + 64 * link + 32 * message
  most_of Links = cost 6 + cost 5 + cost slot + 64 * link + 32 * message
  most_of (Messages e) = cost 5 + cost slot + (e + 1) * link + 32 * message
  most_of (Timeout e m) = cost slot + (e + 1) * link + (m + 1) * message
  most_of (From e m) = (e + 1) * link + (m + 1) * message
  most_of (To e m) = cost 6 + e * link + (m + 1) * message
  most_of (Length m) = (m + 1) * message
  most_of (Link p m) = (p + 1) * place + m * message
  most_of (Slot p m) = cost slot + cost 1 + second + p * place + m * message
  most_of (Flag p m) = cost 1 + second + p * place + m * message
  most_of (SecondLength p m) = second + p * place + m * message
  most_of (SecondLink e p m) = (e + 1) * cost 6 + p * place + m * message
  most_of End = 0

  -- after a message, a place, a link, a link of a second path, a flag
  after-message : (m : ℕ) → most_of (next_message m) ≤ m * message
  after-message zero = omega arith
  after-message (suc m) = let e : suc m - 1 ≡ m = omega arith in rw (eqb-suc-zero m, e) (omega arith)

  after-place : (p m : ℕ) → most_of (next_place p m) ≤ p * place + m * message
  after-place zero m = omega (arith, after-message m)
  after-place (suc p) m = let e : suc p - 1 ≡ p = omega arith in rw (eqb-suc-zero p, e) (omega arith)

  after-link : (e m : ℕ) → most_of (next_link e m) ≤ e * link + (m + 1) * message
  after-link zero m = omega arith
  after-link (suc n) m = let e : suc n - 1 ≡ n = omega arith in rw (eqb-suc-zero n, e) (omega arith)

  after-second : (n p m : ℕ) → most_of (next_second n p m) ≤ n * cost 6 + p * place + m * message
  after-second zero p m = omega (arith, after-place p m)
  after-second (suc n) p m = let e : suc n - 1 ≡ n = omega arith in rw (eqb-suc-zero n, e) (omega arith)

  after-flag : (v p m : ℕ) → most_of (after_flag v p m) ≤ second + p * place + m * message
  after-flag zero p m = omega (arith, after-place p m)
  after-flag (suc zero) p m = omega arith
  after-flag (suc (suc v)) p m = rw (ne_eqb (suc (suc v)) 1 (λ e. omega arith)) (omega (arith, after-place p m))

  pub falls_of : (n : Field) (v : ℕ) → (width_of slot n ≡ 0 → ⊥) → v < 2 ^ width_of slot n →
      cost (width_of slot n) + most_of (following n v) ≤ most_of n
  unfolding link second place message
  falls_of Vertices v h l = omega arith
  falls_of Links v h l = omega (arith, mul-le-mul_right link l)
  falls_of (Messages e) v h l = omega (arith, mul-le-mul_right message l)
  falls_of (Timeout e m) v h l = omega arith
  falls_of (From e m) v h l = omega arith
  falls_of (To e m) v h l = omega (arith, after-link e m)
  falls_of (Length m) v h l = omega (arith, mul-le-mul_right place l)
  falls_of (Link p m) v h l = omega arith
  falls_of (Slot p m) v h l = omega arith
  falls_of (Flag p m) v h l = omega (arith, after-flag v p m)
  falls_of (SecondLength p m) v h l = omega (arith, mul-le-mul_right (cost 6) l)
  falls_of (SecondLink e p m) v h l = omega (arith, after-second e p m)
  falls_of End v h l = absurd (h refl)

abbrev pub most : (ℕ → ℕ) → Fields → ℕ
most cost s = most_of cost s.slot s.next

-- "A field has at least one bit": while there is one, what can follow falls by its cost
pub falls : (cost : ℕ → ℕ) (s : Fields) (v : ℕ) → (width s ≡ 0 → ⊥) → v < 2 ^ width s → cost (width s) + most cost (step s v) ≤ most cost s
falls cost s v h l = falls_of cost s.slot s.next v h l

-- the most numbers, and the most bits, from a field on
abbrev pub numbers : Fields → ℕ
numbers = most (λ w. 1)

abbrev pub wide : Fields → ℕ
wide = most (λ w. w)

pub numbers-opening : numbers opening ≡ 10404
unfolding link second place message
numbers-opening = refl

pub wide_opening : wide opening ≡ 58775
unfolding link second place message
wide_opening = refl

-- no field is wider than a slot or 6 bits
pub width-most : (s : Fields) → s.slot ≤ 16 → width s ≤ 16
width-most s h = by s.slot s.next h
  where
    by : (slot : ℕ) (n : Field) → slot ≤ 16 → width_of slot n ≤ 16
    by slot Vertices h = omega arith
    by slot Links h = omega arith
    by slot (Messages e) h = omega arith
    by slot (Timeout e m) h = h
    by slot (From e m) h = omega arith
    by slot (To e m) h = omega arith
    by slot (Length m) h = omega arith
    by slot (Link p m) h = omega arith
    by slot (Slot p m) h = h
    by slot (Flag p m) h = omega arith
    by slot (SecondLength p m) h = omega arith
    by slot (SecondLink e p m) h = omega arith
    by slot End h = omega arith

-- a number of at most 16 bits
pub number_small : (w v : ℕ) → w ≤ 16 → v < 2 ^ w → v < 65536
number_small w v h l = let most : 2 ^ w ≤ 2 ^ 16 = pow_mono h in omega arith

-- one number fewer can follow, in the words of a loop: w is the width of the field, v what it holds, and t where it leads
pub fewer : (s t : Fields) (w v : ℕ) → w ≡ width s → (w ≡ 0 → ⊥) → v < 2 ^ w → t ≡ step s v → numbers t < numbers s
fewer s t w v is some small next =
    let less = falls (λ w. 1) s v (λ z. some (is ∙ z)) (rw is at small) in
    rw next (omega arith)
