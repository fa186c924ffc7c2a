-- A walk that is not refused, step by step: over a row (`Walks`) and over the bits of a file (`Goes`). What can follow bounds both.
use Prim.Native.Nat.{ℕ, zero, suc, ◌+◌, ◌^◌, ◌≤◌, ◌<◌}
use mathlib.Core.Path.{◌≡◌, refl, sym, ◌∙◌, ap}
use mathlib.Core.Bool.{Bool, true, false, cond}
use mathlib.Core.List.{List, [], ◌∷◌}
use native.Mathlib.Omega.{arith}
use lib.ListN.{length, get_or, length-append}
use lib.Dec.{ltb, leb, eqb}
use borrow.Author.Tests.{eq-eqb, ne_eqb, lt-ltb, eqb-true, eqb-false, ltb-true, leb-true}
use Rattle.scope.specs.declared.Fields.{Fields}
use Rattle.scope.proofs.Outcomes.{not-both}
use Rattle.scope.specs.Outcome.{gives, refuse}
use Rattle.scope.specs.Fields.{width, step}
use Rattle.scope.specs.Row.{walk_from}
use Rattle.scope.specs.Bits.{bits_of, field_at}
use Rattle.scope.specs.File.{walk_bits, fields_of, packed}
use Rattle.bits.proofs.Laws.{AreBits, field_small, length-bits_of}
use Rattle.grammar.proofs.Most.{most, numbers, wide, falls, width-most, number_small}
use Rattle.forms.proofs.Walk.{fields_end, fields_step}

-- the numbers of a row from a field on
pub data Walks : Fields → List ℕ → Type 0 where
  done : {s : Fields} → width s ≡ 0 → Walks s []
  next : {s : Fields} {v : ℕ} {vs : List ℕ} → (width s ≡ 0 → ⊥) → v < 2 ^ width s → Walks (step s v) vs → Walks s (v ∷ vs)

pub walks : (s : Fields) (i n : ℕ) (vs : List ℕ) → walk_from s i vs ≡ gives n → Walks s vs
unfolding walk_from
walks s i n [] e = by (eqb (width s) 0) refl e
  where
    by : (t : Bool) → eqb (width s) 0 ≡ t → cond t (gives i) (refuse 2 i) ≡ gives n → Walks s []
    by true z e = done (eqb-true (width s) 0 z)
    by false z e = not-both e
walks s i n (v ∷ vs) e = by (eqb (width s) 0) refl (ltb v (2 ^ width s)) refl (walks (step s v) (i + 1) n vs) e
  where
    by : (t : Bool) → eqb (width s) 0 ≡ t → (u : Bool) → ltb v (2 ^ width s) ≡ u →
        (walk_from (step s v) (i + 1) vs ≡ gives n → Walks (step s v) vs) →
        cond t (refuse 4 i) (cond u (walk_from (step s v) (i + 1) vs) (refuse 3 i)) ≡ gives n → Walks s (v ∷ vs)
    by true z u l more e = not-both e
    by false z true l more e = next (eqb-false (width s) 0 z) (ltb-true v (2 ^ width s) l) (more e)
    by false z false l more e = not-both e

pub walks_back : {s : Fields} {vs : List ℕ} (i : ℕ) → Walks s vs → walk_from s i vs ≡ gives (i + length vs)
unfolding walk_from
walks_back {s} i (done z) = rw (eq-eqb (width s) 0 z) (ap gives (omega arith))
walks_back {s} i (next {v = v} {vs = vs} h l more) =
    rw (ne_eqb (width s) 0 h, lt-ltb v (2 ^ width s) l) (walks_back (i + 1) more ∙ ap gives (omega arith))

-- what the numbers cost is at most what can follow
unfoldable pub costs : (ℕ → ℕ) → Fields → List ℕ → ℕ
costs cost s [] = 0
costs cost s (v ∷ vs) = cost (width s) + costs cost (step s v) vs

pub walks_cost : (cost : ℕ → ℕ) {s : Fields} {vs : List ℕ} → Walks s vs → costs cost s vs ≤ most cost s
unfolding costs
walks_cost cost (done z) = omega arith
walks_cost cost {s} (next {v = v} h l more) = let rest = walks_cost cost more in omega (arith, falls cost s v h l)

costs_numbers : (s : Fields) (vs : List ℕ) → costs (λ w. 1) s vs ≡ length vs
unfolding costs
costs_numbers s [] = refl
costs_numbers s (v ∷ vs) = omega (arith, costs_numbers (step s v) vs)

costs_bits : (s : Fields) (vs : List ℕ) → costs (λ w. w) s vs ≡ length (packed s vs)
unfolding costs packed
costs_bits s [] = refl
costs_bits s (v ∷ vs) =
    ap (λ (n : ℕ). width s + n) (costs_bits (step s v) vs)
    ∙ sym (length-append (bits_of (width s) v) (packed (step s v) vs) ∙ ap (λ (n : ℕ). n + length (packed (step s v) vs))
    (length-bits_of (width s) v))

pub walks_numbers : {s : Fields} {vs : List ℕ} → Walks s vs → length vs ≤ numbers s
walks_numbers {s} {vs} h = rw (costs_numbers s vs) at (walks_cost (λ w. 1) h)

pub walks_wide : {s : Fields} {vs : List ℕ} → Walks s vs → length (packed s vs) ≤ wide s
walks_wide {s} {vs} h = rw (costs_bits s vs) at (walks_cost (λ w. w) h)

-- every field has at least one bit, and its number at most 16
pub walks_turns : {s : Fields} {vs : List ℕ} → Walks s vs → length vs ≤ length (packed s vs)
unfolding packed
walks_turns (done z) = omega arith
walks_turns {s} (next {v = v} {vs = vs} h l more) =
    let rest = walks_turns more in
    let some : 0 < width s = omega arith in
    rw (length-append (bits_of (width s) v) (packed (step s v) vs), length-bits_of (width s) v) (omega arith)

pub walks_small : {s : Fields} {vs : List ℕ} → s.slot ≤ 16 → Walks s vs → (i : ℕ) → get_or vs i 0 < 65536
walks_small narrow (done z) i = omega arith
walks_small {s} narrow (next {v = v} h l more) zero = number_small (width s) v (width-most s narrow) l
walks_small narrow (next h l more) (suc i) = walks_small narrow more i

-- the bits of a file from bit p on, with n turns at most, up to bit `end`
pub data Goes (bs : List ℕ) (end : ℕ) : ℕ → Fields → ℕ → Type 0 where
  stop : {n : ℕ} {s : Fields} {p : ℕ} → width s ≡ 0 → p ≡ end → Goes bs end n s p
  on : {n : ℕ} {s : Fields} {p : ℕ} → (width s ≡ 0 → ⊥) → p + width s ≤ length bs →
      Goes bs end n (step s (field_at bs p (width s))) (p + width s) →
      Goes bs end (suc n) s p

pub same_end : (p end : ℕ) → gives p ≡ gives end → p ≡ end
same_end p end e = cc

pub goes : (bs : List ℕ) (end n : ℕ) (s : Fields) (p : ℕ) → walk_bits n s p bs ≡ gives end → Goes bs end n s p
unfolding walk_bits
goes bs end zero s p e = by (eqb (width s) 0) refl e
  where
    by : (t : Bool) → eqb (width s) 0 ≡ t → cond t (gives p) (refuse 2 p) ≡ gives end → Goes bs end zero s p
    by true z e = stop (eqb-true (width s) 0 z) (same_end p end e)
    by false z e = not-both e
goes bs end (suc n) s p e =
    by (eqb (width s) 0) refl (leb (p + width s) (length bs)) refl (goes bs end n (step s (field_at bs p (width s))) (p + width s)) e
  where
    by : (t : Bool) → eqb (width s) 0 ≡ t → (u : Bool) → leb (p + width s) (length bs) ≡ u →
        (walk_bits n (step s (field_at bs p (width s))) (p + width s) bs ≡ gives end → Goes bs end n (step s (field_at bs p (width s)))
        (p + width s)) →
        cond t (gives p) (cond u (walk_bits n (step s (field_at bs p (width s))) (p + width s) bs) (refuse 2 p)) ≡ gives end →
        Goes bs end (suc n) s p
    by true z u l more e = stop (eqb-true (width s) 0 z) (same_end p end e)
    by false z true l more e = on (eqb-false (width s) 0 z) (leb-true (p + width s) (length bs) l) (more e)
    by false z false l more e = not-both e

-- it ends within the bits, and within what can follow
pub goes-inside : {bs : List ℕ} {end n : ℕ} {s : Fields} {p : ℕ} → Goes bs end n s p → p ≤ length bs → end ≤ length bs
goes-inside (stop z e) l = omega arith
goes-inside (on h l more) k = goes-inside more l

pub goes-bound : {bs : List ℕ} {end n : ℕ} {s : Fields} {p : ℕ} → AreBits bs → Goes bs end n s p → end ≤ p + wide s
goes-bound b (stop z e) = omega arith
goes-bound {bs} {s = s} {p = p} b (on h l more) =
    let rest = goes-bound b more in
    omega (arith, falls (λ w. w) s (field_at bs p (width s)) h (field_small bs p (width s) b l))

-- the fields of such a file are the numbers of a row
pub goes_walks : {bs : List ℕ} {end n : ℕ} {s : Fields} {p : ℕ} → AreBits bs → Goes bs end n s p → Walks s (fields_of n s p bs)
goes_walks {bs} {n = n} {s = s} {p = p} b (stop z e) = rw (fields_end bs s p n z) (done z)
goes_walks {bs} {s = s} {p = p} b (on {n = n} h l more) =
    rw (fields_step bs s p n h l) (next h (field_small bs p (width s) b l) (goes_walks b more))
