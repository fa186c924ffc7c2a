-- Crossings as numbers: what an event crosses, plus one, or 0.
use Prim.Native.Nat.{ℕ, zero, suc, ◌+◌, ◌≤◌, ◌<◌}
use native.Mathlib.Omega.{arith}
use mathlib.Core.Path.{◌≡◌, refl, sym, ◌∙◌, ap}
use mathlib.Core.Bool.{Bool, true, false, cond, ◌&&◌, ◌||◌}
use lib.Dec.{eqb}
use borrow.Author.Tests.{eqb-true, eqb-false, eq-eqb, ne_eqb, lt-ltb}
use Rattle.scope.specs.Slot.{Event}
use Rattle.laws.specs.Message.{crosses}
use Rattle.laws.specs.Named.{SameCrossing}
use Rattle.clues.specs.declared.Clue.TheVariants.{Link, Dead}
use Rattle.step.specs.Events.{crossing_of}
use Rattle.clues.specs.Clues.{may_name, clue_of, Foremost, Says}

eqb_suc : (a b : ℕ) → eqb (a + 1) (b + 1) ≡ eqb a b
eqb_suc a b = by (eqb a b) refl
  where
    by : (t : Bool) → eqb a b ≡ t → eqb (a + 1) (b + 1) ≡ t
    by true e = eq-eqb (a + 1) (b + 1) (ap (λ (n : ℕ). n + 1) (eqb-true a b e))
    by false e = ne_eqb (a + 1) (b + 1) (λ q. eqb-false a b e (omega arith))

-- an event crosses link e exactly if its number is e's plus one
pub crosses-is : (e : ℕ) (v : Event) → crosses e v ≡ eqb (crossing_of v) (e + 1)
crosses-is e v = by (eqb v.kind 2 || eqb v.kind 3)
  where
    by : (t : Bool) → (t && eqb v.number e) ≡ eqb (cond t (v.number + 1) 0) (e + 1)
    by true = sym (eqb_suc v.number e)
    by false = sym (ne_eqb 0 (e + 1) (λ q. omega arith))

pub same_crossing_lem : (v w : Event) → crossing_of v ≡ crossing_of w → SameCrossing v w
same_crossing_lem v w same e = crosses-is e v ∙ ap (λ (n : ℕ). eqb n (e + 1)) same ∙ sym (crosses-is e w)

-- a link plus one, or 0, is known by the links that it is
pub same_number : (a b : ℕ) → ((e : ℕ) → eqb a (e + 1) ≡ eqb b (e + 1)) → a ≡ b
same_number zero zero h = refl
same_number (suc a) b h =
    let is : suc a ≡ a + 1 = omega arith in
    is ∙ sym (eqb-true b (a + 1) (sym (h a) ∙ eq-eqb (suc a) (a + 1) is))
same_number zero (suc b) h =
    let is : suc b ≡ b + 1 = omega arith in
    eqb-true zero (b + 1) (h b ∙ eq-eqb (suc b) (b + 1) is) ∙ sym is

pub crossing_same : (v w : Event) → SameCrossing v w → crossing_of v ≡ crossing_of w
crossing_same v w same = same_number (crossing_of v) (crossing_of w) (λ e. sym (crosses-is e v) ∙ same e ∙ crosses-is e w)

-- kinds 1 to 3 may name a link
pub may-name : (v : Event) → 0 < v.kind → v.kind ≤ 3 → may_name v ≡ true
may-name v low high = rw (lt-ltb 0 v.kind low, lt-ltb v.kind 4 (omega arith))

-- what the foremost message that differs says
pub says-differs : (event : ℕ → Event) (seen : ℕ → ℕ) (n m : ℕ) → Foremost event seen n m → Says event seen n (clue_of (event m))
says-differs event seen n m f = by (may_name (event m)) refl
  where
    by : (t : Bool) → may_name (event m) ≡ t → Says event seen n (cond t (Link (event m).number) Dead)
    by true e = (m, f, e, refl)
    by false e = (m, f, e)
