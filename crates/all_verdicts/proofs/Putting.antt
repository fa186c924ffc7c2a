-- Seven numbers put into a list, and the loop that puts the same seven for each l of a range.
use Prim.Native.Nat.{ℕ, suc, ◌+◌, ◌-◌, ◌*◌, ◌≤◌, ◌<◌}
use native.Mathlib.Omega.{arith}
use mathlib.Core.Path.{◌≡◌, refl, sym, ◌∙◌, ap, ap₂}
use mathlib.Core.List.{List, [], ◌∷◌, ◌++◌, append_assoc, append-nil}
use lib.ListN.{length, take, drop, set, length-append, length-drop, take-append-drop, drop_of_length-le}
use lib.Seq.{length-take-le, take_all, take_at, drop_at, take-append-le, drop-append-le, drop-append-add, drop-drop}
use borrow.Author.Count.{below_more}
use Rattle.all_verdicts.specs.Answers.{seven}
use Rattle.all_verdicts.specs.Filling.{Filled}

-- a part that was lent from an index on comes back
back : (out part w final : List ℕ) (at : ℕ) → part ≡ w ++ drop (length w) (take (length out - at) (drop at out)) →
    final ≡ take at out ++ (part ++ drop (length out - at) (drop at out)) → final ≡ take at out ++ (w ++ drop (length w) (drop at out))
back out part w final at p e =
    let f : length (drop at out) ≤ length out - at = omega (arith, length-drop at out) in
    e ∙ ap (λ (z : List ℕ). take at out ++ (part ++ z)) (drop_of_length-le (drop at out) f) ∙ ap (λ (z : List ℕ). take at out ++ z)
    (append-nil part) ∙
    ap (λ (z : List ℕ). take at out ++ z) (p ∙ ap (λ (z : List ℕ). w ++ drop (length w) z) (take_all (length out - at) (drop at out) f))

pub puts-seven : (out numbers part final : List ℕ) (head : ℕ) → 7 ≤ length out → length numbers ≡ 6 →
    part ≡ numbers ++ drop (length numbers) (take (length (set out 0 head) - 1) (drop 1 (set out 0 head))) →
    final ≡ take 1 (set out 0 head) ++ (part ++ drop (length (set out 0 head) - 1) (drop 1 (set out 0 head))) →
    final ≡ (head ∷ numbers) ++ drop 7 out
puts-seven [] numbers part final head h l p e = absurd (omega arith)
puts-seven (x ∷ xs) numbers part final head h l p e =
    back (head ∷ xs) part numbers final 1 p e ∙ ap (λ (k : ℕ). head ∷ (numbers ++ drop k xs)) l

pub seven-length : (out numbers final : List ℕ) (head : ℕ) → 7 ≤ length out → length numbers ≡ 6 → final ≡ (head ∷ numbers) ++ drop 7 out →
    length final ≡ length out
seven-length out numbers final head h l e =
    omega (arith, ap length e, length-append numbers (drop 7 out), length-drop 7 out)

-- the room in a part that is lent from an index on
pub room-left : (out : List ℕ) (at n : ℕ) → at + n ≤ length out → n ≤ length (take (length out - at) (drop at out))
room-left out at n h =
    let f : length (drop at out) ≤ length out - at = omega (arith, length-drop at out) in
    rw (take_all (length out - at) (drop at out) f) (omega (arith, length-drop at out))

module _ (out w final : List ℕ) (l : ℕ) (long : length w ≡ 7) (room : 7 * l + 7 ≤ length out)
    (is : final ≡ take (7 * l) out ++ (w ++ drop (length w) (drop (7 * l) out))) where
  front : length (take (7 * l) out) ≡ 7 * l
  front = length-take-le (7 * l) out (omega arith)

  size : length final ≡ length out
  size =
      omega (
        arith,
        ap length is,
        length-append (take (7 * l) out) (w ++ drop (length w) (drop (7 * l) out)),
        front,
        length-append w (drop (length w) (drop (7 * l) out)),
        length-drop (length w) (drop (7 * l) out),
        length-drop (7 * l) out,
      )

  there : seven l final ≡ w
  there =
      ap (seven l) is ∙ ap (take 7) (drop_at (take (7 * l) out) (w ++ drop (length w) (drop (7 * l) out)) (7 * l) front) ∙
      take_at w (drop (length w) (drop (7 * l) out)) 7 long

  before : (m : ℕ) → m < l → seven m final ≡ seven m out
  before m h = ap (seven m) is ∙ under (w ++ drop (length w) (drop (7 * l) out)) ∙ sym (under (drop (7 * l) out)) ∙ ap (seven m)
      (take-append-drop (7 * l) out)
    where
      under : (y : List ℕ) → seven m (take (7 * l) out ++ y) ≡ take 7 (drop (7 * m) (take (7 * l) out))
      under y =
          let d : length (drop (7 * m) (take (7 * l) out)) ≡ 7 * l - 7 * m = length-drop (7 * m) (take (7 * l) out) ∙ ap
          (λ (k : ℕ). k - 7 * m) front in
          ap (take 7) (drop-append-le (7 * m) (take (7 * l) out) y (omega (arith, front))) ∙
          take-append-le 7 (drop (7 * m) (take (7 * l) out)) y (omega arith)

  after : (m : ℕ) → l + 1 ≤ m → drop (7 * m) final ≡ drop (7 * m) out
  after m h =
      let both : length (take (7 * l) out ++ w) ≡ 7 * l + 7 = length-append (take (7 * l) out) w ∙ ap₂ ◌+◌ front long in
      let e : 7 * m ≡ length (take (7 * l) out ++ w) + (7 * m - (7 * l + 7)) = omega (arith, both) in
      let f : 7 * l + (length w + (7 * m - (7 * l + 7))) ≡ 7 * m = omega arith in
      ap (drop (7 * m)) (is ∙ sym (append_assoc (take (7 * l) out) w (drop (length w) (drop (7 * l) out)))) ∙
      ap (λ (k : ℕ). drop k ((take (7 * l) out ++ w) ++ drop (length w) (drop (7 * l) out))) e ∙
      drop-append-add (take (7 * l) out ++ w) (drop (length w) (drop (7 * l) out)) (7 * m - (7 * l + 7)) ∙
      drop-drop (7 * m - (7 * l + 7)) (length w) (drop (7 * l) out) ∙
      drop-drop (length w + (7 * m - (7 * l + 7))) (7 * l) out ∙ ap (λ (k : ℕ). drop k out) f

pub record Putting (from to head : ℕ) (numbers entry : List ℕ) (l : ℕ) (out : List ℕ) : Type 0 where
  pub low : from ≤ l
  pub high : l ≤ to
  pub same : length out ≡ length entry
  pub inside : (m : ℕ) → from ≤ m → m < l → seven m out ≡ head ∷ numbers
  pub above : (m : ℕ) → l ≤ m → drop (7 * m) out ≡ drop (7 * m) entry

pub putting_none : (from to head : ℕ) (numbers entry : List ℕ) → from ≤ to → Putting from to head numbers entry from entry
putting_none from to head numbers entry h =
    record { low = omega arith; high = h; same = refl; inside = λ m a b. absurd (omega arith); above = λ m a. refl }

module _ (from to head : ℕ) (numbers entry : List ℕ) (l : ℕ) (out : List ℕ) (g : Putting from to head numbers entry l out) where
  pub putting_more : (part final : List ℕ) → l < to → 7 * to ≤ length entry → length numbers ≡ 6 →
      part ≡ (head ∷ numbers) ++ drop 7 (take (length out - 7 * l) (drop (7 * l) out)) →
      final ≡ take (7 * l) out ++ (part ++ drop (length out - 7 * l) (drop (7 * l) out)) → Putting from to head numbers entry (l + 1) final
  putting_more part final h room long p e =
      let w : List ℕ = head ∷ numbers in
      let seven' : length w ≡ 7 = ap suc long in
      let p' : part ≡ w ++ drop (length w) (take (length out - 7 * l) (drop (7 * l) out)) =
      p ∙ ap (λ (k : ℕ). w ++ drop k (take (length out - 7 * l) (drop (7 * l) out))) (sym seven') in
      let is = back out part w final (7 * l) p' e in
      let fits : 7 * l + 7 ≤ length out = omega (arith, g.same) in
      record {
        low = omega (arith, g.low);
        high = omega arith;
        same = size out w final l seven' fits is ∙ g.same;
        inside = λ m a b.
            below_more (λ (i : ℕ). from ≤ i → seven i final ≡ head ∷ numbers) l
            (λ i c d. before out w final l seven' fits is i c ∙ g.inside i d c) (λ d. there out w final l seven' fits is) m b a;
        above = λ m a. after out w final l seven' fits is m a ∙ g.above m (omega arith);
      }

  pub putting_done : to ≤ l → Filled from to head numbers entry out
  putting_done h =
      record { inside = λ m a b. g.inside m a (omega arith); above = λ m a. g.above m (omega (arith, g.high)) }
