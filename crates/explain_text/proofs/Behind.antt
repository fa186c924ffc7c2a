-- One text behind another in a lent buffer: the second is laid behind the first one's place, and where it found room, the first in front of it.
use Prim.Native.Nat.{ℕ, ◌+◌, ◌-◌, ◌≤◌, ◌<◌, min}
use mathlib.Core.Path.{◌≡◌, refl, sym, ◌∙◌, ap}
use mathlib.Core.Bool.{Bool, true, false, cond}
use mathlib.Core.List.{List, [], ◌++◌, append_assoc, append-nil}
use borrow.Rule.Slice.PartMut.{mid_of, put_mid}
use native.Mathlib.Omega.{arith}
use lib.ListN.{length, take, drop, length-append, length-drop, take-append-drop, drop_of_length-le}
use lib.Seq.{drop_at, drop-drop, length-take-le, take_all}
use lib.Dec.{leb}
use borrow.Author.Tests.{le-leb, lt-leb, leb-true, leb-false}
use Rattle.scope.specs.Outcome.{Answer}
use Rattle.std.specs.Prelude.{Ok, Err}
use Rattle.scope.specs.declared.Refusal.{Refusal}
use Rattle.scope.specs.Outcome.{Outcome, outcome_of, gives, refused, refuse, room}
use Rattle.scope.specs.Questions.{after}
use Rattle.text.specs.Text.{Puts}
use Rattle.text.proofs.Laid.{laid-front}
use Rattle.listing.specs.Prints.{Prints}
use Rattle.listing.proofs.Printing.{counted, needed}

-- a text that found room, or did not
room_given : (n lent m : ℕ) → gives m ≡ room n lent → (m ≡ n) × (n ≤ lent)
room_given n lent m e = by (leb n lent) refl e
  where
    by : (t : Bool) → leb n lent ≡ t → gives m ≡ cond t (gives n) (refuse 13 n) → (m ≡ n) × (n ≤ lent)
    by true h is = (cc, leb-true n lent h)
    by false h is = absurd (let z : ◌≡◌ {A = ℕ} 0 1 = cc in omega arith)

room-refused : (n lent : ℕ) (r : Refusal) → refused r ≡ room n lent → (r.place ≡ n) × (lent < n)
room-refused n lent r e = by (leb n lent) refl e
  where
    by : (t : Bool) → leb n lent ≡ t → refused r ≡ cond t (gives n) (refuse 13 n) → (r.place ≡ n) × (lent < n)
    by true h is = absurd (let z : ◌≡◌ {A = ℕ} 0 1 = cc in omega arith)
    by false h is = (ap place-of is, leb-false n lent h)
      where
        place-of : Outcome → ℕ
        place-of (gives m) = 0
        place-of (refused q) = q.place

module _ (front back entry tail : List ℕ) (from : ℕ) (a : Answer) (some : 0 < length back)
    (is : from ≡ min (length front) (length entry)) (p : Prints back (drop from entry) tail a) where
  split : take from entry ++ drop from entry ≡ entry
  split = take-append-drop from entry

  size : length (front ++ back) ≡ length front + length back
  size = length-append front back

  pub behind_given : (n m k : ℕ) (exit : List ℕ) → n ≡ length front → a ≡ Ok m → Puts front (take from entry ++ tail) exit 0 k →
      Prints (front ++ back) entry exit (Ok (n + m))
  unfolding after
  behind_given n m k exit ln e q =
      let o : gives m ≡ room (length back) (length (drop from entry)) = sym (ap outcome_of e) ∙ p.answer in
      let given = room_given (length back) (length (drop from entry)) m o in
      let ld = length-drop from entry in
      let mb : m ≡ length back = given.0 in
      let rb : length back ≤ length (drop from entry) = given.1 in
      let fits : from ≡ length front = omega arith in
      let whole : length front + length back ≤ length entry = omega arith in
      let laid-behind : tail ≡ back ++ drop (length back) (drop from entry) =
      p.buffer ∙ ap (λ (x : Answer). after (outcome_of x) back (drop from entry)) e in
      let lt : length (take from entry) ≡ from = length-take-le from entry (omega arith) in
      let la = length-append (take from entry) tail in
      let lb : length tail ≡ length back + length (drop (length back) (drop from entry)) =
      ap length laid-behind ∙ length-append back (drop (length back) (drop from entry)) in
      let behind : drop (length front) (take from entry ++ tail) ≡ tail = drop_at (take from entry) tail (length front) (lt ∙ fits) in
      let sz = size in
      let total : n + m ≡ length (front ++ back) = omega arith in
      let rest : drop (length back) (drop from entry) ≡ drop (length (front ++ back)) entry =
      drop-drop (length back) from entry ∙ ap (λ (x : ℕ). drop x entry) (let z : from + length back ≡ length (front ++ back) = omega arith in
      z) in
      record {
        answer = ap gives total ∙ sym (rw (le-leb (length (front ++ back)) (length entry) (omega arith)));
        buffer =
            q.buffer ∙ laid-front (take from entry ++ tail) front (omega arith)
            ∙ ap (λ (x : List ℕ). front ++ x) (behind ∙ laid-behind ∙ ap (λ (x : List ℕ). back ++ x) rest)
            ∙ sym (append_assoc front back (drop (length (front ++ back)) entry));
      }

  pub behind-refused : (n : ℕ) (r : Refusal) (b : Answer) → n ≡ length front → a ≡ Err r → outcome_of b ≡ refuse 13 (n + r.place) →
      Prints (front ++ back) entry (take from entry ++ tail) b
  unfolding after
  behind-refused n r b ln e ob =
      let o : refused r ≡ room (length back) (length (drop from entry)) = sym (ap outcome_of e) ∙ p.answer in
      let short = room-refused (length back) (length (drop from entry)) r o in
      let pl : r.place ≡ length back = short.0 in
      let sb : length (drop from entry) < length back = short.1 in
      let ld = length-drop from entry in
      let sz = size in
      let total : n + r.place ≡ length (front ++ back) = omega arith in
      let same : tail ≡ drop from entry = p.buffer ∙ ap (λ (x : Answer). after (outcome_of x) back (drop from entry)) e in
      record {
        answer = ob ∙ ap (refuse 13) total ∙ sym (rw (lt-leb (length (front ++ back)) (length entry) (omega arith)));
        buffer = rw ob (ap (λ (x : List ℕ). take from entry ++ x) same ∙ split);
      }

-- as the code lends it: the line was first laid over nothing, and the listing over the rest of what was lent
module _ (front back b entry tail : List ℕ) (n from : ℕ) (a : Answer) (some : 0 < length back) (first : Puts front [] b 0 n)
    (is : from ≡ min n (length (b ++ entry))) (p : Prints back (mid_of from (length (b ++ entry) - from) (b ++ entry)) tail a) where
  nothing : b ++ entry ≡ entry
  nothing = ap (λ (x : List ℕ). x ++ entry) (counted first)

  long : n ≡ length front
  long = needed first

  from_is : from ≡ min (length front) (length entry)
  from_is = is ∙ ap (λ (x : List ℕ). min n (length x)) nothing ∙ ap (λ (x : ℕ). min x (length entry)) long

  inside : from ≤ length entry
  inside = omega (arith, from_is)

  rest_of : (whole : List ℕ) → from ≤ length whole → mid_of from (length whole - from) whole ≡ drop from whole
  rest_of whole h = take_all (length whole - from) (drop from whole) (let l = length-drop from whole in omega arith)

  none-behind : (whole : List ℕ) → from ≤ length whole → put_mid from (length whole - from) whole tail ≡ take from whole ++ tail
  none-behind whole h =
      ap (λ (x : List ℕ). take from whole ++ (tail ++ x)) (drop_of_length-le (drop from whole) (let l = length-drop from whole in
      let z : length (drop from whole) ≤ length whole - from = omega arith in z))
      ∙ ap (λ (x : List ℕ). take from whole ++ x) (append-nil tail)

  lent : mid_of from (length (b ++ entry) - from) (b ++ entry) ≡ drop from entry
  lent = ap (λ (x : List ℕ). mid_of from (length x - from) x) nothing ∙ rest_of entry inside

  back-of : put_mid from (length (b ++ entry) - from) (b ++ entry) tail ≡ take from entry ++ tail
  back-of = ap (λ (x : List ℕ). put_mid from (length x - from) x tail) nothing ∙ none-behind entry inside

  p' : Prints back (drop from entry) tail a
  p' = rw lent at p

  pub both_given : (m k : ℕ) (exit : List ℕ) → a ≡ Ok m →
      Puts front (put_mid from (length (b ++ entry) - from) (b ++ entry) tail) exit 0 k → Prints (front ++ back) entry exit (Ok (n + m))
  both_given m k exit e q = behind_given front back entry tail from a some from_is p' n m k exit long e (rw back-of at q)

  pub both-refused : (r : Refusal) (c : Answer) → a ≡ Err r → outcome_of c ≡ refuse 13 (n + r.place) →
      Prints (front ++ back) entry (put_mid from (length (b ++ entry) - from) (b ++ entry) tail) c
  both-refused r c e o = rw back-of (behind-refused front back entry tail from a some from_is p' n r c long e o)

  -- how long they are together
  pub count_given : (m : ℕ) → a ≡ Ok m → n + m ≡ length front + length back
  count_given m e =
      let o : gives m ≡ room (length back) (length (drop from entry)) = sym (ap outcome_of e) ∙ p'.answer in
      let g = (room_given (length back) (length (drop from entry)) m o).0 in
      let l = long in
      omega arith

  pub count-refused : (r : Refusal) → a ≡ Err r → n + r.place ≡ length front + length back
  count-refused r e =
      let o : refused r ≡ room (length back) (length (drop from entry)) = sym (ap outcome_of e) ∙ p'.answer in
      let g = (room-refused (length back) (length (drop from entry)) r o).0 in
      let l = long in
      omega arith
