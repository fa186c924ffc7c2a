-- What each loop of this crate has left to look at, one law for each way that a turn can go.
use Prim.Native.Nat.{ℕ, zero, suc, ◌+◌, ◌-◌, ◌≤◌, ◌<◌}
use mathlib.Core.Path.{◌≡◌, refl, sym, ◌∙◌, ap}
use mathlib.Core.Bool.{Bool, true, false, cond, ◌&&◌, ◌||◌}
use mathlib.Core.List.{List, [], ◌∷◌}
use native.Mathlib.Omega.{arith}
use borrow.Author.Tests.{le-ltb, lt-ltb}
use lib.Dec.{eqb, ltb}
use Rattle.std.specs.List.{range_with_len, list_any}
use Rattle.scope.specs.Plan.{Place, at, numbers_at, places_at, place_size, second_at, message_at, messages_at, after_message}
use Rattle.scope.specs.Plan.{after_messages, plan_of, message_count}
use Rattle.scope.specs.SecondPath.{message_index}
use Rattle.scope.specs.Good.{has}
use Rattle.scope.specs.Cycle.{by_number, order_of}
use Rattle.scope.specs.Spare.{entries_of, entries, has_second_through, lower_through, delay}
use Rattle.rows.specs.View.{IsPlace}
use Rattle.rows.specs.declared.RowPlace.{RowPlace}
use Rattle.rows.proofs.Second.{links-are}
use Rattle.rows.proofs.Parts.{places_more, places_none}

-- D of so many links from index i on, for message m
abbrev pub delay_at : List ℕ → ℕ → ℕ → ℕ → ℕ
delay_at row m i n = delay (order_of (plan_of row)) (plan_of row).messages m (numbers_at row i n)

module _ (row : List ℕ) where
  pub numbers_more : (i n k : ℕ) → k < n → numbers_at row i (n - k) ≡ at row i ∷ numbers_at row (i + 1) (n - (k + 1))
  unfolding numbers_at
  numbers_more i n k h = let f : n - k ≡ suc (n - (k + 1)) = omega arith in rw f

  pub numbers-none : (i n k : ℕ) → n ≤ k → numbers_at row i (n - k) ≡ []
  unfolding numbers_at
  numbers-none i n k h = let f : n - k ≡ zero = omega arith in rw f

  pub messages-more : (i n k : ℕ) → k < n → messages_at row i (n - k) ≡ message_at row i ∷ messages_at row (after_message row i) (n - (k + 1))
  unfolding messages_at
  messages-more i n k h = let f : n - k ≡ suc (n - (k + 1)) = omega arith in rw f

  pub messages-none : (i n k : ℕ) → n ≤ k → messages_at row i (n - k) ≡ []
  unfolding messages_at
  messages-none i n k h = let f : n - k ≡ zero = omega arith in rw f

  module _ (e : ℕ) where
    -- link e among numbers
    has_from : (i n j : ℕ) → list_any (λ k. eqb e (at row (i + k))) (range_with_len j n) ≡ has e (numbers_at row (i + j) n)
    unfolding has numbers_at
    has_from i zero j = refl
    has_from i (suc n) j =
        let f : i + (j + 1) ≡ i + j + 1 = omega arith in
        ap (λ t. eqb e (at row (i + j)) || t) (rw f at (has_from i n (j + 1)))

    pub has_range : (i n : ℕ) → list_any (λ k. eqb e (at row (i + k))) (range_with_len 0 n) ≡ has e (numbers_at row i n)
    has_range i n = let f : i + 0 ≡ i = omega arith in rw f at (has_from i n 0)

    -- second paths through link e among places
    module _ (i n k : ℕ) (h : k < n) (here : RowPlace) (is : IsPlace row i here) where
      second : {b : Bool} → has e (numbers_at row here.second here.count) ≡ b → has e (second_at row i) ≡ b
      second t = sym (ap (has e) (links-are row i here is)) ∙ t

      pub through_here : has e (numbers_at row here.second here.count) ≡ true → has_second_through e (places_at row i (n - k)) ≡ true
      unfolding has_second_through
      through_here t = rw (places_more row i n k h, second t)

      pub through_on : has e (numbers_at row here.second here.count) ≡ false →
          has_second_through e (places_at row here.next (n - (k + 1))) ≡ has_second_through e (places_at row i (n - k))
      unfolding has_second_through
      through_on t = rw (places_more row i n k h, second t, is.next)

      -- entries on link e among places, one more
      pub entries_of_on : (v sum all : ℕ) → v ≡ cond (eqb here.link e) 1 0 → sum + entries_of e (places_at row i (n - k)) ≡ all →
          sum + v + entries_of e (places_at row here.next (n - (k + 1))) ≡ all
      unfolding entries_of
      entries_of_on v sum all f inv =
          let rest = entries_of e (places_at row (i + place_size row i) (n - (k + 1))) in
          let now : sum + (cond (eqb (at row i) e) 1 0 + rest) ≡ all = rw (places_more row i n k h) at inv in
          rw (f, is.link, is.next) (omega arith)

    pub through-none : (i n k : ℕ) → n ≤ k → has_second_through e (places_at row i (n - k)) ≡ false
    unfolding has_second_through
    through-none i n k h = rw (places_none row i n k h)

    -- entries on link e among places
    pub entries_of_none : (i n k sum all : ℕ) → n ≤ k → sum + entries_of e (places_at row i (n - k)) ≡ all → sum ≡ all
    unfolding entries_of
    entries_of_none i n k sum all h inv =
        let done : sum + 0 ≡ all = rw (places_none row i n k h) at inv in
        omega arith

    -- entries on link e among messages
    pub entries-all : (i : ℕ) → i ≡ message_index row 0 → (n : ℕ) → n ≡ message_count row →
        0 + entries e (messages_at row i (n - 0)) ≡ entries e (plan_of row).messages
    unfolding plan_of after_messages
    entries-all i is n count =
        let f : n - 0 ≡ message_count row = omega arith in
        rw (f, is) (omega arith)

    pub entries_on : (i n k v j sum all : ℕ) → k < n → v ≡ entries_of e (message_at row i) → j ≡ after_message row i →
        sum + entries e (messages_at row i (n - k)) ≡ all → sum + v + entries e (messages_at row j (n - (k + 1))) ≡ all
    unfolding entries
    entries_on i n k v j sum all h is next inv =
        let rest = entries e (messages_at row (after_message row i) (n - (k + 1))) in
        let now : sum + (entries_of e (message_at row i) + rest) ≡ all = rw (messages-more i n k h) at inv in
        rw (is, next) (omega arith)

    pub entries_none : (i n k sum all : ℕ) → n ≤ k → sum + entries e (messages_at row i (n - k)) ≡ all → sum ≡ all
    unfolding entries
    entries_none i n k sum all h inv =
        let done : sum + 0 ≡ all = rw (messages-none i n k h) at inv in
        omega arith

    -- lower messages with a second path through link e, of messages from j on
    pub lower_all : (m i : ℕ) → i ≡ message_index row 0 →
        0 + lower_through by_number m e 0 (messages_at row i (message_count row - 0)) ≡ lower_through by_number m e 0 (plan_of row).messages
    unfolding plan_of after_messages
    lower_all m i is =
        let f : message_count row - 0 ≡ message_count row = omega arith in
        rw (f, is) (omega arith)

    pub lower_on : (m i j v a sum all : ℕ) → j < m → m ≤ message_count row → v ≡ cond (has_second_through e (message_at row i)) 1 0 →
        a ≡ after_message row i →
        sum + lower_through by_number m e j (messages_at row i (message_count row - j)) ≡ all →
        sum + v + lower_through by_number m e (j + 1) (messages_at row a (message_count row - (j + 1))) ≡ all
    unfolding lower_through
    lower_on m i j v a sum all h le is next inv =
        let rest = lower_through by_number m e (j + 1) (messages_at row (after_message row i) (message_count row - (j + 1))) in
        let now : sum + (cond (ltb j m && has_second_through e (message_at row i)) 1 0 + rest) ≡ all =
        rw (messages-more i (message_count row) j (omega arith)) at inv in
        let one : sum + (cond (has_second_through e (message_at row i)) 1 0 + rest) ≡ all = rw (lt-ltb j m h) at now in
        rw (is, next) (omega arith)

    -- messages from m on are not lower than m
    not_lower : (m j : ℕ) → m ≤ j → (paths : List (List Place)) → lower_through by_number m e j paths ≡ 0
    unfolding lower_through
    not_lower m j h [] = refl
    not_lower m j h (path ∷ paths) = rw (le-ltb j m h, not_lower m (j + 1) (omega arith) paths) (omega arith)

    pub lower_done : (m i j sum all : ℕ) → m ≤ j → sum + lower_through by_number m e j (messages_at row i (message_count row - j)) ≡ all → sum ≡ all
    lower_done m i j sum all h inv =
        let done : sum + 0 ≡ all = rw (not_lower m j h (messages_at row i (message_count row - j))) at inv in
        omega arith

  -- D over the links left
  module _ (m : ℕ) where
    pub delay_on : (i n k e a b sum all : ℕ) → k < n → e ≡ at row (i + k) → a ≡ entries e (plan_of row).messages →
        b ≡ lower_through by_number m e 0 (plan_of row).messages →
        sum + delay_at row m (i + k) (n - k) ≡ all →
        sum + (1 + a + b) + delay_at row m (i + (k + 1)) (n - (k + 1)) ≡ all
    unfolding delay
    delay_on i n k e a b sum all h is entered lower inv =
        let f : i + (k + 1) ≡ i + k + 1 = omega arith in
        let here = 1 + entries (at row (i + k)) (plan_of row).messages + lower_through by_number m (at row (i + k)) 0 (plan_of row).messages in
        let now : sum + (here + delay_at row m (i + k + 1) (n - (k + 1))) ≡ all = rw (numbers_more (i + k) n k h) at inv in
        rw (entered, lower, is, f) (omega arith)

    pub delay-none : (i n k sum all : ℕ) → n ≤ k → sum + delay_at row m i (n - k) ≡ all → sum ≡ all
    unfolding delay
    delay-none i n k sum all h inv =
        let done : sum + 0 ≡ all = rw (numbers-none i n k h) at inv in
        omega arith
