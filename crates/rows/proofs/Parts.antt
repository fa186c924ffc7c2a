-- What a plan's parts are in its row: links, messages, places and second paths, each by its number.
use Prim.Native.Nat.{ℕ, zero, suc, ◌+◌, ◌-◌, ◌*◌, ◌≤◌, ◌<◌}
use mathlib.Core.Path.{◌≡◌, refl, ◌∙◌, ap}
use mathlib.Core.List.{List, [], ◌∷◌}
use native.Mathlib.Numerals.{add-one}
use native.Mathlib.Omega.{arith}
use lib.ListN.{length, get_or, take, drop}
use lib.Seq.{drop-cons}
use Rattle.scope.specs.Plan.{Link, Place, at, numbers_at, links_at, place_at, place_size, places_at, after_places, message_at, after_message}
use Rattle.scope.specs.Plan.{messages_at, after_messages, vertex_count, link_count, message_count, timeout_of, first_message, plan_of, link_of, path_of}
use Rattle.scope.specs.SecondPath.{message_index}

module _ (row : List ℕ) where
  -- numbers in a row
  pub numbers-length : (i n : ℕ) → length (numbers_at row i n) ≡ n
  unfolding numbers_at
  numbers-length i zero = refl
  numbers-length i (suc n) = ap suc (numbers-length (i + 1) n)

  pub numbers-at : (i n j : ℕ) → j < n → get_or (numbers_at row i n) j 0 ≡ at row (i + j)
  unfolding numbers_at
  numbers-at i zero j h = absurd (omega arith)
  numbers-at i (suc n) zero h = ap (at row) (omega arith)
  numbers-at i (suc n) (suc j) h = numbers-at (i + 1) n j (omega arith) ∙ ap (at row) (omega arith)

  pub numbers-part : (i n : ℕ) → i + n ≤ length row → numbers_at row i n ≡ take n (drop i row)
  unfolding numbers_at
  numbers-part i zero h = refl
  numbers-part i (suc n) h =
      let r : numbers_at row (i + 1) n ≡ take n (drop (suc i) row) =
      numbers-part (i + 1) n (omega arith) ∙ ap (λ k. take n (drop k row)) (add-one i) in
      let l : i < length row = omega arith in
      rw (drop-cons row i 0 l, r)

  -- places of a message
  pub places_length : (i n : ℕ) → length (places_at row i n) ≡ n
  unfolding places_at
  places_length i zero = refl
  places_length i (suc n) = ap suc (places_length (i + place_size row i) n)

  pub places_at_lem : (d : Place) (i n p : ℕ) → p < n → get_or (places_at row i n) p d ≡ place_at row (after_places row i p)
  unfolding places_at after_places
  places_at_lem d i zero p h = absurd (omega arith)
  places_at_lem d i (suc n) zero h = refl
  places_at_lem d i (suc n) (suc p) h = places_at_lem d (i + place_size row i) n p (omega arith)

  -- a loop at place k of n: the places left
  pub places_all : (i n : ℕ) → places_at row i (n - 0) ≡ places_at row i n
  places_all i n = ap (places_at row i) (omega arith)

  pub places_more : (i n k : ℕ) → k < n → places_at row i (n - k) ≡ place_at row i ∷ places_at row (i + place_size row i) (n - (k + 1))
  unfolding places_at
  places_more i n k h =
      let f : n - k ≡ suc (n - (k + 1)) = omega arith in
      rw f

  pub places_none : (i n k : ℕ) → n ≤ k → places_at row i (n - k) ≡ []
  unfolding places_at
  places_none i n k h =
      let f : n - k ≡ zero = omega arith in
      rw f

  -- messages of a plan
  messages-length : (i n : ℕ) → length (messages_at row i n) ≡ n
  unfolding messages_at
  messages-length i zero = refl
  messages-length i (suc n) = ap suc (messages-length (after_message row i) n)

  messages-at : (i n m : ℕ) → m < n → get_or (messages_at row i n) m [] ≡ message_at row (after_messages row i m)
  unfolding messages_at after_messages
  messages-at i zero m h = absurd (omega arith)
  messages-at i (suc n) zero h = refl
  messages-at i (suc n) (suc m) h = messages-at (after_message row i) n m (omega arith)

  pub message-count : length (plan_of row).messages ≡ message_count row
  unfolding plan_of
  message-count = messages-length (first_message row) (message_count row)

  pub path_at : (m : ℕ) → m < message_count row → path_of (plan_of row) m ≡ message_at row (message_index row m)
  unfolding plan_of
  path_at m h = messages-at (first_message row) (message_count row) m h

  -- links of a plan
  links-length : (i n : ℕ) → length (links_at row i n) ≡ n
  unfolding links_at
  links-length i zero = refl
  links-length i (suc n) = ap suc (links-length (i + 2) n)

  links-at : (d : Link) (i n e : ℕ) → e < n → get_or (links_at row i n) e d ≡ record { from = at row (i + 2 * e); to = at row (i + 1 + 2 * e) }
  unfolding links_at
  links-at d i zero e h = absurd (omega arith)
  links-at d i (suc n) zero h =
      let f : i + 2 * 0 ≡ i = omega arith in
      let g : i + 1 + 2 * 0 ≡ i + 1 = omega arith in
      rw (f, g)
  links-at d i (suc n) (suc e) h =
      let f : i + 2 + 2 * e ≡ i + 2 * suc e = omega arith in
      let g : i + 2 + 1 + 2 * e ≡ i + 1 + 2 * suc e = omega arith in
      links-at d (i + 2) n e (omega arith) ∙ rw (f, g)

  pub link-count : length (plan_of row).links ≡ link_count row
  unfolding plan_of
  link-count = links-length 5 (link_count row)

  pub link_at : (e : ℕ) → e < link_count row → link_of (plan_of row) e ≡ record { from = at row (5 + 2 * e); to = at row (6 + 2 * e) }
  unfolding plan_of
  link_at e h = links-at (record { from = 0; to = 0 }) 5 (link_count row) e h

  pub vertex_count_lem : (plan_of row).vertices ≡ vertex_count row
  unfolding plan_of
  vertex_count_lem = refl

  pub timeout-is : (plan_of row).timeout ≡ timeout_of row
  unfolding plan_of
  timeout-is = refl
