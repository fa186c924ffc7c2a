-- Every number of the events of a judged row is below 64: kinds go to 7, its links are below 64 and its messages below 32.
use Prim.Native.Nat.{ℕ, zero, suc, ◌+◌, ◌-◌, ◌≤◌, ◌<◌}
use mathlib.Core.Path.{◌≡◌, refl, sym, ◌∙◌, ap, subst}
use mathlib.Core.Bool.{Bool, true, false, cond, ◌&&◌}
use mathlib.Core.List.{List, [], ◌∷◌, ◌++◌, map}
use native.Mathlib.Omega.{arith}
use lib.ListN.{length, get_or, length-map, get_or-eq_default}
use lib.Dec.{ltb, eqb}
use borrow.Author.Tests.{ltb-true}
use Rattle.scope.specs.Plan.{Plan, Place, plan_of, path_of, flagged, numbers_at, second_start, second_count, place_at, place_count, message_at}
use Rattle.scope.specs.Plan.{message_count, after_places}
use Rattle.scope.specs.SecondPath.{message_index}
use Rattle.scope.specs.Lowest.{lowest}
use Rattle.scope.specs.Good.{holds}
use Rattle.scope.specs.Slot.{Position, on_first, on_second, Moved, moved, turn, turned, tries, next_second, act}
use Rattle.scope.specs.Cuts.{is_cut}
use Rattle.scope.specs.Cycle.{order_of, foremost, table_of, moves, slot, nexts, numbers, events, start, event_row}
use Rattle.rows.specs.Lies.{PlanLies, MessageLies, PlaceLies, SecondLies}
use Rattle.rows.proofs.Parts.{numbers-length, numbers-at, places_length, places_at_lem, message-count, path_at}

-- each element is so
data All {A : Type 0} (P : A → Type 0) : List A → Type 0 where
  none : All P []
  more : {x : A} {xs : List A} → P x → All P xs → All P (x ∷ xs)

head : {A : Type 0} {P : A → Type 0} {x : A} {xs : List A} → All P (x ∷ xs) → P x
head (more p a) = p

tail : {A : Type 0} {P : A → Type 0} {x : A} {xs : List A} → All P (x ∷ xs) → All P xs
tail (more p a) = a

all_map : {A B : Type 0} {P : A → Type 0} {Q : B → Type 0} (f : A → B) → ((x : A) → P x → Q (f x)) → (xs : List A) → All P xs → All Q (map f xs)
all_map f h [] a = none
all_map f h (x ∷ xs) a = more (h x (head a)) (all_map f h xs (tail a))

all_append : {A : Type 0} {P : A → Type 0} (xs ys : List A) → All P xs → All P ys → All P (xs ++ ys)
all_append [] ys a b = b
all_append (x ∷ xs) ys a b = more (head a) (all_append xs ys (tail a) b)

all_from : {A : Type 0} {P : A → Type 0} (d : A) (l : List A) → ((i : ℕ) → i < length l → P (get_or l i d)) → All P l
all_from d [] h = none
all_from d (x ∷ l) h = more (h 0 (omega arith)) (all_from d l (λ i g. h (suc i) (omega arith)))

abbrev Low : ℕ → Type 0
Low x = x < 64

all-at : (l : List ℕ) → All Low l → (i : ℕ) → get_or l i 0 < 64
all-at [] a i =
    let z : length {A = ℕ} [] ≤ i = omega arith in
    let e : get_or {A = ℕ} [] i 0 ≡ 0 = get_or-eq_default [] 0 z in
    omega arith
all-at (x ∷ l) a zero = head a
all-at (x ∷ l) a (suc i) = all-at l (tail a) i

-- what is left of a path has low links
record LowPlace (p : Place) : Type 0 where
  link : p.link < 64
  second : All Low p.second

abbrev LowPosition : Position → Type 0
LowPosition (on_first ps) = All LowPlace ps
LowPosition (on_second es) = All Low es

turned-low : (ps : List Place) (es : List ℕ) → All LowPlace ps → All Low es → LowPosition (turned ps es)
turned-low ps [] a b = a
turned-low ps (e ∷ es) a b = b

turn_low : (down : ℕ → Bool) (p : Position) → LowPosition p → LowPosition (turn down p)
turn_low down (on_first []) a = a
turn_low down (on_first (p ∷ ps)) a = by (down p.link)
  where
    by : (t : Bool) → LowPosition (cond t (turned (p ∷ ps) p.second) (on_first (p ∷ ps)))
    by true = turned-low (p ∷ ps) p.second a (head a).second
    by false = a
turn_low down (on_second es) a = a

-- so has what a message does in a slot, with its event
record LowMoved (m : Moved) : Type 0 where
  next : LowPosition m.next
  kind : m.event.kind < 64
  number : m.event.number < 64

first-low : (s t : Bool) (p : Place) (ps : List Place) → All LowPlace (p ∷ ps) →
    LowMoved (cond s (moved (on_first (p ∷ ps)) 6 p.link) (cond t (moved (on_first ps) 2 p.link) (moved (on_first (p ∷ ps)) 1 p.link)))
first-low true t p ps a = record { next = a; kind = omega arith; number = (head a).link }
first-low false true p ps a = record { next = tail a; kind = omega arith; number = (head a).link }
first-low false false p ps a = record { next = a; kind = omega arith; number = (head a).link }

second-low : (s t held : Bool) (entry first e : ℕ) (es : List ℕ) → All Low (e ∷ es) → entry ≤ 64 → first < 64 →
    LowMoved (cond s (moved (on_second (e ∷ es)) 7 e) (cond t (moved (on_second (e ∷ es)) 4 (entry - 1))
    (cond held (moved (on_second (e ∷ es)) 5 first) (moved (on_second es) 3 e))))
second-low true t held entry first e es a h g = record { next = a; kind = omega arith; number = head a }
second-low false true held entry first e es a h g = record { next = a; kind = omega arith; number = omega arith }
second-low false false true entry first e es a h g = record { next = a; kind = omega arith; number = g }
second-low false false false entry first e es a h g = record { next = tail a; kind = omega arith; number = head a }

act-low : (down : ℕ → Bool) (i entry : ℕ) (held : Bool) (first : ℕ) (p : Position) → LowPosition p → entry ≤ 64 → first < 64 →
    LowMoved (act down i entry held first p)
act-low down i entry held first (on_first []) a h g = record { next = a; kind = omega arith; number = omega arith }
act-low down i entry held first (on_first (p ∷ ps)) a h g = first-low (down p.link) (eqb p.slot i) p ps a
act-low down i entry held first (on_second []) a h g = record { next = a; kind = omega arith; number = omega arith }
act-low down i entry held first (on_second (e ∷ es)) a h g = second-low (down e) (ltb 0 entry) held entry first e es a h g

foremost-low : (rank : ℕ → ℕ) (e m j : ℕ) (tried : List ℕ) → m < 64 → j + length tried ≤ 64 → foremost rank e m j tried < 64
unfolding foremost
foremost-low rank e m j [] h g = h
foremost-low rank e m j (w ∷ tried) h g =
    foremost-low rank e (cond (eqb w (e + 1) && ltb (rank j) (rank m)) j m) (j + 1) tried
    (by (eqb w (e + 1) && ltb (rank j) (rank m))) (omega arith)
  where
    by : (t : Bool) → cond t j m < 64
    by true = omega arith
    by false = h

module _ (rank : ℕ → ℕ) (down : ℕ → Bool) (owner : ℕ → ℕ) (i : ℕ) (tried : List ℕ) where
  moves-length : (m : ℕ) (ps : List Position) → length (moves rank down owner i tried m ps) ≡ length ps
  unfolding moves
  moves-length m [] = refl
  moves-length m (p ∷ ps) = ap suc (moves-length (m + 1) ps)

  moves-low : ((e : ℕ) → owner e ≤ 64) → length tried ≤ 64 → (m : ℕ) (ps : List Position) → All LowPosition ps → m + length ps ≤ 64 →
      All LowMoved (moves rank down owner i tried m ps)
  unfolding moves
  moves-low few long m [] a h = none
  moves-low few long m (p ∷ ps) a h =
      let first = foremost rank (next_second p) m 0 tried in
      more
      (act-low down i (owner (next_second p)) (ltb (rank first) (rank m)) first p (head a) (few (next_second p))
      (foremost-low rank (next_second p) m 0 tried (omega arith) (omega arith)))
      (moves-low few long (m + 1) ps (tail a) (omega arith))

numbers-low : (ms : List Moved) → All LowMoved ms → All Low (numbers ms)
unfolding numbers
numbers-low [] a = none
numbers-low (m ∷ ms) a = more (head a).kind (more (head a).number (numbers-low ms (tail a)))

module _ (rank : ℕ → ℕ) (down : ℕ → ℕ → Bool) (owner : ℕ → ℕ → ℕ) (few : (i e : ℕ) → owner i e ≤ 64) where
  slot-length : (i : ℕ) (ps : List Position) → length (slot rank down owner i ps) ≡ length ps
  unfolding slot
  slot-length i ps =
      let ts = map (turn (down i)) ps in
      moves-length rank (down i) (owner i) i (map (tries (down i)) ts) 0 ts ∙ length-map ps (turn (down i))

  slot-low : (i : ℕ) (ps : List Position) → All LowPosition ps → length ps ≤ 64 → All LowMoved (slot rank down owner i ps)
  unfolding slot
  slot-low i ps a h =
      let ts = map (turn (down i)) ps in
      let n : length ts ≡ length ps = length-map ps (turn (down i)) in
      let k : length (map (tries (down i)) ts) ≡ length ts = length-map ts (tries (down i)) in
      moves-low rank (down i) (owner i) i (map (tries (down i)) ts) (few i) (omega arith) 0 ts
      (all_map (turn (down i)) (turn_low (down i)) ps a) (omega arith)

  events-low : (i n : ℕ) (ps : List Position) → All LowPosition ps → length ps ≤ 64 → All Low (events rank down owner i n ps)
  unfolding events
  events-low i zero ps a h = none
  events-low i (suc n) ps a h =
      let ms = slot rank down owner i ps in
      let low = slot-low i ps a h in
      let l : length (nexts ms) ≡ length ps = length-map ms (λ m. m.next) ∙ slot-length i ps in
      all_append (numbers ms) (events rank down owner (i + 1) n (nexts ms)) (numbers-low ms low)
      (events-low (i + 1) n (nexts ms) (all_map (λ m. m.next) (λ m b. b.next) ms low) (omega arith))

-- the table gives a link to one of the messages
table-low : (plan : Plan) (i e : ℕ) → table_of plan i e ≤ length plan.messages
unfolding table_of
table-low plan i e = by (ltb (lowest (λ m. holds e i (path_of plan m)) (length plan.messages)) (length plan.messages)) refl
  where
    by : (t : Bool) → ltb (lowest (λ m. holds e i (path_of plan m)) (length plan.messages)) (length plan.messages) ≡ t →
        cond t (lowest (λ m. holds e i (path_of plan m)) (length plan.messages) + 1) 0 ≤ length plan.messages
    by true h = omega (arith, ltb-true (lowest (λ m. holds e i (path_of plan m)) (length plan.messages)) (length plan.messages) h)
    by false h = omega arith

-- the paths of a row have low links
module _ (row : List ℕ) where
  second-links : (i : ℕ) (t : Bool) → (t ≡ true → SecondLies row i) → All Low (cond t (numbers_at row (second_start i) (second_count row i)) [])
  second-links i true h =
      let s = h refl in
      let n = numbers-length row (second_start i) (second_count row i) in
      all_from 0 (numbers_at row (second_start i) (second_count row i))
      (λ k below.
      subst Low (sym (numbers-at row (second_start i) (second_count row i) k (omega arith))) (s.link k (omega arith)))
  second-links i false h = none

  place-low : (i : ℕ) → PlaceLies row i → LowPlace (place_at row i)
  place-low i h = record { link = h.link; second = second-links i (flagged row i) h.second }

  message-low : (i : ℕ) → MessageLies row i → All LowPlace (message_at row i)
  message-low i h =
      let n = places_length row (i + 1) (place_count row i) in
      all_from (record { link = 0; slot = 0; second = [] }) (message_at row i)
      (λ p below.
      subst LowPlace (sym (places_at_lem row (record { link = 0; slot = 0; second = [] }) (i + 1) (place_count row i) p (omega arith)))
      (place-low (after_places row (i + 1) p) (h.place p (omega arith))))

  start-low : PlanLies row → All LowPosition (start (plan_of row))
  start-low h =
      let n = message-count row in
      let paths : All (All LowPlace) (plan_of row).messages =
      all_from [] (plan_of row).messages
      (λ m below.
      let g : m < message_count row = omega arith in
      subst (All LowPlace) (sym (path_at row m g)) (message-low (message_index row m) (h.message m g))) in
      all_map on_first (λ path a. a) (plan_of row).messages paths

  pub event-numbers : PlanLies row → (cuts : List ℕ) (i : ℕ) → get_or (event_row (plan_of row) cuts) i 0 < 64
  unfolding event_row
  event-numbers h cuts i =
      let n = message-count row in
      let most = h.messages in
      let few : (j e : ℕ) → table_of (plan_of row) j e ≤ 64 = λ j e. omega (arith, table-low (plan_of row) j e) in
      let l : length (start (plan_of row)) ≡ length (plan_of row).messages = length-map (plan_of row).messages on_first in
      all-at (event_row (plan_of row) cuts)
      (events-low (order_of (plan_of row)) (is_cut (plan_of row) cuts) (table_of (plan_of row)) few 0 (plan_of row).timeout (start (plan_of row))
      (start-low h) (omega arith)) i
