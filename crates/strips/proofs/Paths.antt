-- The loops over the links of a path, over the places of a message and over all messages that count and mark: whoever does what is left
-- has done all.
use Prim.Native.Nat.{ℕ, ◌+◌, ◌-◌, ◌*◌, ◌≤◌, ◌<◌}
use native.Mathlib.Omega.{arith}
use mathlib.Core.Path.{◌≡◌, refl, sym, ◌∙◌, ap}
use mathlib.Core.Bool.{Bool, true, false, cond, ◌||◌}
use mathlib.Core.List.{List, []}
use lib.ListN.{length, get_or, get_or-eq_default}
use lib.Dec.{eqb}
use Rattle.scope.specs.Limits.{most_links, most_messages, seconds_size}
use Rattle.scope.specs.Plan.{at, flagged, second_at, second_start, second_count, numbers_at, place_size, places_at, after_places}
use Rattle.scope.specs.Plan.{message_at, messages_at, after_message, after_messages, message_count, first_message, plan_of, path_of}
use Rattle.scope.specs.SecondPath.{message_index}
use Rattle.scope.specs.Good.{has}
use Rattle.scope.specs.Spare.{entries_of, entries, has_second_through}
use Rattle.rows.specs.View.{Is, IsPlace}
use Rattle.rows.proofs.Walked.{walked}
use Rattle.rows.specs.declared.RowPlace.{RowPlace}
use Rattle.rows.proofs.Index.{places_go, places_done, messages_suc}
use Rattle.rows.proofs.Parts.{places_more, places_none, message-count, path_at, timeout-is}
use Rattle.plan.specs.Answers.{GoodRow}
use Rattle.spare.proofs.Loops.{numbers_more, numbers-none, messages-more, messages-none}
use Rattle.spare.proofs.Held.{entries-few}
use Rattle.spare.proofs.Bounds.{lower_few}
use Rattle.sets.specs.Sums.{one_if}
use Rattle.strips.specs.Filled.{Put, More, MayMore, MayCount, Counted, MayCountAll, CountedAll}
use Rattle.strips.proofs.Puts.{put-none, put_same, put_then, Upto, upto_none, upto_next, upto_all, more-none, more_same, more-then}
use Rattle.strips.proofs.Puts.{may-first, may-then, may-same}

-- a loop over the links of a path, at link k of n
pub record Marking (row : List ℕ) (i n m : ℕ) (old new : List ℕ) (k : ℕ) : Type 0 where
  pub few : k ≤ n
  pub long : length new ≡ seconds_size
  pub left : (fin : List ℕ) → Put m (λ e. has e (numbers_at row (i + k) (n - k))) new fin → Put m (λ e. has e (numbers_at row i n)) old fin

module _ (row : List ℕ) (i n m : ℕ) (old : List ℕ) where
  module _ (new : List ℕ) (k : ℕ) (g : Marking row i n m old new k) where
    pub marking_more : (v : ℕ) (next : List ℕ) → k < n → v ≡ at row (i + k) → Put m (λ e. eqb e v) new next → Marking row i n m old next (k + 1)
    unfolding has
    marking_more v next h is p =
        record {
          few = omega arith;
          long = p.long;
          left = λ fin q.
              let a : i + (k + 1) ≡ i + k + 1 = omega arith in
              let both = put_then m (λ e. eqb e v) (λ e. has e (numbers_at row (i + (k + 1)) (n - (k + 1)))) new next fin p q in
              g.left fin
              (put_same m (λ e. eqb e v || has e (numbers_at row (i + (k + 1)) (n - (k + 1)))) (λ e. has e (numbers_at row (i + k) (n - k))) new
              fin
              (λ e l. rw (numbers_more row (i + k) n k h, is, a)) both);
        }

    pub marking_done : n ≤ k → Put m (λ e. has e (numbers_at row i n)) old new
    unfolding has
    marking_done h =
        g.left new (put_same m (λ e. false) (λ e. has e (numbers_at row (i + k) (n - k))) new new (λ e l. rw (numbers-none row (i + k) n k h))
        (put-none m new g.long))

-- the links of the second path of a place as it is read
pub second-of : (row : List ℕ) (i : ℕ) (r : RowPlace) → IsPlace row i r → numbers_at row r.second r.count ≡ second_at row i
unfolding numbers_at
second-of row i r p = rw (p.second, p.count) (by (flagged row i))
  where
    by : (b : Bool) → numbers_at row (second_start i) (cond b (second_count row i) 0) ≡
        cond b (numbers_at row (second_start i) (second_count row i)) []
    by true = refl
    by false = refl

-- a loop over the places of the message at index i, at place k of n, which stands at index j
pub record Counting (row : List ℕ) (i m : ℕ) (old old' : List ℕ) (n j k : ℕ) (counts ways : List ℕ) : Type 0 where
  pub next : after_places row j (n - k) ≡ after_message row i
  pub small : j ≤ i + 1 + k * 65540
  pub most : k ≤ n
  pub numbers : MayMore (λ e. entries_of e (places_at row j (n - k))) counts
  pub bytes : length ways ≡ seconds_size
  pub counted : (fin : List ℕ) → More (λ e. entries_of e (places_at row j (n - k))) counts fin → More (λ e. entries_of e (message_at row i)) old fin
  pub marked : (fin : List ℕ) → Put m (λ e. has_second_through e (places_at row j (n - k))) ways fin →
      Put m (λ e. has_second_through e (message_at row i)) old' fin

module _ (row : List ℕ) (i m : ℕ) (old old' : List ℕ) (may : MayCount row i m old old') (n : ℕ) where
  module _ (j k : ℕ) (counts ways : List ℕ) (g : Counting row i m old old' n j k counts ways) (h : k < n) where
    split : (e : ℕ) → entries_of e (places_at row j (n - k)) ≡ one_if (eqb (at row j) e) +
        entries_of e (places_at row (j + place_size row j) (n - (k + 1)))
    unfolding entries_of
    split e = rw (places_more row j n k h)

    through : (e : ℕ) → has_second_through e (places_at row j (n - k)) ≡
        (has e (second_at row j) || has_second_through e (places_at row (j + place_size row j) (n - (k + 1))))
    unfolding has_second_through
    through e = rw (places_more row j n k h)

    module _ (r : RowPlace) (p : IsPlace row j r) where
      rest : (e : ℕ) → entries_of e (places_at row j (n - k)) ≡ one_if (eqb r.link e) + entries_of e (places_at row r.next (n - (k + 1)))
      rest e = split e ∙ rw (p.link, p.next)

      pub counting_may : MayMore (λ e. one_if (eqb r.link e)) counts
      counting_may =
          may-first (λ e. one_if (eqb r.link e)) (λ e. entries_of e (places_at row r.next (n - (k + 1)))) counts
          (may-same (λ e. entries_of e (places_at row j (n - k)))
          (λ e. one_if (eqb r.link e) + entries_of e (places_at row r.next (n - (k + 1)))) counts rest g.numbers)

      pub counting_more : (counts' ways' : List ℕ) → More (λ e. one_if (eqb r.link e)) counts counts' →
          Put m (λ e. has e (numbers_at row r.second r.count)) ways ways' → Counting row i m old old' n r.next (k + 1) counts' ways'
      counting_more counts' ways' c w =
          record {
            next = places_go row j n k r.next h p.next ∙ g.next;
            small = omega (arith, p.near, g.small);
            most = omega arith;
            numbers =
                may-then (λ e. one_if (eqb r.link e)) (λ e. entries_of e (places_at row r.next (n - (k + 1)))) counts counts'
                (may-same (λ e. entries_of e (places_at row j (n - k)))
                (λ e. one_if (eqb r.link e) + entries_of e (places_at row r.next (n - (k + 1)))) counts rest g.numbers) c;
            bytes = w.long;
            counted = λ fin q.
                g.counted fin
                (more_same (λ e. one_if (eqb r.link e) + entries_of e (places_at row r.next (n - (k + 1))))
                (λ e. entries_of e (places_at row j (n - k))) counts fin
                (λ e. sym (rest e)) (more-then (λ e. one_if (eqb r.link e)) (λ e. entries_of e (places_at row r.next (n - (k + 1)))) counts
                counts' fin c q));
            marked = λ fin q.
                g.marked fin
                (put_same m (λ e. has e (numbers_at row r.second r.count) || has_second_through e (places_at row r.next (n - (k + 1))))
                (λ e. has_second_through e (places_at row j (n - k))) ways fin
                (λ e l. rw (through e, second-of row j r p, p.next))
                (put_then m (λ e. has e (numbers_at row r.second r.count)) (λ e. has_second_through e (places_at row r.next (n - (k + 1))))
                ways ways' fin w q));
          }

  pub counting_done : (j k : ℕ) (counts ways : List ℕ) → Counting row i m old old' n j k counts ways → n ≤ k → n ≤ 65536 →
      Counted row i m old counts old' ways j
  unfolding entries_of has_second_through
  counting_done j k counts ways g h hn =
      let none = places_none row j n k h in
      record {
        next = sym (places_done row j n k h) ∙ g.next;
        small = omega (arith, g.small, g.most);
        numbers =
            g.counted counts (more_same (λ e. 0) (λ e. entries_of e (places_at row j (n - k))) counts counts (λ e. ap (entries_of e) (sym none))
            (more-none counts g.numbers.long));
        bytes =
            g.marked ways (put_same m (λ e. false) (λ e. has_second_through e (places_at row j (n - k))) ways ways
            (λ e l. ap (has_second_through e) (sym none)) (put-none m ways g.bytes));
      }

-- who has a second path through which link
abbrev pub ways : List ℕ → ℕ → ℕ → Bool
ways row m e = has_second_through e (path_of (plan_of row) m)

-- a loop over the messages, at message m of n, which stands at index j
pub record CountingAll (row : List ℕ) (n j m : ℕ) (counts bytes : List ℕ) : Type 0 where
  pub index : j ≡ message_index row m
  pub small : j ≤ 131077 + m * 4295229441
  pub most : m ≤ n
  pub long : length counts ≡ most_links
  pub left : (e : ℕ) → e < most_links → get_or counts e 0 + entries e (messages_at row j (n - m)) ≡ entries e (plan_of row).messages
  pub upto : Upto (ways row) m bytes

module _ (row : List ℕ) (good : GoodRow row) (n : ℕ) (count : n ≡ message_count row) where
  pub few-messages : n ≤ most_messages
  few-messages = omega (arith, (walked row good.form).messages)

  pub counting_all_none : (j : ℕ) (counts bytes : List ℕ) → Is (message_index row 0) (131077 + 0 * 4295229441) j → MayCountAll row counts bytes →
      CountingAll row n j 0 counts bytes
  unfolding plan_of after_messages
  counting_all_none j counts bytes i may =
      let f : n - 0 ≡ message_count row = omega arith in
      record {
        index = i.is;
        small = i.small;
        most = omega arith;
        long = may.numbers;
        left = λ e h. rw (i.is, f) (omega (arith, may.clear e));
        upto = upto_none (ways row) bytes may.bytes may.none;
      }

  module _ (j m : ℕ) (counts bytes : List ℕ) (g : CountingAll row n j m counts bytes) (h : m < n) where
    split_all : (e : ℕ) → entries e (messages_at row j (n - m)) ≡ entries_of e (message_at row j) +
        entries e (messages_at row (after_message row j) (n - (m + 1)))
    unfolding entries
    split_all e = rw (messages-more row j n m h)

    pub may-count : MayCount row j m counts bytes
    may-count =
        record {
          near = omega (arith, g.small, few-messages);
          message = omega (arith, few-messages);
          numbers =
              record {
                long = g.long;
                few = λ e l. omega (
                  arith,
                  g.left e l,
                  split_all e,
                  entries-few (plan_of row) good.keeps e,
                  timeout-is row,
                  (walked row good.form).timeout,
                );
              };
          bytes = g.upto.long;
        }

    pub counting_all_more : (r : ℕ) (counts' bytes' : List ℕ) → Counted row j m counts counts' bytes bytes' r →
        CountingAll row n r (m + 1) counts' bytes'
    counting_all_more r counts' bytes' c =
        record {
          index = c.next ∙ ap (after_message row) g.index ∙ sym (messages_suc row (first_message row) m);
          small = omega (arith, c.small, g.small);
          most = omega arith;
          long = c.numbers.long;
          left = λ e l. rw c.next (omega (arith, g.left e l, split_all e, c.numbers.is e l));
          upto = upto_next (ways row) m (λ e. has_second_through e (message_at row j)) bytes bytes'
              (λ e. rw (g.index, ← path_at row m (omega arith))) g.upto c.bytes;
        }

  pub counting_all_done : (j m : ℕ) (counts bytes : List ℕ) → CountingAll row n j m counts bytes → n ≤ m → CountedAll (plan_of row) counts bytes
  unfolding entries has_second_through
  counting_all_done j m counts bytes g h =
      record {
        numbers =
            record {
              long = g.long;
              is = λ e l. omega
                  (arith, g.left e l, ap (entries e) (messages-none row j n m h), lower_few 0 e 0 (plan_of row).messages);
            };
        bytes =
            upto_all (ways row) m bytes
            (λ k e past. ap (has_second_through e) (get_or-eq_default (plan_of row).messages [] (omega (arith, message-count row)))) g.upto;
      }
