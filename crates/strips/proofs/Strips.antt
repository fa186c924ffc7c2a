-- The fragile entries and the second paths of robust places: of one place, of a message place by place, of all messages.
use Prim.Native.Nat.{ℕ, ◌+◌, ◌-◌, ◌*◌, ◌≤◌, ◌<◌}
use native.Mathlib.Omega.{arith}
use mathlib.Core.Path.{◌≡◌, refl, sym, ◌∙◌, ap}
use mathlib.Core.Bool.{Bool, true, false, cond, ◌&&◌, ◌||◌}
use mathlib.Core.List.{List, [], ◌∷◌}
use lib.ListN.{length, get_or-eq_default}
use Rattle.scope.specs.Limits.{most_slots, most_links, most_messages, table_size, seconds_size}
use Rattle.scope.specs.Lowest.{seek}
use Rattle.scope.specs.Plan.{Plan, Place, second_at, numbers_at, place_at, place_size, places_at, after_places, message_at}
use Rattle.scope.specs.Plan.{after_message, message_count, first_message, timeout_of, plan_of, path_of}
use Rattle.scope.specs.SecondPath.{message_index}
use Rattle.scope.specs.Good.{has, holds}
use Rattle.scope.specs.Cycle.{table_of}
use Rattle.scope.specs.Spare.{has_second_through}
use Rattle.table.specs.Table.{Table, entry_at, marked, entered, owner_below}
use Rattle.table.proofs.Laws.{enter_place, enter_none, entry_next}
use Rattle.rows.specs.View.{Is, IsPlace}
use Rattle.rows.specs.declared.RowPlace.{RowPlace}
use Rattle.rows.proofs.Walked.{walked}
use Rattle.rows.proofs.Index.{places_go, places_done, messages_suc}
use Rattle.rows.proofs.Parts.{places_more, places_none, message-count, path_at, timeout-is, link-count}
use Rattle.plan.specs.Answers.{GoodRow}
use Rattle.spare.proofs.Held.{entries-few}
use Rattle.spare.proofs.Bounds.{lower_few}
use Rattle.sets.specs.Sums.{one_if}
use Rattle.bound.specs.Seconds.{second_in}
use Rattle.losses.specs.Strips.{is_robust, fragile_of, fragile_plan, on_robust}
use Rattle.losses.proofs.Fragile.{fragile_long, fragile_path}
use Rattle.strips.specs.Filled.{Filled, Put, More, MayMore, Ways, Costs, in_time, SecondsAreLinks, MayStrip, Stripped, StrippedPlace}
use Rattle.strips.specs.Filled.{StrippedMessage, MayStripAll}
use Rattle.strips.proofs.Puts.{put-none, put_same, put_then, Upto, upto_none, upto_next, upto_all}
use Rattle.strips.proofs.Paths.{second-of}
use Rattle.strips.proofs.Costs.{robust_is, lower_next, good-links}

module _ (plan : Plan) (m : ℕ) where
  -- a table stays
  table_stays : (old : List ℕ) → length old ≡ table_size → Table (λ s e. entered (m + 1) [] s e (entry_at old s e)) old
  table_stays old l = record { long = l; is = λ s e a b. sym (enter_none (m + 1) s e (entry_at old s e)) }

  -- no place, a robust one, a fragile one
  pub stripped-none : (table bytes : List ℕ) → length table ≡ table_size → length bytes ≡ seconds_size →
      Stripped plan m [] table table bytes bytes
  unfolding fragile_of on_robust
  stripped-none table bytes a b = record { table = table_stays table a; bytes = put-none m bytes b }

  pub stripped_robust : (p : Place) (table bytes new : List ℕ) → is_robust plan m p ≡ true → length table ≡ table_size →
      Put m (λ e. has e p.second) bytes new →
      Stripped plan m (p ∷ []) table table bytes new
  unfolding fragile_of on_robust
  stripped_robust p table bytes new h a put =
      record {
        table = rw h (table_stays table a);
        bytes =
            put_same m (λ e. has e p.second) (λ e. (is_robust plan m p && has e p.second) || false) bytes new
            (λ e l. rw h (or_none (has e p.second))) put;
      }
    where
      or_none : (x : Bool) → x ≡ (x || false)
      or_none true = refl
      or_none false = refl

  pub stripped_fragile : (p : Place) (table bytes new : List ℕ) → is_robust plan m p ≡ false → length bytes ≡ seconds_size →
      Table (λ s e. marked (m + 1) p.link p.slot s e (entry_at table s e)) new → Stripped plan m (p ∷ []) table new bytes bytes
  unfolding fragile_of on_robust
  stripped_fragile p table bytes new h b t =
      record {
        table = rw h (record {
          long = t.long;
          is = λ s e x y. t.is s e x y ∙ sym (enter_none (m + 1) s e (marked (m + 1) p.link p.slot s e (entry_at table s e))) ∙
              enter_place (m + 1) p [] s e (entry_at table s e) (omega arith);
        });
        bytes = rw h (put-none m bytes b);
      }

  -- one place and then the others
  pub stripped-then : (p : Place) (ps : List Place) (a b c a' b' c' : List ℕ) → Stripped plan m (p ∷ []) a b a' b' →
      Stripped plan m ps b c b' c' → Stripped plan m (p ∷ ps) a c a' c'
  unfolding fragile_of on_robust
  stripped-then p ps a b c a' b' c' x y =
      record {
        table =
            record {
              long = y.table.long;
              is =
                  λ s e h l. y.table.is s e h l ∙ ap (entered (m + 1) (fragile_of plan m ps) s e) (x.table.is s e h l) ∙
                  both s e (entry_at a s e) (is_robust plan m p);
            };
        bytes =
            put_same m (λ e. ((is_robust plan m p && has e p.second) || false) || on_robust plan m e ps)
            (λ e. (is_robust plan m p && has e p.second) || on_robust plan m e ps) a' c'
            (λ e l. three (is_robust plan m p && has e p.second) (on_robust plan m e ps))
            (put_then m (λ e. (is_robust plan m p && has e p.second) || false) (λ e. on_robust plan m e ps) a' b' c' x.bytes
            y.bytes);
      }
    where
      three : (u v : Bool) → ((u || false) || v) ≡ (u || v)
      three true v = refl
      three false v = refl

      both : (s e old : ℕ) (r : Bool) →
          entered (m + 1) (fragile_of plan m ps) s e (entered (m + 1) (cond r [] (p ∷ [])) s e old) ≡
          entered (m + 1) (cond r (fragile_of plan m ps) (p ∷ fragile_of plan m ps)) s e old
      both s e old true = ap (entered (m + 1) (fragile_of plan m ps) s e) (enter_none (m + 1) s e old)
      both s e old false =
          ap (entered (m + 1) (fragile_of plan m ps) s e)
          (sym (enter_place (m + 1) p [] s e old (omega arith)) ∙ enter_none (m + 1) s e (marked (m + 1) p.link p.slot s e old)) ∙
          enter_place (m + 1) p (fragile_of plan m ps) s e old (omega arith)

-- the place at index i, as it is read
module _ (row : List ℕ) (i m : ℕ) (counts fragile seconds : List ℕ) (may : MayStrip (plan_of row) m (place_at row i ∷ []) counts fragile seconds)
    (r : RowPlace) (p : IsPlace row i r) where
  is_robust_lem : (b : Bool) → b ≡ in_time counts (timeout_of row) (place_at row i) → is_robust (plan_of row) m (place_at row i) ≡ b
  is_robust_lem b h =
      sym (robust_is (plan_of row) m counts may.numbers may.few (place_at row i) may.links.0) ∙
      ap (λ (t : ℕ). in_time counts t (place_at row i)) (timeout-is row) ∙ sym h

  pub place_robust : (b : Bool) → b ≡ in_time counts (timeout_of row) (place_at row i) → b ≡ true → (new : List ℕ) →
      Put m (λ e. has e (numbers_at row r.second r.count)) seconds new →
      StrippedPlace row i m fragile fragile seconds new r.next
  place_robust b h t new put =
      record {
        next = p.next;
        near = p.near;
        stripped =
            stripped_robust (plan_of row) m (place_at row i) fragile seconds new (is_robust_lem b h ∙ t) may.long
            (put_same m (λ e. has e (numbers_at row r.second r.count)) (λ e. has e (second_at row i)) seconds new
            (λ e l. ap (has e) (second-of row i r p)) put);
      }

  pub place_fragile : (b : Bool) → b ≡ in_time counts (timeout_of row) (place_at row i) → b ≡ false → (w : ℕ) → w ≡ m + 1 → (new : List ℕ) →
      Table (λ s e. marked w r.link r.slot s e (entry_at fragile s e)) new → StrippedPlace row i m fragile new seconds seconds r.next
  place_fragile b h t w is new table =
      record {
        next = p.next;
        near = p.near;
        stripped =
            stripped_fragile (plan_of row) m (place_at row i) fragile seconds new (is_robust_lem b h ∙ t) may.bytes
            (rw (is, p.link, p.slot) at table);
      }

-- a loop over the places of the message at index i, at place k of n, which stands at index j
pub record Stripping (row : List ℕ) (i m : ℕ) (old old' : List ℕ) (n j k : ℕ) (fragile seconds : List ℕ) : Type 0 where
  pub next : after_places row j (n - k) ≡ after_message row i
  pub small : j ≤ i + 1 + k * 65540
  pub most : k ≤ n
  pub long : length fragile ≡ table_size
  pub bytes : length seconds ≡ seconds_size
  pub links : SecondsAreLinks (plan_of row) (places_at row j (n - k))
  pub left : (fin fin' : List ℕ) → Stripped (plan_of row) m (places_at row j (n - k)) fragile fin seconds fin' →
      Stripped (plan_of row) m (message_at row i) old fin old' fin'

module _ (row : List ℕ) (i m : ℕ) (counts old old' : List ℕ) (may : MayStrip (plan_of row) m (message_at row i) counts old old') (n : ℕ) where
  module _ (j k : ℕ) (fragile seconds : List ℕ) (g : Stripping row i m old old' n j k fragile seconds) (h : k < n) where
    links_now : SecondsAreLinks (plan_of row) (place_at row j ∷ places_at row (j + place_size row j) (n - (k + 1)))
    links_now = rw (places_more row j n k h) at g.links

    pub stripping_may : MayStrip (plan_of row) m (place_at row j ∷ []) counts fragile seconds
    stripping_may =
        record { few = may.few; message = may.message; links = (links_now.0, tt); numbers = may.numbers; long = g.long; bytes = g.bytes }

    pub stripping_more : (r : ℕ) (fragile' seconds' : List ℕ) → StrippedPlace row j m fragile fragile' seconds seconds' r →
        Stripping row i m old old' n r (k + 1) fragile' seconds'
    stripping_more r fragile' seconds' s =
        record {
          next = places_go row j n k r h s.next ∙ g.next;
          small = omega (arith, s.near, g.small);
          most = omega arith;
          long = s.stripped.table.long;
          bytes = s.stripped.bytes.long;
          links = rw s.next links_now.1;
          left =
              λ fin fin' t. g.left fin fin'
              (rw (places_more row j n k h)
              (stripped-then (plan_of row) m (place_at row j) (places_at row (j + place_size row j) (n - (k + 1))) fragile fragile' fin seconds
              seconds' fin' s.stripped (rw s.next at t)));
        }

  pub stripping_done : (j k : ℕ) (fragile seconds : List ℕ) → Stripping row i m old old' n j k fragile seconds → n ≤ k → n ≤ 65536 →
      StrippedMessage row i m old fragile old' seconds j
  stripping_done j k fragile seconds g h hn =
      record {
        next = sym (places_done row j n k h) ∙ g.next;
        small = omega (arith, g.small, g.most);
        stripped = g.left fragile seconds (rw (places_none row j n k h) (stripped-none (plan_of row) m fragile seconds g.long g.bytes));
      }

-- which links lie on the second path of a robust place of a message
abbrev pub robust_ways : List ℕ → ℕ → ℕ → Bool
robust_ways row m e = on_robust (plan_of row) m e (path_of (plan_of row) m)

-- a loop over the messages, at message m of n, which stands at index j
pub record StrippingAll (row : List ℕ) (n j m : ℕ) (counts fragile seconds : List ℕ) : Type 0 where
  pub index : j ≡ message_index row m
  pub small : j ≤ 131077 + m * 4295229441
  pub most : m ≤ n
  pub numbers : Costs (plan_of row) m counts
  pub table : Table (owner_below (fragile_plan (plan_of row)) m) fragile
  pub upto : Upto (robust_ways row) m seconds

module _ (row bytes : List ℕ) (good : GoodRow row) (ways : Ways (plan_of row) bytes) (n : ℕ) (count : n ≡ message_count row) where
  few-messages : n ≤ most_messages
  few-messages = omega (arith, (walked row good.form).messages)

  pub stripping_all_none : (j : ℕ) (counts fragile seconds : List ℕ) → Is (message_index row 0) (131077 + 0 * 4295229441) j →
      MayStripAll row bytes counts fragile seconds → StrippingAll row n j 0 counts fragile seconds
  unfolding seek
  stripping_all_none j counts fragile seconds i may =
      record {
        index = i.is;
        small = i.small;
        most = omega arith;
        numbers = may.counted.numbers;
        table = record { long = may.table.long; is = may.table.is };
        upto = upto_none (robust_ways row) seconds may.bytes may.none;
      }

  module _ (j m : ℕ) (counts fragile seconds : List ℕ) (g : StrippingAll row n j m counts fragile seconds) (h : m < n) where
    path_is : message_at row j ≡ path_of (plan_of row) m
    path_is = ap (message_at row) g.index ∙ sym (path_at row m (omega arith))

    pub may-strip : MayStrip (plan_of row) m (message_at row j) counts fragile seconds
    may-strip =
        record {
          few = omega (arith, link-count row, (walked row good.form).links);
          message = omega (arith, few-messages);
          links = rw path_is (good-links (plan_of row) good.keeps m);
          numbers = g.numbers;
          long = g.table.long;
          bytes = g.upto.long;
        }

    pub near : j < 1152921504606846976
    near = omega (arith, g.small, few-messages)

    way_is : (e : ℕ) → e < most_links → second_in bytes e m ≡ one_if (has_second_through e (path_of (plan_of row) m))
    way_is e l = ways.is m e (omega (arith, few-messages)) l

    at_most_one : (b : Bool) → one_if b ≤ 1
    at_most_one true = omega arith
    at_most_one false = omega arith

    pub may-pass : MayMore (λ e. second_in bytes e m) counts
    may-pass =
        record {
          long = g.numbers.long;
          few = λ e l. omega (
            arith,
            g.numbers.is e l,
            entries-few (plan_of row) good.keeps e,
            timeout-is row,
            (walked row good.form).timeout,
            lower_few m e 0 (plan_of row).messages,
            few-messages,
            way_is e l,
            at_most_one (has_second_through e (path_of (plan_of row) m)),
          );
        }

    pub stripping_all_more : (r : ℕ) (counts' fragile' seconds' : List ℕ) → StrippedMessage row j m fragile fragile' seconds seconds' r →
        More (λ e. second_in bytes e m) counts counts' → StrippingAll row n r (m + 1) counts' fragile' seconds'
    stripping_all_more r counts' fragile' seconds' s c =
        record {
          index = s.next ∙ ap (after_message row) g.index ∙ sym (messages_suc row (first_message row) m);
          small = omega (arith, s.small, g.small);
          most = omega arith;
          numbers =
              record {
                long = c.long;
                is =
                    λ e l. omega (
                      arith,
                      c.is e l,
                      g.numbers.is e l,
                      way_is e l,
                      lower_next m e (plan_of row).messages (omega (arith, message-count row)),
                    );
              };
          table = record { long = s.stripped.table.long; is = λ i e a b. s.stripped.table.is i e a b ∙ step i e a b };
          upto =
              upto_next (robust_ways row) m (λ e. on_robust (plan_of row) m e (message_at row j)) seconds seconds'
              (λ e. ap (on_robust (plan_of row) m e) path_is) g.upto s.stripped.bytes;
        }
      where
        step : (i e : ℕ) → i < most_slots → e < most_links →
            entered (m + 1) (fragile_of (plan_of row) m (message_at row j)) i e (entry_at fragile i e) ≡
            owner_below (fragile_plan (plan_of row)) (m + 1) i e
        step i e a b =
            rw (g.table.is i e a b, path_is, ← fragile_path (plan_of row) m)
            (entry_next (λ k. holds e i (path_of (fragile_plan (plan_of row)) k)) m)

  pub stripping_all_done : (j m : ℕ) (counts fragile seconds : List ℕ) → StrippingAll row n j m counts fragile seconds → n ≤ m →
      Filled (plan_of row) fragile seconds
  unfolding table_of on_robust
  stripping_all_done j m counts fragile seconds g h =
      let all : m ≡ length (fragile_plan (plan_of row)).messages = omega (arith, g.most, fragile_long (plan_of row), message-count row) in
      record {
        table =
            record { long = g.table.long; is = λ i e a b. g.table.is i e a b ∙ ap (λ k. owner_below (fragile_plan (plan_of row)) k i e) all };
        bytes =
            upto_all (robust_ways row) m seconds
            (λ k e past. ap (on_robust (plan_of row) k e)
            (get_or-eq_default (plan_of row).messages [] (omega (arith, message-count row)))) g.upto;
      }
