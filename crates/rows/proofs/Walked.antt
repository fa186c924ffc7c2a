-- Every part of a row without refusals 1 to 4 lies in it: `walked`, from the fields' order, part by part.
-- from index i on, where the field f stands, the walk meets nothing to refuse
use Prim.Native.Nat.{ℕ, zero, suc, ◌+◌, ◌-◌, ◌*◌, ◌^◌, ◌≤◌, ◌<◌}
use mathlib.Core.Path.{◌≡◌, refl, sym, ◌∙◌, ap}
use mathlib.Core.Bool.{Bool, true, false, cond}
use mathlib.Core.List.{List, [], ◌∷◌}
use native.Mathlib.Numerals.{add-one}
use native.Mathlib.Omega.{arith}
use borrow.Author.Tests.{ltb-true, ltb-false}
use lib.ListN.{length, drop, drop_of_length-le}
use lib.Seq.{drop-cons}
use lib.Dec.{ltb, eqb, eqb-suc-zero}
use Rattle.scope.specs.declared.Field.{Field}
use Rattle.scope.specs.declared.Field.TheVariants.{Vertices, Links, Messages, Timeout, From, To, Length, Link, Slot, Flag, SecondLength}
use Rattle.scope.specs.declared.Field.TheVariants.{SecondLink, End}
use Rattle.scope.proofs.Outcomes.{not-both}
use Rattle.scope.specs.Outcome.{gives, refuse}
use Rattle.scope.specs.Fields.{width_of, following, next_message, next_place}
use Rattle.scope.specs.Row.{walk_from, walk_row}
use Rattle.scope.specs.Plan.{at, flagged, place_size, after_places, after_message, after_messages, first_message}
use Rattle.rows.specs.Lies.{PlaceLies, MessageLies, PlanLies}

abbrev Walks : List ℕ → Field → ℕ → Type 0
Walks row f i = walk_from (record { slot = 6; next = f }) i (drop i row) ≡ gives (length row)

-- what it says of the field
record Took (row : List ℕ) (f : Field) (i j : ℕ) : Type 0 where
  inside : i < length row
  small : at row i < 2 ^ width_of 6 f
  next : Walks row (following f (at row i)) j

differ : true ≡ false → ⊥
differ e = let z : ◌≡◌ {A = ℕ} 0 1 = cc in omega arith

-- what holds of the first, and of those after it, holds of all
first_then : (P : ℕ → Type 0) (n : ℕ) → P 0 → ((k : ℕ) → k < n → P (suc k)) → (k : ℕ) → k < suc n → P k
first_then P n p q zero h = p
first_then P n p q (suc k) h = q k (omega arith)

gives_same : (m n : ℕ) → gives m ≡ gives n → m ≡ n
gives_same m n e = cc

module _ (row : List ℕ) where
  left-more : (i : ℕ) → i < length row → drop i row ≡ at row i ∷ drop (i + 1) row
  left-more i h = drop-cons row i 0 h ∙ ap (λ n. at row i ∷ drop n row) (sym (add-one i))

  took : (f : Field) (i j : ℕ) → j ≡ i + 1 → eqb (width_of 6 f) 0 ≡ false → Walks row f i → Took row f i j
  unfolding walk_from
  took f i j ej w e = by (ltb i (length row)) refl
    where
      fits : (t : Bool) → ltb (at row i) (2 ^ width_of 6 f) ≡ t → i < length row →
          cond t (walk_from (record { slot = 6; next = following f (at row i) }) (i + 1) (drop (i + 1) row)) (refuse 3 i) ≡ gives (length row) →
          Took row f i j
      fits true s h g = record { inside = h; small = ltb-true (at row i) (2 ^ width_of 6 f) s; next = rw ej g }
      fits false s h g = not-both g

      by : (t : Bool) → ltb i (length row) ≡ t → Took row f i j
      by true s =
          let h : i < length row = ltb-true i (length row) s in
          fits (ltb (at row i) (2 ^ width_of 6 f)) refl h (rw (left-more i h, w) at e)
      by false s =
          let h : length row ≤ i = ltb-false i (length row) s in
          not-both (rw (drop_of_length-le row h, w) at e)

  ended : (i : ℕ) → Walks row End i → i ≡ length row
  unfolding walk_from
  ended i e = by (ltb i (length row)) refl
    where
      by : (t : Bool) → ltb i (length row) ≡ t → i ≡ length row
      by true s =
          let h : i < length row = ltb-true i (length row) s in
          not-both (rw (left-more i h) at e)
      by false s =
          let h : length row ≤ i = ltb-false i (length row) s in
          gives_same i (length row) (rw (drop_of_length-le row h) at e)

  -- the links of a second path
  record Seconds (e p m j : ℕ) : Type 0 where
    link : (k : ℕ) → k < suc e → at row (j + k) < 64
    lies : j + suc e ≤ length row
    next : Walks row (next_place p m) (j + suc e)

  here : (j n : ℕ) → at row j < n → at row (j + 0) < n
  here j n h = let e : j + 0 ≡ j = omega arith in rw e h

  later : (j n k : ℕ) → at row (j + 1 + k) < n → at row (j + suc k) < n
  later j n k h = let e : j + suc k ≡ j + 1 + k = omega arith in rw e h

  seconds : (e p m j : ℕ) → Walks row (SecondLink e p m) j → Seconds e p m j
  seconds zero p m j w =
      let t : Took row (SecondLink 0 p m) j (j + 1) = took (SecondLink 0 p m) j (j + 1) refl refl w in
      record {
        link = first_then (λ k. at row (j + k) < 64) 0 (here j 64 t.small) (λ k h. absurd (omega arith));
        lies = omega (arith, t.inside);
        next = t.next;
      }
  seconds (suc e) p m j w =
      let t : Took row (SecondLink (suc e) p m) j (j + 1) = took (SecondLink (suc e) p m) j (j + 1) refl refl w in
      let f : suc e - 1 ≡ e = omega arith in
      let n : Walks row (SecondLink e p m) (j + 1) = rw (eqb-suc-zero e, f) at t.next in
      let r : Seconds e p m (j + 1) = seconds e p m (j + 1) n in
      let g : j + 1 + suc e ≡ j + suc (suc e) = omega arith in
      record {
        link = first_then (λ k. at row (j + k) < 64) (suc e) (here j 64 t.small) (λ k h. later j 64 k (r.link k h));
        lies = omega (arith, r.lies);
        next = rw g at r.next;
      }

  -- a place
  record Placed (p m i : ℕ) : Type 0 where
    lies : PlaceLies row i
    next : Walks row (next_place p m) (i + place_size row i)

  placed : (p m i : ℕ) → Walks row (Link p m) i → Placed p m i
  placed p m i w = by (flagged row i) refl c.next
    where
      a : Took row (Link p m) i (i + 1)
      a = took (Link p m) i (i + 1) refl refl w

      b : Took row (Slot p m) (i + 1) (i + 2)
      b = took (Slot p m) (i + 1) (i + 2) (omega arith) refl a.next

      c : Took row (Flag p m) (i + 2) (i + 3)
      c = took (Flag p m) (i + 2) (i + 3) (omega arith) refl b.next

      with_second : eqb (at row (i + 2)) 1 ≡ true → Took row (SecondLength p m) (i + 3) (i + 4) → Seconds (at row (i + 3)) p m (i + 4) →
          Placed p m i
      with_second s d r =
          let e : i + (4 + (at row (i + 3) + 1)) ≡ i + 4 + suc (at row (i + 3)) = omega arith in
          let f : at row (i + 3) + 1 ≡ suc (at row (i + 3)) = add-one (at row (i + 3)) in
          record {
            lies =
                record {
                  link = a.small;
                  slot = b.small;
                  flag = c.small;
                  second = λ _. record { few = omega (arith, d.small); link = λ k h. r.link k (omega arith); lies = omega (arith, r.lies) };
                  lies = rw s (omega (arith, r.lies));
                };
            next = rw (s, e) r.next;
          }

      by : (t : Bool) → flagged row i ≡ t → Walks row (cond t (SecondLength p m) (next_place p m)) (i + 3) → Placed p m i
      by true s g =
          let d : Took row (SecondLength p m) (i + 3) (i + 4) = took (SecondLength p m) (i + 3) (i + 4) (omega arith) refl g in
          with_second s d (seconds (at row (i + 3)) p m (i + 4) d.next)
      by false s g =
          record {
            lies =
                record {
                  link = a.small;
                  slot = b.small;
                  flag = c.small;
                  second = λ e. absurd (let z : true ≡ false = sym e ∙ s in differ z);
                  lies = rw s (omega (arith, c.inside));
                };
            next = rw s g;
          }

  -- the places of a message
  record Places (p m i : ℕ) : Type 0 where
    place : (q : ℕ) → q < suc p → PlaceLies row (after_places row i q)
    lies : after_places row i (suc p) ≤ length row
    next : Walks row (next_message m) (after_places row i (suc p))

  places : (p m i : ℕ) → Walks row (Link p m) i → Places p m i
  unfolding after_places
  places zero m i w =
      let t : Placed 0 m i = placed 0 m i w in
      record {
        place = first_then (λ q. PlaceLies row (after_places row i q)) 0 t.lies (λ q h. absurd (omega arith));
        lies = t.lies.lies;
        next = t.next;
      }
  places (suc p) m i w =
      let t : Placed (suc p) m i = placed (suc p) m i w in
      let f : suc p - 1 ≡ p = omega arith in
      let n : Walks row (Link p m) (i + place_size row i) = rw (eqb-suc-zero p, f) at t.next in
      let r : Places p m (i + place_size row i) = places p m (i + place_size row i) n in
      record {
        place = first_then (λ q. PlaceLies row (after_places row i q)) (suc p) t.lies (λ q h. r.place q h);
        lies = r.lies;
        next = r.next;
      }

  -- a message
  record Message (m i : ℕ) : Type 0 where
    lies : MessageLies row i
    next : Walks row (next_message m) (after_message row i)

  message : (m i : ℕ) → Walks row (Length m) i → Message m i
  message m i w =
      let t : Took row (Length m) i (i + 1) = took (Length m) i (i + 1) refl refl w in
      let r : Places (at row i) m (i + 1) = places (at row i) m (i + 1) t.next in
      let f : at row i + 1 ≡ suc (at row i) = add-one (at row i) in
      record {
        lies = record { few = omega (arith, t.small); place = λ p h. r.place p (omega arith); lies = rw f r.lies };
        next = rw f r.next;
      }

  -- the messages
  record MessagesLie (m i : ℕ) : Type 0 where
    message : (q : ℕ) → q < suc m → MessageLies row (after_messages row i q)
    ends : after_messages row i (suc m) ≡ length row

  messages : (m i : ℕ) → Walks row (Length m) i → MessagesLie m i
  unfolding after_messages
  messages zero i w =
      let t : Message 0 i = message 0 i w in
      record {
        message = first_then (λ q. MessageLies row (after_messages row i q)) 0 t.lies (λ q h. absurd (omega arith));
        ends = ended (after_message row i) t.next;
      }
  messages (suc m) i w =
      let t : Message (suc m) i = message (suc m) i w in
      let f : suc m - 1 ≡ m = omega arith in
      let n : Walks row (Length m) (after_message row i) = rw (eqb-suc-zero m, f) at t.next in
      let r : MessagesLie m (after_message row i) = messages m (after_message row i) n in
      record {
        message = first_then (λ q. MessageLies row (after_messages row i q)) (suc m) t.lies (λ q h. r.message q h);
        ends = r.ends;
      }

  -- the links
  record LinksLie (e m i : ℕ) : Type 0 where
    from : (k : ℕ) → k < suc e → at row (i + 2 * k) < 64
    to : (k : ℕ) → k < suc e → at row (i + 1 + 2 * k) < 64
    next : Walks row (Length m) (i + 2 * suc e)

  links : (e m i : ℕ) → Walks row (From e m) i → LinksLie e m i
  links zero m i w =
      let s : Took row (From 0 m) i (i + 1) = took (From 0 m) i (i + 1) refl refl w in
      let t : Took row (To 0 m) (i + 1) (i + 2) = took (To 0 m) (i + 1) (i + 2) (omega arith) refl s.next in
      record {
        from = first_then (λ k. at row (i + 2 * k) < 64) 0 (here i 64 s.small) (λ k h. absurd (omega arith));
        to = first_then (λ k. at row (i + 1 + 2 * k) < 64) 0 (here (i + 1) 64 t.small) (λ k h. absurd (omega arith));
        next = t.next;
      }
  links (suc e) m i w =
      let s : Took row (From (suc e) m) i (i + 1) = took (From (suc e) m) i (i + 1) refl refl w in
      let t : Took row (To (suc e) m) (i + 1) (i + 2) = took (To (suc e) m) (i + 1) (i + 2) (omega arith) refl s.next in
      let f : suc e - 1 ≡ e = omega arith in
      let n : Walks row (From e m) (i + 2) = rw (eqb-suc-zero e, f) at t.next in
      let r : LinksLie e m (i + 2) = links e m (i + 2) n in
      let g : i + 2 + 2 * suc e ≡ i + 2 * suc (suc e) = omega arith in
      record {
        from = first_then (λ k. at row (i + 2 * k) < 64) (suc e) (here i 64 s.small) (λ k h. shift i k (r.from k h));
        to = first_then (λ k. at row (i + 1 + 2 * k) < 64) (suc e) (here (i + 1) 64 t.small) (λ k h. shift_to i k (r.to k h));
        next = rw g at r.next;
      }
    where
      shift : (i k : ℕ) → at row (i + 2 + 2 * k) < 64 → at row (i + 2 * suc k) < 64
      shift i k h = let e : i + 2 * suc k ≡ i + 2 + 2 * k = omega arith in rw e h

      shift_to : (i k : ℕ) → at row (i + 2 + 1 + 2 * k) < 64 → at row (i + 1 + 2 * suc k) < 64
      shift_to i k h = let e : i + 1 + 2 * suc k ≡ i + 2 + 1 + 2 * k = omega arith in rw e h

  header : Walks row Vertices 1 → PlanLies row
  header w =
      let a : Took row Vertices 1 2 = took Vertices 1 2 refl refl w in
      let b : Took row Links 2 3 = took Links 2 3 refl refl a.next in
      let c : Took row (Messages (at row 2)) 3 4 = took (Messages (at row 2)) 3 4 refl refl b.next in
      let d : Took row (Timeout (at row 2) (at row 3)) 4 5 = took (Timeout (at row 2) (at row 3)) 4 5 refl refl c.next in
      let l : LinksLie (at row 2) (at row 3) 5 = links (at row 2) (at row 3) 5 d.next in
      let f : at row 2 + 1 ≡ suc (at row 2) = add-one (at row 2) in
      let g : at row 3 + 1 ≡ suc (at row 3) = add-one (at row 3) in
      let n : Walks row (Length (at row 3)) (first_message row) = rw f l.next in
      let m : MessagesLie (at row 3) (first_message row) = messages (at row 3) (first_message row) n in
      record {
        vertices = omega (arith, a.small);
        links = omega (arith, b.small);
        messages = omega (arith, c.small);
        timeout = omega (arith, d.small);
        from = λ e h. l.from e (omega arith);
        to = λ e h. l.to e (omega arith);
        message = λ q h. m.message q (omega arith);
        ends = rw g m.ends;
      }

-- a row without refusals 1 to 4
pub walked : (row : List ℕ) → walk_row row ≡ gives (length row) → PlanLies row
unfolding walk_row
walked [] e = not-both e
walked (v ∷ vs) e = by (eqb v 1) e
  where
    by : (t : Bool) → cond t (walk_from (record { slot = 6; next = Vertices }) 1 vs) (refuse 1 0) ≡ gives (length (v ∷ vs)) → PlanLies (v ∷ vs)
    by true g = header (v ∷ vs) g
    by false g = not-both g
