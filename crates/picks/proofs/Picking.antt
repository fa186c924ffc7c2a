-- No pair, and one pair more: the numbers, what is down and where the messages stand.
use Prim.Native.Nat.{ℕ, zero, suc, ◌+◌, ◌-◌, ◌*◌, ◌≤◌, ◌<◌}
use native.Mathlib.Omega.{arith}
use mathlib.Core.Path.{◌≡◌, refl, sym, ◌∙◌, ap, ap₂}
use mathlib.Core.Bool.{Bool, true, false, cond, ◌||◌, and-true}
use mathlib.Core.List.{List, [], ◌∷◌, ◌++◌, append_assoc}
use lib.ListN.{length, get_or, take, drop, set, replicate, length-set, length-drop, length-replicate, get_or-replicate, take-append-drop}
use lib.Seq.{take-suc-set, get_or-set_same, get_or-set_other, get_or-drop, ext_get_or}
use lib.Dec.{ltb, eqb}
use borrow.Author.Tests.{eqb-true, eqb-false, le-leb}
use Rattle.scope.specs.Limits.{most_cuts, most_links}
use Rattle.scope.specs.Lowest.{seek, some}
use Rattle.scope.specs.Plan.{Plan, plan_of}
use Rattle.scope.specs.Cables.{other_way, is_higher}
use Rattle.scope.specs.Cuts.{pairs, cut_link, cuts_link, is_cut}
use Rattle.scope.proofs.Bools.{or_left, or_right}
use Rattle.laws.proofs.Cuts.{no_cuts}
use Rattle.cables.specs.Others.{other_in}
use Rattle.cables.proofs.Bytes.{higher_size, higher_is}
use Rattle.cuts.specs.Down.{is_down}
use Rattle.step.specs.declared.Standing.{Standing}
use Rattle.order.specs.Search.{code, Not}
use Rattle.scope.proofs.Some.{none_below, which, some_same, some_more}
use Rattle.order.proofs.Pairs.{is_cut_list_lem}
use Rattle.order.proofs.Prefix.{cut-more, same-before}
use Rattle.order.proofs.Parts.{link_left, link_right, pairs-both}
use Rattle.order.proofs.Steps.{picked, cut_already, no_name}
use Rattle.picks.specs.declared.Sizes.{Sizes}
use Rattle.picks.specs.declared.Picked.{Picked}
use Rattle.picks.specs.Picks.{cuts_of, with_pair, no_pair, is_named, Playable, Holding, StandAt}

-- zeros, and zeros past them
pub noughts : (k w : ℕ) → ◌≡◌ {A = ℕ} (get_or {A = ℕ} (replicate {A = ℕ} k 0) w 0) 0
noughts zero w = refl
noughts (suc k) zero = refl
noughts (suc k) (suc w) = noughts k w

pub holding-none : (row table : List ℕ) (z : Sizes) → Playable row table z → Holding row z (no_pair z)
unfolding seek
holding-none row table z y =
    record {
      long = refl;
      slot = omega arith;
      link = omega arith;
      chosen =
          record {
            long = refl;
            good = is_cut_list_lem (plan_of row) [] (λ i h. absurd (omega arith));
            none = λ e. refl;
            next = λ j e. absurd (omega arith);
          };
      size = refl;
      down = λ i e h. ap (ltb 0) (noughts most_links e) ∙ sym (ap (λ (f : ℕ → ℕ → Bool). f i e) (no_cuts (plan_of row)));
      shut = higher_size z.others;
      closed = λ e l.
          ap (ltb 0) (higher_is z.others e (omega (arith, y.few))) ∙ is-mark (ltb (other_in z.others e) e) ∙
          ap (λ (d : ℕ). ltb d e) (y.others.is e (omega (arith, y.links)));
      past = λ i h. noughts (2 * most_cuts) i;
    }
  where
    is-mark : (b : Bool) → ltb 0 (cond b 1 0) ≡ b
    is-mark true = refl
    is-mark false = refl

-- a list that ends in zeros, and two of them
pub zeros-after : (l : List ℕ) (size n : ℕ) → length l ≡ size → ((i : ℕ) → n ≤ i → get_or l i 0 ≡ 0) → l ≡ take n l ++ replicate (size - n) 0
zeros-after l size n long past =
    sym (take-append-drop n l) ∙
    ap (λ (z : List ℕ). take n l ++ z)
    (ext_get_or 0 (drop n l) (replicate (size - n) 0) (omega (arith, length-drop n l, length-replicate {A = ℕ} (size - n) 0))
    (λ i h. get_or-drop n l i 0 ∙ past (n + i) (omega arith) ∙
    sym (get_or-replicate {A = ℕ} (size - n) i 0 0 (omega (arith, length-drop n l)))))

pub same_numbers : (l m : List ℕ) (size n k : ℕ) → length l ≡ size → length m ≡ size → n ≡ k → take n l ≡ take k m →
    ((i : ℕ) → n ≤ i → get_or l i 0 ≡ 0) → ((i : ℕ) → k ≤ i → get_or m i 0 ≡ 0) → l ≡ m
same_numbers l m size n k a b e same p q =
    zeros-after l size n a p ∙ ap₂ (λ (z : List ℕ) (j : ℕ). z ++ replicate (size - j) 0) same e ∙ sym (zeros-after m size k b q)

-- two numbers more at the front of a list
take_two : (l : List ℕ) (d s e : ℕ) → 2 * d + 1 < length l →
    take (2 * (d + 1)) (set (set l (2 * d) s) (2 * d + 1) e) ≡ take (2 * d) l ++ s ∷ e ∷ []
take_two l d s e h =
    let a : 2 * (d + 1) ≡ suc (2 * d + 1) = omega arith in
    let b : 2 * d + 1 ≡ suc (2 * d) = omega arith in
    let m = set l (2 * d) s in
    ap (λ (n : ℕ). take n (set m (2 * d + 1) e)) a ∙
    take-suc-set m (2 * d + 1) e (omega (arith, length-set l (2 * d) s)) ∙
    ap (λ (n : ℕ). take n m ++ (e ∷ [])) b ∙
    ap (λ (x : List ℕ). x ++ (e ∷ [])) (take-suc-set l (2 * d) s (omega arith)) ∙
    append_assoc (take (2 * d) l) (s ∷ []) (e ∷ [])

module _ (row : List ℕ) (z : Sizes) (p : Picked) (h : Holding row z p) (e : ℕ) where
  -- a link that is not closed is named by no pair, and may be
  pub free : e < z.links → is_down p.closed e ≡ false → (j : ℕ) → j < pairs (cuts_of p) → cut_link (cuts_of p) j ≡ e → ⊥
  free l may j there same =
      let none = or_left (is_named (cuts_of p) e) (is_higher (plan_of row) e) (sym (h.closed e l) ∙ may) in
      eqb-false (cut_link (cuts_of p) j) e (none_below (λ k. eqb (cut_link (cuts_of p) k) e) (pairs (cuts_of p)) none j there) same

  pub is_name : e < z.links → is_down p.closed e ≡ false → is_higher (plan_of row) e ≡ false
  is_name l may = or_right (is_named (cuts_of p) e) (is_higher (plan_of row) e) (sym (h.closed e l) ∙ may)

  -- no list goes on with one that is closed
  pub closed_already : (Answers : List ℕ → Type 0) → length (plan_of row).links ≤ most_links → e < z.links → (k s : ℕ) →
      is_down p.closed e ≡ true → (x : List ℕ) → Not (plan_of row) Answers (cuts_of p ++ s ∷ e ∷ x)
  closed_already Answers few l k s shut x = by (is_named (cuts_of p) e) refl
    where
      by : (b : Bool) → is_named (cuts_of p) e ≡ b → Not (plan_of row) Answers (cuts_of p ++ s ∷ e ∷ x)
      by true named =
          let who = which (λ j. eqb (cut_link (cuts_of p) j) e) (pairs (cuts_of p)) named in
          cut_already (plan_of row) Answers few (cuts_of p) p.count (code p.slot p.link) h.chosen k s e who.0
          (omega (arith, who.1, h.chosen.long)) (eqb-true (cut_link (cuts_of p) who.0) e who.2) x
      by false other =
          no_name (plan_of row) Answers few (cuts_of p) p.count (code p.slot p.link) h.chosen k s e
          (ap (λ (b : Bool). b || is_higher (plan_of row) e) (sym other) ∙ sym (h.closed e l) ∙ shut) x

-- one byte more is 1
set-down : (down : List ℕ) (e x : ℕ) → e < length down → is_down (set down e 1) x ≡ (eqb e x || is_down down x)
set-down down e x there = by (eqb e x) refl
  where
    by : (b : Bool) → eqb e x ≡ b → is_down (set down e 1) x ≡ (b || is_down down x)
    by true q =
        let same : e ≡ x = eqb-true e x q in
        ap (ltb 0) (ap (λ (k : ℕ). get_or (set down e 1) k 0) (sym same) ∙ get_or-set_same down e 1 0 there)
    by false q = ap (ltb 0) (get_or-set_other down e x 1 0 (λ r. eqb-false e x q (sym r)))

-- which links a list with one pair more names
named_more : (pre : List ℕ) (d s e x : ℕ) → length pre ≡ 2 * d → is_named (pre ++ s ∷ e ∷ []) x ≡ (is_named pre x || eqb e x)
named_more pre d s e x long =
    let y : List ℕ = s ∷ e ∷ [] in
    let test : ℕ → Bool = λ j. eqb (cut_link (pre ++ y) j) x in
    let old : ℕ → Bool = λ j. eqb (cut_link pre j) x in
    let z : d + 0 ≡ d = omega arith in
    let k : pairs pre ≡ d = omega arith in
    let last : test d ≡ eqb e x = ap (λ (u : ℕ). eqb u x) (rw z at (link_right pre y d long 0)) in
    let front : some test d ≡ some old d = some_same test old d (λ j h. ap (λ (u : ℕ). eqb u x) (link_left pre y d long j h)) in
    ap (some test) (pairs-both pre y d long 1 refl) ∙ some_more test d ∙ ap₂ ◌||◌ (front ∙ ap (some old) (sym k)) last

-- what is down with one pair more
pub down-more : (plan : Plan) (pre down : List ℕ) (d s e o i x : ℕ) → length pre ≡ 2 * d → o ≡ other_way plan e → e < length down →
    o < length down → s ≤ i → is_down down x ≡ is_cut plan pre i x →
    is_down (set (set down e 1) o 1) x ≡ is_cut plan (pre ++ s ∷ e ∷ []) i x
unfolding cuts_link
down-more plan pre down d s e o i x long back there also early is =
    set-down (set down e 1) o x (omega (arith, length-set down e 1)) ∙
    ap (λ (b : Bool). eqb o x || b) (set-down down e x there ∙ ap (λ (b : Bool). eqb e x || b) is) ∙
    turned (eqb o x) (eqb e x) (is_cut plan pre i x) ∙
    sym (cut-more plan pre d s e long i x ∙ rw (← back, le-leb s i early, and-true (eqb e x || eqb o x)))
  where
    turned : (a b c : Bool) → (a || (b || c)) ≡ (c || (b || a))
    turned true true true = refl
    turned true true false = refl
    turned true false true = refl
    turned true false false = refl
    turned false true true = refl
    turned false true false = refl
    turned false false true = refl
    turned false false false = refl

module _ (row table : List ℕ) (z : Sizes) (p : Picked) (y : Playable row table z) (h : Holding row z p) (s e : ℕ)
    (room : p.count < most_cuts) where
  pub cuts-more : cuts_of (with_pair z p s e) ≡ cuts_of p ++ s ∷ e ∷ []
  cuts-more = take_two p.numbers p.count s e (omega (arith, h.long))

  pub holding-more : code p.slot p.link ≤ code s e → s < z.timeout → e < z.links → is_down p.closed e ≡ false →
      Holding row z (with_pair z p s e)
  holding-more later hs he may =
      record {
        long = length-set (set p.numbers (2 * p.count) s) (2 * p.count + 1) e ∙ length-set p.numbers (2 * p.count) s ∙ h.long;
        slot = omega arith;
        link = omega arith;
        chosen =
            rw cuts-more
            (picked (plan_of row) (omega (arith, y.links, y.few)) (cuts_of p) p.count (code p.slot p.link) s e h.chosen later
            (omega (arith, y.timeout)) (omega (arith, y.links)) (λ j l. free row z p h e he may j (omega (arith, h.chosen.long)))
            (is_name row z p h e he may));
        size = length-set (set p.down e 1) (other_in z.others e) 1 ∙ length-set p.down e 1 ∙ h.size;
        down = λ i x l.
            rw cuts-more
            (down-more (plan_of row) (cuts_of p) p.down p.count s e (other_in z.others e) i x h.chosen.long
            (y.others.is e (omega (arith, y.links))) (omega (arith, h.size, y.few))
            (omega (arith, h.size, y.others.bytes.below e (omega (arith, y.few)))) l
            (h.down i x (omega (arith, h.link, y.few))));
        shut = length-set p.closed e 1 ∙ h.shut;
        closed = λ x l.
            rw cuts-more
            (set-down p.closed e x (omega (arith, h.shut, y.few)) ∙ ap (λ (b : Bool). eqb e x || b) (h.closed x l) ∙
            front (eqb e x) (is_named (cuts_of p) x) (is_higher (plan_of row) x) ∙
            ap (λ (b : Bool). b || is_higher (plan_of row) x) (sym (named_more (cuts_of p) p.count s e x h.chosen.long)));
        past = λ i l.
            get_or-set_other (set p.numbers (2 * p.count) s) (2 * p.count + 1) i e 0 (λ same. omega arith) ∙
            get_or-set_other p.numbers (2 * p.count) i s 0 (λ same. omega arith) ∙ h.past i (omega arith);
      }
    where
      front : (a b c : Bool) → (a || (b || c)) ≡ (b || a || c)
      front true true c = refl
      front true false c = refl
      front false true c = refl
      front false false c = refl

  pub stand-more : (n : ℕ) (ps : Standing) → StandAt row n (cuts_of p) s ps → StandAt row n (cuts_of (with_pair z p s e)) s ps
  stand-more n ps t =
      rw cuts-more
      (record {
        time = t.time;
        next =
            record { is = t.next.is ∙ sym (same-before (plan_of row) (cuts_of p) p.count s e h.chosen.long); stand = t.next.stand };
      })
