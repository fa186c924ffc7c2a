-- What is lent says what the plan and the cut list say: which links below the limit are cut, and who holds one, for every link and every
-- slot of a cycle. So a cycle over the one is a cycle over the other.
use Prim.Native.Nat.{ℕ, zero, suc, ◌+◌, ◌≤◌, ◌<◌}
use mathlib.Core.Path.{◌≡◌, refl, sym, ◌∙◌, ap, fun_ext}
use mathlib.Core.Bool.{Bool, true, false, ◌&&◌, ◌||◌}
use mathlib.Core.List.{List, ◌++◌}
use native.Mathlib.Omega.{arith}
use lib.ListN.{length}
use lib.Dec.{ltb, leb, eqb}
use borrow.Author.Tests.{ne_eqb, ltb-true, ltb-false}
use Rattle.scope.specs.Limits.{most_links, most_slots}
use Rattle.scope.specs.Lowest.{some}
use Rattle.scope.specs.Outcome.{gives}
use Rattle.scope.specs.Plan.{Plan, at, places_at, place_size, place_count, after_places, message_count, plan_of, path_of}
use Rattle.scope.specs.SecondPath.{message_index}
use Rattle.scope.specs.Good.{holds}
use Rattle.scope.specs.Cables.{other_way}
use Rattle.scope.specs.Cuts.{pairs, cut_link, cut_slot, check_cuts, is_cut_list, cuts_link, is_cut}
use Rattle.scope.specs.Slot as S
use Rattle.scope.specs.Cycle.{table_of, slot, nexts, numbers, positions, events}
use Rattle.scope.proofs.Some.{none, some_same}
use Rattle.scope.proofs.Cables.{other-below}
use Rattle.scope.proofs.Cuts.{is-list, link-below}
use Rattle.rows.specs.Lies.{PlanLies}
use Rattle.rows.proofs.Parts.{message-count, path_at}
use Rattle.table.specs.Table.{Table, entry_at}
use Rattle.table.proofs.Entries.{no_link_lem}
use Rattle.cables.specs.Others.{other_in, OtherWays}
use Rattle.cuts.specs.Down.{cut_in, cut_below}

-- a cycle looks at a slot's links and entries only in that slot
module _ (rank : ℕ → ℕ) (down down' : ℕ → ℕ → Bool) (owner owner' : ℕ → ℕ → ℕ) where
  pub slot_same : (i : ℕ) (ps : List S.Position) → down i ≡ down' i → owner i ≡ owner' i →
      slot rank down owner i ps ≡ slot rank down' owner' i ps
  unfolding slot
  slot_same i ps p q = rw (p, q)

  pub positions-same : (n i : ℕ) (ps : List S.Position) → ((j : ℕ) → j < i + n → (down j ≡ down' j) × (owner j ≡ owner' j)) →
      positions rank down owner i n ps ≡ positions rank down' owner' i n ps
  unfolding positions
  positions-same zero i ps h = refl
  positions-same (suc n) i ps h =
      let s : slot rank down owner i ps ≡ slot rank down' owner' i ps = slot_same i ps (h i (omega arith)).0 (h i (omega arith)).1 in
      positions-same n (i + 1) (nexts (slot rank down owner i ps)) (λ j l. h j (omega arith)) ∙
      ap (λ u. positions rank down' owner' (i + 1) n (nexts u)) s

  pub events-same : (n i : ℕ) (ps : List S.Position) → ((j : ℕ) → j < i + n → (down j ≡ down' j) × (owner j ≡ owner' j)) →
      events rank down owner i n ps ≡ events rank down' owner' i n ps
  unfolding events
  events-same zero i ps h = refl
  events-same (suc n) i ps h =
      let s : slot rank down owner i ps ≡ slot rank down' owner' i ps = slot_same i ps (h i (omega arith)).0 (h i (omega arith)).1 in
      ap (λ u. numbers (slot rank down owner i ps) ++ u) (events-same n (i + 1) (nexts (slot rank down owner i ps)) (λ j l. h j (omega arith)))
      ∙ ap (λ u. numbers u ++ events rank down' owner' (i + 1) n (nexts u)) s

-- a list without a bad pair cuts what is down, and no link that the plan does not have
module _ (plan : Plan) (cuts : List ℕ) (n : ℕ) (good : check_cuts plan cuts ≡ gives n) where
  listed : is_cut_list plan cuts ≡ true
  listed = is-list plan cuts n good

  cut-none : (i e : ℕ) → length plan.links ≤ e → is_cut plan cuts i e ≡ false
  unfolding is_cut cuts_link
  cut-none i e h =
      none (λ j. cuts_link plan (cut_link cuts j) e && leb (cut_slot cuts j) i) (pairs cuts)
      (λ j l.
      let s = link-below plan cuts listed j l in
      let o = other-below plan (cut_link cuts j) s in
      rw (ne_eqb (cut_link cuts j) e (λ q. omega arith), ne_eqb (other_way plan (cut_link cuts j)) e (λ q. omega arith)))

  module _ (others : List ℕ) (o : OtherWays plan others) where
    cut-same : (i e : ℕ) → cut_in others cuts i e ≡ is_cut plan cuts i e
    unfolding is_cut cuts_link
    cut-same i e =
        some_same (λ j. (eqb (cut_link cuts j) e || eqb (other_in others (cut_link cuts j)) e) && leb (cut_slot cuts j) i)
        (λ j. cuts_link plan (cut_link cuts j) e && leb (cut_slot cuts j) i) (pairs cuts)
        (λ j l. rw (o.is (cut_link cuts j) (link-below plan cuts listed j l)))

    pub down-same : length plan.links ≤ most_links → (i : ℕ) → cut_below others cuts i ≡ is_cut plan cuts i
    down-same k i = fun_ext (λ e. by e (ltb e most_links) refl)
      where
        by : (e : ℕ) (b : Bool) → ltb e most_links ≡ b → (b && cut_in others cuts i e) ≡ is_cut plan cuts i e
        by e true b = cut-same i e
        by e false b =
            let l : most_links ≤ e = ltb-false e most_links b in
            sym (cut-none i e (omega arith))

-- nor does the table hold one
module _ (row : List ℕ) (lies : PlanLies row) where
  holds-none : (e i k n : ℕ) → 64 ≤ e → ((p : ℕ) → p < n → at row (after_places row k p) < 64) → holds e i (places_at row k n) ≡ false
  unfolding holds places_at after_places
  holds-none e i k zero h s = refl
  holds-none e i k (suc n) h s =
      let l : at row k < 64 = s 0 (omega arith) in
      let f : eqb (at row k) e ≡ false = ne_eqb (at row k) e (λ q. omega arith) in
      rw f (holds-none e i (k + place_size row k) n h (λ p g. s (suc p) (omega arith)))

  table_none : (i e : ℕ) → 64 ≤ e → table_of (plan_of row) i e ≡ 0
  unfolding table_of
  table_none i e h =
      let s : some (λ m. holds e i (path_of (plan_of row) m)) (length (plan_of row).messages) ≡ false =
      none (λ m. holds e i (path_of (plan_of row) m)) (length (plan_of row).messages)
      (λ m l. one m (omega (arith, message-count row))) in
      rw s
    where
      one : (m : ℕ) → m < message_count row → holds e i (path_of (plan_of row) m) ≡ false
      one m l =
          ap (holds e i) (path_at row m l)
          ∙ holds-none e i (message_index row m + 1) (place_count row (message_index row m)) h (λ p g. ((lies.message m l).place p g).link)

  pub owner-same : (table : List ℕ) → Table (table_of (plan_of row)) table → (i : ℕ) → i < most_slots → entry_at table i ≡ table_of (plan_of row) i
  owner-same table t i h = fun_ext (λ e. by e (ltb e most_links) refl)
    where
      by : (e : ℕ) (b : Bool) → ltb e most_links ≡ b → entry_at table i e ≡ table_of (plan_of row) i e
      by e true b = t.is i e h (ltb-true e most_links b)
      by e false b = no_link_lem table i e (ltb-false e most_links b) ∙ sym (table_none i e (ltb-false e most_links b))
