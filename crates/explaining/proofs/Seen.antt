-- The links that the table has crossed: they are whole in that slot, so no list that matches has cut them before.
use Prim.Native.Nat.{ℕ, ◌+◌, ◌-◌, ◌*◌, ◌/◌, ◌%◌, ◌≤◌, ◌<◌}
use native.Mathlib.Omega.{arith}
use mathlib.Core.Path.{◌≡◌, refl, sym, ◌∙◌, ap, subst}
use mathlib.Core.Logic.{◌⊎◌, inl, inr, ⊎_elim}
use mathlib.Core.Bool.{Bool, true, false, cond, ◌||◌, true≢false}
use mathlib.Core.List.{List, ◌∷◌, ◌++◌}
use lib.ListN.{length, get_or, set, replicate, length-replicate, length-set, length-append, get_or-replicate, get_or-eq_default}
use lib.Seq.{get_or-set_same, get_or-set_other}
use lib.Dec.{ltb, eqb}
use borrow.Author.Tests.{ltb-true, ltb-false, eqb-true, eqb-false}
use Rattle.scope.specs.Limits.{most_links, most_messages}
use Rattle.scope.specs.Outcome.{gives}
use Rattle.scope.specs.Plan.{Plan, plan_of}
use Rattle.scope.specs.Rules.{rules}
use Rattle.scope.specs.Slot.{Position, Event, Moved, turn}
use Rattle.scope.specs.Cuts.{is_cut_list, cuts_link, is_cut}
use Rattle.scope.specs.Cycle.{order_of, table_of, positions, start}
use Rattle.scope.proofs.Cables.{cuts_own}
use Rattle.laws.specs.Message.{position_of, move_in}
use Rattle.laws.proofs.One.{acts, tried_in, move_at}
use Rattle.laws.proofs.Slots.{one_slot}
use Rattle.laws.proofs.Cuts.{is_cut_lem}
use Rattle.laws.proofs.Cables.{cut_both_ways_lem}
use Rattle.laws.proofs.Sound.{number_is_link_lem}
use Rattle.order.proofs.Parts.{slot_right, link_right}
use Rattle.cables.specs.Others.{other_in, AreLinks}
use Rattle.picks.specs.declared.Sizes.{Sizes}
use Rattle.picks.specs.Picks.{Playable}
use Rattle.step.specs.Events.{crossing_of}
use Rattle.clues.specs.Clues.{event_in, crossing_in, Matches}
use Rattle.explaining.specs.Walk.{SeenFrom, Lasts}

-- who crosses a link finds it whole
act-whole : (rank : ℕ → ℕ) (down : ℕ → Bool) (owner : ℕ → ℕ) (i : ℕ) (tried : List ℕ) (m e : ℕ) (p : Position) →
    crossing_of (acts rank down owner i tried m (turn down p)).event ≡ e + 1 → down e ≡ false
act-whole rank down owner i tried m e p =
    one_slot (λ (v : Moved). crossing_of v.event ≡ e + 1 → down e ≡ false) rank down owner i tried m p
    (record {
      kind0 = λ h c. absurd (omega arith);
      kind1 = λ q qs h d n c. absurd (omega arith);
      kind2 = λ q qs h d n c. let same : q.link ≡ e = omega arith in subst (λ (x : ℕ). down x ≡ false) same d;
      kind3 = λ f fs h d o r c. let same : f ≡ e = omega arith in subst (λ (x : ℕ). down x ≡ false) same d;
      kind4 = λ f fs h d o c. absurd (omega arith);
      kind5 = λ f fs h d o r c. absurd (omega arith);
      kind6 = λ q qs h d n c. absurd (omega arith);
      kind7 = λ f fs h d c. absurd (omega arith);
    })

crossed_whole : (rank : ℕ → ℕ) (down : ℕ → ℕ → Bool) (owner : ℕ → ℕ → ℕ) (m i e : ℕ) (ps : List Position) →
    crossing_of (move_in rank down owner m i ps).event ≡ e + 1 → down i e ≡ false
crossed_whole rank down owner m i e ps c =
    act-whole rank (down i) (owner i) i (tried_in (down i) ps) m e (position_of m ps)
    (subst (λ (v : Moved). crossing_of v.event ≡ e + 1) (move_at rank down owner i ps m) c)

-- a list that cuts link e in slot s has it cut from there on
cut-behind : (plan : Plan) (pre : List ℕ) (d s e j : ℕ) (x : List ℕ) → length pre ≡ 2 * d → s ≤ j →
    is_cut plan (pre ++ s ∷ e ∷ x) j e ≡ true
cut-behind plan pre d s e j x long h =
    is_cut_lem plan (pre ++ s ∷ e ∷ x) j e (d + 0) (omega (arith, length-append pre (s ∷ e ∷ x)))
    (ap (λ (k : ℕ). cuts_link plan k e) (link_right pre (s ∷ e ∷ x) d long 0) ∙ cuts_own plan e)
    (omega (arith, slot_right pre (s ∷ e ∷ x) d long 0))

-- what an event crosses is its number, and it is of kind 2 or 3
crossing_of_lem : (v : Event) (e : ℕ) → crossing_of v ≡ e + 1 → (0 < v.kind) × (v.kind ≤ 3) × (v.number ≡ e)
crossing_of_lem v e = by (eqb v.kind 2) refl (eqb v.kind 3) refl
  where
    by : (a : Bool) → eqb v.kind 2 ≡ a → (b : Bool) → eqb v.kind 3 ≡ b → cond (a || b) (v.number + 1) 0 ≡ e + 1 →
        (0 < v.kind) × (v.kind ≤ 3) × (v.number ≡ e)
    by true h b k is = let two : v.kind ≡ 2 = eqb-true v.kind 2 h in (omega arith, omega arith, omega arith)
    by false h true k is = let three : v.kind ≡ 3 = eqb-true v.kind 3 k in (omega arith, omega arith, omega arith)
    by false h false k is = absurd (omega arith)

-- so no list that matches cuts a link whose cable is crossed in its slot or later
module _ (row table crossed : List ℕ) (z : Sizes) (keeps : rules (plan_of row) ≡ gives 0) (play : Playable row table z) (pre : List ℕ)
    (d s e : ℕ) (x : List ℕ) (long : length pre ≡ 2 * d) (seen : SeenFrom crossed z s e)
    (good : is_cut_list (plan_of row) (pre ++ s ∷ e ∷ x) ≡ true) (it : Matches (plan_of row) crossed (pre ++ s ∷ e ∷ x)) where
  abbrev cuts : List ℕ
  cuts = pre ++ s ∷ e ∷ x

  crossing : crossing_in (plan_of row) cuts seen.slot seen.message ≡ seen.link + 1
  crossing =
      it seen.slot (omega (arith, seen.early, play.timeout)) seen.message (omega (arith, seen.there, play.messages)) ∙ seen.crosses

  in_plan : seen.link < length (plan_of row).links
  in_plan =
      let plan = plan_of row in
      let c = crossing_of_lem (event_in plan cuts seen.slot seen.message) seen.link crossing in
      omega (arith, number_is_link_lem (order_of plan) (is_cut plan cuts) plan seen.message seen.slot keeps c.0 c.1, c.2)

  is_cut_there : is_cut (plan_of row) cuts seen.slot seen.link ≡ true
  is_cut_there =
      let plan = plan_of row in
      let behind = cut-behind plan pre d s e seen.slot x long seen.from in
      ⊎_elim (λ own. ap (is_cut plan cuts seen.slot) own ∙ behind)
      (λ other. sym (cut_both_ways_lem plan cuts keeps good seen.slot seen.link in_plan) ∙
      ap (is_cut plan cuts seen.slot) (sym (play.others.is seen.link in_plan) ∙ other) ∙ behind)
      seen.cable

  pub cut_too_early : ⊥
  cut_too_early =
      let plan = plan_of row in
      true≢false
      (sym is_cut_there ∙
      crossed_whole (order_of plan) (is_cut plan cuts) (table_of plan) seen.message seen.slot seen.link
      (positions (order_of plan) (is_cut plan cuts) (table_of plan) 0 seen.slot (start plan)) crossing)

-- the loop over the table: nothing is noted at first, and then what was seen
abbrev none_seen : List ℕ
none_seen = replicate most_links 0

none-long : length none_seen ≡ most_links
none-long = length-replicate {A = ℕ} most_links 0

none-at : (e : ℕ) → get_or none_seen e 0 ≡ 0
none-at e = by (ltb e most_links) refl
  where
    by : (t : Bool) → ltb e most_links ≡ t → get_or none_seen e 0 ≡ 0
    by true h = get_or-replicate {A = ℕ} most_links e 0 0 (ltb-true e most_links h)
    by false h =
        let past : length none_seen ≤ e = omega (arith, none-long, ltb-false e most_links h) in
        get_or-eq_default none_seen 0 past

pub lasts-none : (crossed : List ℕ) (z : Sizes) → Lasts crossed z none_seen
lasts-none crossed z = record { size = none-long; seen = λ s e l. absurd (omega (arith, none-at e)) }

pub link-below : (c : ℕ) → 0 < c → c ≤ most_links → c - 1 < most_links
link-below c some few = omega arith

-- a slot is noted for a link whose cable is crossed there
lasts-put : (crossed : List ℕ) (z : Sizes) (last : List ℕ) (e b : ℕ) → Lasts crossed z last → e < most_links →
    ((s : ℕ) → s < b → SeenFrom crossed z s e) → Lasts crossed z (set last e b)
lasts-put crossed z last e b g there seen =
    record { size = length-set last e b ∙ g.size; seen = λ s x l. by s x l (eqb e x) refl }
  where
    by : (s x : ℕ) → s < get_or (set last e b) x 0 → (t : Bool) → eqb e x ≡ t → SeenFrom crossed z s x
    by s x l false h = g.seen s x (omega (arith, get_or-set_other last e x b 0 (λ q. eqb-false e x h (sym q))))
    by s x l true h =
        let same : e ≡ x = eqb-true e x h in
        let put : get_or (set last e b) x 0 ≡ b =
        ap (λ (i : ℕ). get_or (set last e b) i 0) (sym same) ∙ get_or-set_same last e b 0 (omega (arith, g.size)) in
        subst (SeenFrom crossed z s) same (seen s (omega (arith, put)))

-- so for the link that is crossed, and for its other way
module _ (crossed : List ℕ) (z : Sizes) (last : List ℕ) (k c : ℕ) (g : Lasts crossed z last) (early : k < z.timeout * most_messages)
    (is : c ≡ get_or crossed k 0) (there : k % most_messages < z.messages) (some : 0 < c) (few : c ≤ most_links)
    (links : AreLinks z.others) where
  abbrev behind : ℕ
  behind = k / most_messages + 1

  was_seen : (e : ℕ) → (c - 1 ≡ e) ⊎ (other_in z.others (c - 1) ≡ e) → (s : ℕ) → s < behind → SeenFrom crossed z s e
  was_seen e cable s l =
      let at : k / most_messages * most_messages + k % most_messages ≡ k = omega arith in
      record {
        link = c - 1;
        slot = k / most_messages;
        message = k % most_messages;
        from = omega arith;
        early = omega arith;
        there = there;
        crosses = ap (λ (n : ℕ). get_or crossed n 0) at ∙ sym is ∙ omega arith;
        cable = cable;
      }

  pub lasts-more : Lasts crossed z (set (set last (c - 1) behind) (other_in z.others (c - 1)) behind)
  lasts-more =
      lasts-put crossed z (set last (c - 1) behind) (other_in z.others (c - 1)) behind
      (lasts-put crossed z last (c - 1) behind g (link-below c some few) (was_seen (c - 1) (inl refl)))
      (links.below (c - 1) (link-below c some few)) (was_seen (other_in z.others (c - 1)) (inr refl))
