-- Plan B shows that D is reached, and that a cut in a place's own slot touches the message: by computing.
use Prim.Native.Nat.{ℕ, ◌<◌}
use native.Mathlib.Omega.{arith}
use mathlib.Core.Path.{◌≡◌, refl, sym, ◌∙◌, ap}
use mathlib.Core.Bool.{true≢false}
use mathlib.Core.List.{[], ◌∷◌}
use Rattle.scope.specs.Lowest.{seek}
use Rattle.scope.specs.Plan.{numbers_at, links_at, places_at, after_places, messages_at, plan_of, place_of}
use Rattle.scope.specs.Good.{has, different, are_links, joins, visited, slots_rise, holds, taken, good_seconds}
use Rattle.scope.specs.Rules.{rules}
use Rattle.scope.specs.Cables.{other_way}
use Rattle.scope.specs.Cuts.{pairs, cut_link, cuts_link, is_cut}
use Rattle.scope.specs.Cycle.{foremost, table_of, moves, slot, numbers, positions, events, event_row, order_of}
use Rattle.scope.specs.Spare.{entries_of, entries, has_second_through, lower_through, delay}
use Rattle.scope.proofs.Cables.{cuts_by}
use Rattle.laws.specs.Diverted.{WholeUntilArrival}
use Rattle.laws.specs.Sharp.{plan_b, cut_at_once, Sharp}
use Rattle.laws.proofs.Cuts.{not-cut}

-- the list names link 0 alone, which has no other way, and the second path is links 1 and 2
whole : WholeUntilArrival (order_of plan_b) (is_cut plan_b cut_at_once) plan_b 0 0 (place_of plan_b 0 0).second
unfolding has seek other_way plan_of links_at messages_at places_at after_places numbers_at
whole i from before away e h =
    not-cut plan_b cut_at_once i e
    (λ j l link. absurd (cuts_by plan_b (cut_link cut_at_once j) e link (λ own. other j l own)
    (λ back. other j l (own_way j l ∙ back))))
  where
    only : (j : ℕ) → j < pairs cut_at_once → j ≡ 0
    only j l = omega arith

    own_way : (j : ℕ) → j < pairs cut_at_once → cut_link cut_at_once j ≡ other_way plan_b (cut_link cut_at_once j)
    own_way j l = rw (only j l)

    other : (j : ℕ) → j < pairs cut_at_once → cut_link cut_at_once j ≡ e → ⊥
    other j l link =
        let zeroth : 0 ≡ e = sym (ap (cut_link cut_at_once) (only j l)) ∙ link in
        true≢false (sym h ∙ sym (ap (λ (x : ℕ). has x (1 ∷ 2 ∷ [])) zeroth))

pub sharp : Sharp
unfolding seek numbers_at links_at places_at after_places messages_at plan_of has different are_links joins visited slots_rise holds taken
    good_seconds rules is_cut cuts_link other_way foremost table_of moves slot numbers positions events event_row entries_of entries has_second_through
    lower_through delay
sharp =
    record {
      good = refl;
      leaves = record { place = omega arith; stands = refl; cut = refl; second = refl };
      whole = whole;
      d = refl;
      not_sooner = refl;
      arrives = refl;
      kind_without = refl;
      kind_with = refl;
    }
