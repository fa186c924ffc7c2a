-- Document 02, [3]: "Plans A and B have no reversed links and their cases stand." What document 01 calls a cut, and that a
-- plan without reversed links is answered so. The verdict, the figures and an explanation ask which lists are cut lists and what their replays
-- give, and no more; the verdict is spelt out.
use Rattle.std.specs.Prelude.{ℕ, ◌≤◌, ◌<◌, ◌≡◌, Bool, true, false, not, ◌&&◌, List, length, leb, eqb}
use Rattle.scope.specs.Lowest.{some}
use Rattle.scope.specs.Outcome.{gives, unless_some}
use Rattle.scope.specs.Plan.{Plan}
use Rattle.scope.specs.Cables.{other_way}
use Rattle.scope.specs.Cuts.{pairs, cut_slot, cut_link, bad_link_pair, check_cuts, is_cut_list}
use Rattle.scope.specs.Cycle.{order_of, table_of, start, positions, events, arrived, arrivals, event_row}
use Rattle.scope.specs.Verdict.{Resistant}

-- no link of a plan has another way
abbrev pub NoReversedLinks : Plan → Type 0
NoReversedLinks plan = (e : ℕ) → e < length plan.links → other_way plan e ≡ e

-- "A link is cut in its slot and every later one", and the other way stays whole
abbrev pub is_link_cut : List ℕ → ℕ → ℕ → Bool
is_link_cut cuts i e = some (λ j. eqb (cut_link cuts j) e && leb (cut_slot cuts j) i) (pairs cuts)

-- the arrivals in that sense
abbrev pub arrivals_one_way : Plan → List ℕ → ℕ
arrivals_one_way plan cuts = arrived (positions (order_of plan) (is_link_cut cuts) (table_of plan) 0 plan.timeout (start plan))

-- and the verdict
abbrev pub ResistsOneWay : Plan → ℕ → ℕ → Type 0
ResistsOneWay plan k l =
    (cuts : List ℕ) → some (bad_link_pair plan cuts) (pairs cuts) ≡ false → pairs cuts ≤ k → l ≤ arrivals_one_way plan cuts

-- the same refusals and the same cut lists, and under each of these the same arrivals and events; so the same verdicts
pub record AsBefore (plan : Plan) : Type 0 where
  pub refuses : (cuts : List ℕ) → check_cuts plan cuts ≡ unless_some 12 (bad_link_pair plan cuts) (pairs cuts) (gives (pairs cuts))
  pub lists : (cuts : List ℕ) → is_cut_list plan cuts ≡ not (some (bad_link_pair plan cuts) (pairs cuts))
  pub arrives : (cuts : List ℕ) → is_cut_list plan cuts ≡ true → arrivals plan cuts ≡ arrivals_one_way plan cuts
  pub tells : (cuts : List ℕ) → is_cut_list plan cuts ≡ true →
      event_row plan cuts ≡ events (order_of plan) (is_link_cut cuts) (table_of plan) 0 plan.timeout (start plan)
  pub resists : (k l : ℕ) → Resistant plan k l → ResistsOneWay plan k l
  pub resists_back : (k l : ℕ) → ResistsOneWay plan k l → Resistant plan k l
