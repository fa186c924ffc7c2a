-- Nothing is refused exactly of the plans that document 01 calls good.
use Prim.Native.Nat.{ℕ}
use mathlib.Core.Path.{◌≡◌, refl, sym, ◌∙◌, ap}
use mathlib.Core.Bool.{Bool, true, false, not, ◌&&◌, ◌||◌, false≢true, not-not}
use mathlib.Core.List.{List, [], ◌∷◌}
use lib.ListN.{length, length-map, get_or}
use lib.Dec.{eqb}
use borrow.Author.Tests.{eqb-true, eq-eqb}
use Rattle.scope.specs.Lowest.{seek, some}
use Rattle.scope.specs.Plan.{Plan, Place, link_of, path_of, place_of}
use Rattle.scope.specs.Good.{links_of, end_of, good_place, good_seconds, is_good}
use Rattle.scope.specs.Good.{bad_ends, repeats, bad_first_path, bad_slots, bad_table, bad_second_path}
use Rattle.scope.specs.PathRules.{PathRule, no_link, apart, again, astray, replaced, on_first, begins_at, breaks_it}
use Rattle.scope.specs.PathRules.{first_no_link, first_apart, first_again}
use Rattle.scope.specs.PathRules.{second_no_link, second_apart, second_astray, second_again, second_replaced}
use Rattle.scope.specs.Rules.{GoodAsBefore}
use Rattle.scope.proofs.Bools.{or_left, or_right, not-true, none_of_five}
use Rattle.scope.proofs.Some.{some_same, some_or, some_at}
use Rattle.scope.proofs.PathFaults.{all_keep, is_path, is-astray, is-replaced}
use Rattle.scope.proofs.Rules.{NothingFound, nothing_found, nothing_refused}

-- what place_of gives where there is no place
abbrev no_place : Place
no_place = record { link = 0; slot = 0; second = [] }

module _ (plan : Plan) where
  -- "on a first path the step is the place": one test a link
  on_first_lem : (fault : List ℕ → ℕ → Bool) (m : ℕ) →
      breaks_it plan (on_first plan fault) m ≡ some (fault (links_of (path_of plan m))) (length (links_of (path_of plan m)))
  on_first_lem fault m =
      let path = path_of plan m in
      some_same _ (fault (links_of path)) (length path)
      (λ p l. some_at (λ s. eqb s p) (fault (links_of path)) (length path) p l (eq-eqb p p refl) (λ i h e. eqb-true i p e)) ∙
      ap (some (fault (links_of path))) (sym (length-map path (λ q. q.link)))

  bad-first : (m : ℕ) →
      bad_first_path plan m ≡ (breaks_it plan (first_no_link plan) m || breaks_it plan (first_apart plan) m || breaks_it plan (first_again plan) m)
  bad-first m =
      let es = links_of (path_of plan m) in
      let v = begins_at plan es in
      let n = length es in
      rw (
        is_path plan v es,
        on_first_lem (no_link plan) m,
        on_first_lem (λ es. apart plan (begins_at plan es) es) m,
        on_first_lem (λ es. again plan (begins_at plan es) es) m,
      )
      (by (some (no_link plan es) n) (some (apart plan v es) n) (some (again plan v es) n))
    where
      by : (a b c : Bool) → not (not a && not b && not c) ≡ (a || b || c)
      by true b c = refl
      by false true c = refl
      by false false c = not-not c

  -- a place of a first path that ends at vertex `end`
  bad-place : (end link slot : ℕ) (es : List ℕ) →
      let n = length es in
      let v = (link_of plan link).from in
      not (good_place plan end (record { link = link; slot = slot; second = es }) es) ≡
      (some (no_link plan es) n || some (apart plan v es) n || some (astray plan end es) n || some (again plan v es) n ||
      some (replaced link es) n)
  unfolding seek
  bad-place end link slot [] = refl
  bad-place end link slot (e ∷ es) =
      let path = e ∷ es in
      let v = (link_of plan link).from in
      let n = length path in
      rw (is_path plan v path, is-astray plan end e es, is-replaced link e es)
      (by (some (no_link plan path) n) (some (apart plan v path) n) (some (again plan v path) n) (eqb (end_of plan path) end) (eqb e link))
    where
      by : (a b c d f : Bool) → not (not a && not b && not c && d && not f) ≡ (a || b || not d || c || f)
      by true b c d f = refl
      by false true c d f = refl
      by false false true true f = refl
      by false false true false f = refl
      by false false false true f = not-not f
      by false false false false f = refl

  good_places : (end : ℕ) (ps : List Place) →
      good_seconds plan end ps ≡ not (some (λ p. not (good_place plan end (get_or ps p no_place) (get_or ps p no_place).second)) (length ps))
  unfolding seek good_seconds
  good_places end [] = refl
  good_places end (p ∷ ps) =
      all_keep (λ i. not (good_place plan end (get_or (p ∷ ps) i no_place) (get_or (p ∷ ps) i no_place).second)) (length ps)
      (good_place plan end p p.second) (good_seconds plan end ps) refl (good_places end ps)

  bad-second : (m : ℕ) →
      bad_second_path plan m ≡
      (breaks_it plan (second_no_link plan) m || breaks_it plan (second_apart plan) m || breaks_it plan (second_astray plan) m ||
      breaks_it plan (second_again plan) m || breaks_it plan (second_replaced plan) m)
  bad-second m =
      let end = end_of plan (links_of (path_of plan m)) in
      let at = place_of plan m in
      ap not (good_places end (path_of plan m)) ∙ not-not _ ∙
      some_same _ _ (length (path_of plan m)) (λ p l. bad-place end (at p).link (at p).slot (at p).second) ∙ simp some_or

  -- some message breaks a rule
  abbrev broken : PathRule → Bool
  broken rule = some (breaks_it plan rule) (length plan.messages)

  bad_firsts : some (bad_first_path plan) (length plan.messages) ≡
      (broken (first_no_link plan) || broken (first_apart plan) || broken (first_again plan))
  bad_firsts = some_same _ _ (length plan.messages) (λ m l. bad-first m) ∙ simp some_or

  bad_seconds : some (bad_second_path plan) (length plan.messages) ≡
      (broken (second_no_link plan) || broken (second_apart plan) || broken (second_astray plan) || broken (second_again plan) ||
      broken (second_replaced plan))
  bad_seconds = some_same _ _ (length plan.messages) (λ m l. bad-second m) ∙ simp some_or

  -- the six rules of a good plan, each by itself
  pub each_rule : is_good plan ≡ true →
      (some (bad_ends plan) (length plan.links) ≡ false) × (some (repeats plan) (length plan.links) ≡ false) ×
      (some (bad_first_path plan) (length plan.messages) ≡ false) × (some (bad_slots plan) (length plan.messages) ≡ false) ×
      (some (bad_table plan) (length plan.messages) ≡ false) × (some (bad_second_path plan) (length plan.messages) ≡ false)
  unfolding is_good
  each_rule h =
      let e = length plan.links in
      let m = length plan.messages in
      by (some (bad_ends plan) e) (some (repeats plan) e) (some (bad_first_path plan) m) (some (bad_slots plan) m) (some (bad_table plan) m)
      (some (bad_second_path plan) m) h
    where
      by : (a b c d e f : Bool) → (not a && not b && not c && not d && not e && not f) ≡ true →
          (a ≡ false) × (b ≡ false) × (c ≡ false) × (d ≡ false) × (e ≡ false) × (f ≡ false)
      by true b c d e f h = absurd (false≢true h)
      by false true c d e f h = absurd (false≢true h)
      by false false true d e f h = absurd (false≢true h)
      by false false false true e f h = absurd (false≢true h)
      by false false false false true f h = absurd (false≢true h)
      by false false false false false f h = (refl, refl, refl, refl, refl, not-true f h)

  found_nothing : is_good plan ≡ true → NothingFound plan
  found_nothing h =
      let k = each_rule h in
      let no = broken (first_no_link plan) in
      let apart = broken (first_apart plan) in
      let again = broken (first_again plan) in
      let first : (no || apart || again) ≡ false = sym bad_firsts ∙ k.2 in
      let both = or_left (no || apart) again first in
      let second = none_of_five (broken (second_no_link plan)) (broken (second_apart plan)) (broken (second_astray plan))
      (broken (second_again plan)) (broken (second_replaced plan)) (sym bad_seconds ∙ k.5) in
      record {
        ends = k.0;
        once = k.1;
        first_links = or_left no apart both;
        first_joins = or_right no apart both;
        first_once = or_right (no || apart) again first;
        slots = k.3;
        table = k.4;
        second_links = second.0;
        second_joins = second.1;
        second_ends = second.2;
        second_once = second.3;
        second_starts = second.4;
      }

  is-good : NothingFound plan → is_good plan ≡ true
  unfolding is_good
  is-good f =
      rw (
        f.ends,
        f.once,
        bad_firsts,
        f.first_links,
        f.first_joins,
        f.first_once,
        f.slots,
        f.table,
        bad_seconds,
        f.second_links,
        f.second_joins,
        f.second_ends,
        f.second_once,
        f.second_starts,
      )

  pub good_as_before : GoodAsBefore plan
  good_as_before = record { kept = λ h. nothing_refused plan (found_nothing h); only = λ h. is-good (nothing_found plan 0 h) }
