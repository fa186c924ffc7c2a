-- Of a good plan's links that are one cable both are cut, or neither.
use Prim.Native.Nat.{ℕ, ◌<◌}
use mathlib.Core.Path.{◌≡◌, refl, sym, ◌∙◌, ap}
use mathlib.Core.Bool.{Bool, true, false, true≢false}
use mathlib.Core.List.{List}
use lib.ListN.{length}
use Rattle.scope.specs.Outcome.{gives}
use Rattle.scope.specs.Plan.{Plan}
use Rattle.scope.specs.Good.{repeats}
use Rattle.scope.specs.Rules.{rules}
use Rattle.scope.specs.Cables.{other_way}
use Rattle.scope.specs.Cuts.{is_cut_list, is_cut, cuts_link, cut_link}
use Rattle.scope.proofs.Cuts.{link-below}
use Rattle.scope.proofs.Cables.{other_twice, cuts_both, cuts-each}
use Rattle.laws.specs.Cables.{CutBothWays}
use Rattle.laws.proofs.Good.{keeps-rules}
use Rattle.laws.proofs.Cuts.{cut_pair, is_cut_lem}

module _ (plan : Plan) (g : rules plan ≡ gives 0) where
  -- no two links of it have the same ends in the same direction
  links_once : (e : ℕ) → e < length plan.links → repeats plan e ≡ false
  links_once = (keeps-rules plan g).once

  pub good_twice : (d : ℕ) → d < length plan.links → other_way plan (other_way plan d) ≡ d
  good_twice = other_twice plan links_once

  pub good-both : (d e : ℕ) → d < length plan.links → cuts_link plan d e ≡ true → cuts_link plan d (other_way plan e) ≡ true
  good-both = cuts_both plan links_once

  pub good-each : (d e f : ℕ) → d < length plan.links → cuts_link plan d e ≡ true → cuts_link plan d f ≡ true → cuts_link plan e f ≡ true
  good-each = cuts-each plan links_once

  -- where a link is cut, the other way of it is
  pub cut-back : (cuts : List ℕ) → is_cut_list plan cuts ≡ true → (i e : ℕ) → is_cut plan cuts i e ≡ true →
      is_cut plan cuts i (other_way plan e) ≡ true
  cut-back cuts good i e h =
      let c = cut_pair plan cuts i e h in
      is_cut_lem plan cuts i (other_way plan e) c.0 c.1
      (good-both (cut_link cuts c.0) e (link-below plan cuts good c.0 c.1) c.2) c.3

pub cut_both_ways_lem : CutBothWays
cut_both_ways_lem plan cuts g good i e l = by (is_cut plan cuts i e) refl (is_cut plan cuts i (other_way plan e)) refl
  where
    by : (a : Bool) → is_cut plan cuts i e ≡ a → (b : Bool) → is_cut plan cuts i (other_way plan e) ≡ b →
        is_cut plan cuts i (other_way plan e) ≡ is_cut plan cuts i e
    by true h b k = cut-back plan g cuts good i e h ∙ sym h
    by false h false k = k ∙ sym h
    by false h true k =
        absurd (true≢false (sym (cut-back plan g cuts good i (other_way plan e) k) ∙ ap (is_cut plan cuts i) (good_twice plan g e l) ∙ h))
