-- The rounds of refusals 5 to 10 and 14 to 19: nothing is refused exactly if no round finds a rule broken.
use Prim.Native.Nat.{ℕ}
use mathlib.Core.Path.{◌≡◌, refl}
use mathlib.Core.Logic.{◌↔◌}
use mathlib.Core.Bool.{Bool, true, false, cond, true≢false}
use lib.ListN.{length}
use Rattle.scope.specs.declared.Refusal.{Refusal}
use Rattle.scope.specs.Lowest.{some}
use Rattle.scope.specs.Outcome.{Outcome, gives, refused, unless_some}
use Rattle.scope.specs.Plan.{Plan}
use Rattle.scope.specs.Good.{bad_ends, repeats, bad_slots, bad_table}
use Rattle.scope.specs.PathRules.{PathRule, breaks_it, unless_on, first_no_link, first_apart, first_again}
use Rattle.scope.specs.PathRules.{second_no_link, second_apart, second_astray, second_again, second_replaced}
use Rattle.scope.specs.Rules.{rules}
use Rattle.scope.proofs.Outcomes.{not-both}

-- a round that refuses what it finds gives something exactly if it finds nothing and what comes after it gives that
round : (found : Bool) (r : Refusal) (after : Outcome) (z : ℕ) →
    (cond found (refused r) after ≡ gives z) ↔ ((found ≡ false) × (after ≡ gives z))
round true r after z = (λ h. not-both h, λ h. absurd (true≢false h.0))
round false r after z = (λ h. (refl, h), λ h. h.1)

pub unless_some_lem : (k : ℕ) (broken : ℕ → Bool) (n : ℕ) (after : Outcome) (z : ℕ) →
    (unless_some k broken n after ≡ gives z) ↔ ((some broken n ≡ false) × (after ≡ gives z))
unless_some_lem k broken n after z = round _ _ after z

-- no message breaks a rule of paths
abbrev pub Unbroken : Plan → PathRule → Type 0
Unbroken plan rule = some (breaks_it plan rule) (length plan.messages) ≡ false

pub unless_on_lem : (plan : Plan) (k : ℕ) (rule : PathRule) (after : Outcome) (z : ℕ) →
    (unless_on plan k rule after ≡ gives z) ↔ (Unbroken plan rule × (after ≡ gives z))
unless_on_lem plan k rule after z = round _ _ after z

-- each of the twelve rounds finds nothing
pub record NothingFound (plan : Plan) : Type 0 where
  pub ends : some (bad_ends plan) (length plan.links) ≡ false
  pub once : some (repeats plan) (length plan.links) ≡ false
  pub first_links : Unbroken plan (first_no_link plan)
  pub first_joins : Unbroken plan (first_apart plan)
  pub first_once : Unbroken plan (first_again plan)
  pub slots : some (bad_slots plan) (length plan.messages) ≡ false
  pub table : some (bad_table plan) (length plan.messages) ≡ false
  pub second_links : Unbroken plan (second_no_link plan)
  pub second_joins : Unbroken plan (second_apart plan)
  pub second_ends : Unbroken plan (second_astray plan)
  pub second_once : Unbroken plan (second_again plan)
  pub second_starts : Unbroken plan (second_replaced plan)

pub nothing_found : (plan : Plan) (z : ℕ) → rules plan ≡ gives z → NothingFound plan
unfolding rules
nothing_found plan z h =
    let e = length plan.links in
    let m = length plan.messages in
    let r₅ = (unless_some_lem 5 (bad_ends plan) e _ z).0 h in
    let r₆ = (unless_some_lem 6 (repeats plan) e _ z).0 r₅.1 in
    let r₇ = (unless_on_lem plan 7 (first_no_link plan) _ z).0 r₆.1 in
    let r₁₄ = (unless_on_lem plan 14 (first_apart plan) _ z).0 r₇.1 in
    let r₁₅ = (unless_on_lem plan 15 (first_again plan) _ z).0 r₁₄.1 in
    let r₈ = (unless_some_lem 8 (bad_slots plan) m _ z).0 r₁₅.1 in
    let r₉ = (unless_some_lem 9 (bad_table plan) m _ z).0 r₈.1 in
    let r₁₀ = (unless_on_lem plan 10 (second_no_link plan) _ z).0 r₉.1 in
    let r₁₆ = (unless_on_lem plan 16 (second_apart plan) _ z).0 r₁₀.1 in
    let r₁₇ = (unless_on_lem plan 17 (second_astray plan) _ z).0 r₁₆.1 in
    let r₁₈ = (unless_on_lem plan 18 (second_again plan) _ z).0 r₁₇.1 in
    let r₁₉ = (unless_on_lem plan 19 (second_replaced plan) _ z).0 r₁₈.1 in
    record {
      ends = r₅.0;
      once = r₆.0;
      first_links = r₇.0;
      first_joins = r₁₄.0;
      first_once = r₁₅.0;
      slots = r₈.0;
      table = r₉.0;
      second_links = r₁₀.0;
      second_joins = r₁₆.0;
      second_ends = r₁₇.0;
      second_once = r₁₈.0;
      second_starts = r₁₉.0;
    }

pub nothing_refused : (plan : Plan) → NothingFound plan → rules plan ≡ gives 0
unfolding rules
nothing_refused plan f =
    rw (
      f.ends,
      f.once,
      f.first_links,
      f.first_joins,
      f.first_once,
      f.slots,
      f.table,
      f.second_links,
      f.second_joins,
      f.second_ends,
      f.second_once,
      f.second_starts,
    )

-- the rules give 0 or a refusal
pub rules_give : (plan : Plan) (z : ℕ) → rules plan ≡ gives z → rules plan ≡ gives 0
rules_give plan z h = nothing_refused plan (nothing_found plan z h)
