-- Who crosses a link, in each slot of the replay of a good plan.
use Prim.Native.Nat.{ℕ, ◌+◌, ◌-◌}
use native.Mathlib.Omega.{arith}
use mathlib.Core.Path.{◌≡◌, sym, ◌∙◌, ap, subst}
use mathlib.Core.Bool.{Bool, false}
use Rattle.scope.specs.Outcome.{gives}
use Rattle.scope.specs.Plan.{Plan}
use Rattle.scope.specs.Rules.{rules}
use Rattle.scope.specs.Cuts.{is_cut}
use Rattle.scope.specs.Cycle.{positions, start, table_of, order_of}
use Rattle.laws.specs.Message.{position_of, tries_link}
use Rattle.laws.specs.Links.{TableGivesLeft, NoLinkTwiceLeft, AtMostOneInReplay, AtMostOneUnderCuts, NeverTriesAgainInReplay}
use Rattle.laws.proofs.Replay.{positions_follow_lem}
use Rattle.laws.proofs.Kept.{starts, table_kept, once_kept}
use Rattle.laws.proofs.Links.{at_most_one_crosses_lem}
use Rattle.laws.proofs.Again.{never_tries_again_lem}
use Rattle.laws.proofs.Table.{table-gives}
use Rattle.laws.proofs.Seconds.{no_link_twice_lem}

pub table_at : (rank : ℕ → ℕ) (down : ℕ → ℕ → Bool) (plan : Plan) → rules plan ≡ gives 0 → (m i : ℕ) →
    TableGivesLeft (table_of plan) m (position_of m (positions rank down (table_of plan) 0 i (start plan)))
table_at rank down plan g m i =
    table_kept rank down (table_of plan) m i 0 (start plan)
    (subst (TableGivesLeft (table_of plan) m) (sym (starts plan m)) (table-gives plan g m))

pub once_at : (rank : ℕ → ℕ) (down : ℕ → ℕ → Bool) (plan : Plan) → rules plan ≡ gives 0 → (m i : ℕ) →
    NoLinkTwiceLeft (position_of m (positions rank down (table_of plan) 0 i (start plan)))
once_at rank down plan g m i =
    once_kept rank down (table_of plan) m i 0 (start plan) (subst NoLinkTwiceLeft (sym (starts plan m)) (no_link_twice_lem plan g m))

pub at_most_one_in_replay_lem : AtMostOneInReplay
at_most_one_in_replay_lem rank down plan g differ i e a b la lb =
    at_most_one_crosses_lem rank down (table_of plan) i e a b (positions rank down (table_of plan) 0 i (start plan))
    (differ a b la lb) (table_at rank down plan g a i) (table_at rank down plan g b i)

pub at_most_one_under_cuts_lem : AtMostOneUnderCuts
at_most_one_under_cuts_lem plan cuts g = at_most_one_in_replay_lem (order_of plan) (is_cut plan cuts) plan g (λ a b la lb same. same)

pub never_tries_again_in_replay_lem : NeverTriesAgainInReplay
never_tries_again_in_replay_lem rank down plan g m i e kind number j l =
    let n = j - (i + 1) in
    let at : i + (1 + n) ≡ j = omega arith in
    let zero-i : 0 + i ≡ i = omega arith in
    let ps = start plan in
    let owner = table_of plan in
    let qs = positions rank down owner 0 i ps in
    let later : positions rank down owner 0 (i + (1 + n)) ps ≡ positions rank down owner i (1 + n) qs =
    positions_follow_lem rank down owner 0 i (1 + n) ps ∙ ap (λ (k : ℕ). positions rank down owner k (1 + n) qs) zero-i in
    let never = never_tries_again_lem rank down owner m i e qs (once_at rank down plan g m i) kind number n in
    subst (λ (k : ℕ). tries_link (down k) e m (positions rank down owner 0 k ps) ≡ false) at
    (ap (tries_link (down (i + (1 + n))) e m) later ∙ never)
