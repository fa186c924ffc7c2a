-- A message that leaves its first path in slot s, and whose second path stays whole, is at its target at time s + D.
use Prim.Native.Nat.{ℕ, ◌+◌, ◌≤◌}
use native.Mathlib.Omega.{arith}
use mathlib.Core.Path.{◌≡◌, refl, sym, ◌∙◌, ap, subst}
use mathlib.Core.Bool.{Bool}
use mathlib.Core.List.{List, [], ◌∷◌}
use Rattle.scope.specs.Plan.{Plan, Place}
use Rattle.scope.specs.Slot.{at_target}
use Rattle.scope.specs.Cycle.{positions, start, table_of}
use Rattle.scope.specs.Spare.{entries, lower_through, delay}
use Rattle.laws.specs.Message.{position_of}
use Rattle.laws.specs.Links.{NoLinkTwiceLeft}
use Rattle.laws.specs.Diverted.{standing, ArrivesWithinD}
use Rattle.laws.proofs.Replay.{positions_follow_lem}
use Rattle.laws.proofs.Kept.{starts, once_kept}
use Rattle.laws.proofs.Count.{entries_from, entries_fall, entries_fall_strictly, entries-most}
use Rattle.laws.proofs.Pending.{pending, pending_start, pending_falls_on}
use Rattle.laws.proofs.Potential.{potential, potential_most, Counts, weight, arrives}

-- D is the sum with the weights of the start
delay-is : (rank : ℕ → ℕ) (paths : List (List Place)) (m : ℕ) (es : List ℕ) →
    potential (λ e. entries e paths + lower_through rank m e 0 paths) es ≡ delay rank paths m es
unfolding potential delay
delay-is rank paths m [] = refl
delay-is rank paths m (e ∷ es) = omega (arith, delay-is rank paths m es)

abbrev comes : Plan → ℕ → ℕ → ℕ
comes plan i e = entries_from i e plan.messages

comes_counts : (plan : Plan) → Counts (table_of plan) (comes plan)
comes_counts plan =
    record { falls = λ i e. entries_fall i e plan.messages; strictly = λ i e. entries_fall_strictly plan i e }

module _ (rank : ℕ → ℕ) (down : ℕ → ℕ → Bool) (plan : Plan) (m : ℕ) where
  at_most_d : (s : ℕ) (path : List ℕ) →
      potential (weight rank down (table_of plan) (comes plan) m s (positions rank down (table_of plan) 0 s (start plan))) path ≤
      delay rank plan.messages m path
  unfolding weight
  at_most_d s path =
      let owner = table_of plan in
      let ps = positions rank down owner 0 s (start plan) in
      let heavy : ℕ → ℕ = λ e. entries e plan.messages + lower_through rank m e 0 plan.messages in
      let most : (e : ℕ) → comes plan s e + pending rank m e 0 ps ≤ heavy e =
      λ e. omega (
        arith,
        entries-most s e plan.messages,
        pending_falls_on rank down owner m e s 0 (start plan),
        pending_start rank m e 0 plan.messages,
      ) in
      omega (arith, potential_most (λ e. comes plan s e + pending rank m e 0 ps) heavy most path, delay-is rank plan.messages m path)

  -- where it stands k slots after slot s
  pub standing-after : (s k : ℕ) → standing rank down plan m (s + k) ≡
      position_of m (positions rank down (table_of plan) s k (positions rank down (table_of plan) 0 s (start plan)))
  standing-after s k =
      let z : 0 + s ≡ s = omega arith in
      let owner = table_of plan in
      ap (position_of m)
      (positions_follow_lem rank down owner 0 s k (start plan) ∙
      ap (λ (j : ℕ). positions rank down owner j k (positions rank down owner 0 s (start plan))) z)

pub arrives_within_d_lem : ArrivesWithinD
arrives_within_d_lem rank down plan m s path once turns whole fits =
    let owner = table_of plan in
    let ps = positions rank down owner 0 s (start plan) in
    let d = delay rank plan.messages m path in
    ap at_target (standing-after rank down plan m s d) ∙
    arrives rank down owner (comes plan) m (comes_counts plan) d s ps
    (λ k. once_kept rank down owner k s 0 (start plan) (subst NoLinkTwiceLeft (sym (starts plan k)) (once k)))
    path turns (at_most_d rank down plan m s path)
    (λ k l away e h. whole (s + k) (omega arith) (omega arith) (ap at_target (standing-after rank down plan m s k) ∙ away) e h)
