-- A list matches the table of crossings of a capture exactly if it explains the capture; and none explains one that has a message on two
-- links in one slot.
use Prim.Native.Nat.{ℕ, ◌+◌, ◌≤◌}
use native.Mathlib.Omega.{arith}
use mathlib.Core.Path.{◌≡◌, sym, ◌∙◌, ap}
use mathlib.Core.Bool.{true, false}
use mathlib.Core.List.{List}
use lib.ListN.{length}
use lib.Dec.{eqb}
use borrow.Author.Tests.{eqb-true}
use Rattle.scope.specs.Limits.{most_slots, most_messages}
use Rattle.scope.specs.Plan.{Plan}
use Rattle.scope.specs.Verdict.{First}
use Rattle.scope.specs.Capture.{is_captured, Explains, Unexplained}
use Rattle.laws.proofs.Named.{crossing_in_replay_lem}
use Rattle.capture.specs.declared.Kept.{Kept}
use Rattle.capture.specs.Kept.{crossed_at, KeepsAll}
use Rattle.clues.specs.Clues.{event_in, crossing_in, Matches}
use Rattle.clues.proofs.Crossings.{crosses-is, same_number}

module _ (plan : Plan) (slots : plan.timeout ≤ most_slots) (many : length plan.messages ≤ most_messages) (capture crossed : List ℕ)
    (k : Kept) (h : KeepsAll plan capture crossed k) where
  module _ (once : k.twice ≡ false) (cuts : List ℕ) where
    pub matches : Explains plan capture cuts → Matches plan crossed cuts
    unfolding Explains
    matches it i l m there =
        same_number (crossing_in plan cuts i m) (crossed_at crossed i m)
        (λ e.
        sym (crosses-is e (event_in plan cuts i m)) ∙ sym (crossing_in_replay_lem plan cuts i e m l there) ∙ it i e m l there ∙
        h.marks once i e m (omega arith) (omega arith))

    pub explains : Matches plan crossed cuts → Explains plan capture cuts
    unfolding Explains
    explains it i e m l there =
        crossing_in_replay_lem plan cuts i e m l there ∙ crosses-is e (event_in plan cuts i m) ∙ ap (λ (c : ℕ). eqb c (e + 1)) (it i l m there) ∙
        sym (h.marks once i e m (omega arith) (omega arith))

  -- an event crosses one link at most
  pub unexplained : k.twice ≡ true → (n : ℕ) → Unexplained plan n capture
  unfolding Explains Unexplained
  unexplained two n cuts good few it =
      let c = h.clash two in
      let link : (e : ℕ) → is_captured capture c.slot e c.message ≡ true → crossing_in plan cuts c.slot c.message ≡ e + 1 =
      λ e seen.
      eqb-true (crossing_in plan cuts c.slot c.message) (e + 1)
      (sym (crosses-is e (event_in plan cuts c.slot c.message)) ∙
      sym (crossing_in_replay_lem plan cuts c.slot e c.message c.early c.known) ∙
      it c.slot e c.message c.early c.known ∙ seen) in
      let here = link c.link c.here in
      let there = link c.other c.there in
      c.differ (omega arith)

-- the first list that answers one question answers every question that the same lists answer
pub first-same : (plan : Plan) (One Other : List ℕ → Type 0) (k : ℕ) (cuts : List ℕ) → ((x : List ℕ) → One x → Other x) →
    ((x : List ℕ) → Other x → One x) → First plan One k cuts → First plan Other k cuts
first-same plan One Other k cuts to from f =
    record {
      good = f.good;
      few = f.few;
      answers = to cuts f.answers;
      first = λ others good it. f.first others good (from others it);
    }
