-- One law for each way out of `slack_of_good` and `slack`, from what their callees ensure, and that what is allowed of a call is one outcome.
use Prim.Native.Nat.{ℕ, ◌+◌, ◌≤◌, ◌<◌, ◌^◌}
use native.Mathlib.Omega.{arith}
use mathlib.Core.Path.{◌≡◌, sym, ◌∙◌, ap, ap₂}
use mathlib.Core.Bool.{Bool, true, false}
use mathlib.Core.List.{List}
use lib.ListN.{length}
use lib.IntN.{ℤ, sub_ℕ}
use mir.Syntax.{w32}
use mir.Val.{to_z, of_z}
use Rattle.scope.specs.declared.Refusal.{Refusal}
use Rattle.scope.proofs.Outcomes.{not-both}
use Rattle.scope.specs.Outcome.{Outcome, gives, refused, refusal_at, refuse}
use Rattle.scope.specs.Plan.{numbers_at, flagged, second_at, after_places, place_count, message_count, timeout_of, plan_of, place_of}
use Rattle.scope.specs.SecondPath.{message_index, place_index}
use Rattle.scope.specs.Cycle.{order_of}
use Rattle.scope.specs.Spare.{delay, no_second}
use Rattle.scope.specs.Questions.{judge, may_spare, slack}
use Rattle.rows.specs.View.{IsPlace}
use Rattle.rows.specs.declared.RowPlace.{RowPlace}
use Rattle.rows.proofs.Parts.{timeout-is}
use Rattle.rows.proofs.Second.{no_links, some-links, links-are}
use Rattle.plan.specs.Answers.{GoodRow}
use Rattle.spare.specs.Slack.{Spare}
use Rattle.std.specs.Prelude.{Ok, Err}
use Rattle.spare.specs.Slack.{Slacks, said, value, unless_refused}
use Rattle.spare.proofs.There.{There, no_message, no_place, no_second_lem, has-second, place_is}
use Rattle.spare.proofs.Signed.{sub_back}
use Rattle.spare.proofs.Bounds.{small}

-- an answer is known by its refusal and value
same_answer : (a b : Spare) → said a ≡ said b → value a ≡ value b → a ≡ b
same_answer (Ok y) (Ok z) e f = ap Ok f
same_answer (Ok y) (Err r) e f = not-both (sym e)
same_answer (Err r) (Ok z) e f = not-both e
same_answer (Err r) (Err s) e f = ap Err (let g : r ≡ s = cc in g)

-- two outcomes that the promise of a slack allows are equal
pub one_slack : (row : List ℕ) (m p : ℕ) (a b : Spare) → Slacks row m p a → Slacks row m p b → a ≡ b
one_slack row m p a b h g = same_answer a b (h.answer ∙ sym g.answer) (h.value ∙ sym g.value)

-- what stands before a slack
judged : (row : List ℕ) → GoodRow row → judge row ≡ gives (length row)
unfolding judge
judged row g = rw (g.form, g.keeps)

module _ (row : List ℕ) (m p : ℕ) where
  pub place_at : {i a : ℕ} → i ≡ message_index row m → a ≡ after_places row (i + 1) p → a ≡ place_index row m p
  place_at index stands = stands ∙ ap (λ (j : ℕ). after_places row (j + 1) p) index

  refuses : (r : Refusal) → may_spare row m p ≡ refused r → Slacks row m p (Err r)
  refuses r e = record { answer = sym e; value = sym (ap (λ (o : Outcome). unless_refused o (slack row m p)) e) }

  -- refusals 1 to 10 and 14 to 19
  pub bad-row : (r : Refusal) → judge row ≡ refused r → Slacks row m p (Err r)
  unfolding may_spare
  bad-row r e = refuses r (rw e)

  module _ (g : GoodRow row) where
    may-not : no_second (place_of (plan_of row) m p).second ≡ true → may_spare row m p ≡ refuse 11 0
    unfolding may_spare
    may-not e = rw (judged row g, e)

    may : no_second (place_of (plan_of row) m p).second ≡ false → may_spare row m p ≡ gives 0
    unfolding may_spare
    may e = rw (judged row g, e)

    -- refusal 11
    no_slack : (r : Refusal) → r ≡ refusal_at 11 0 → no_second (place_of (plan_of row) m p).second ≡ true → Slacks row m p (Err r)
    no_slack r is e = refuses r (may-not e ∙ ap refused (sym is))

    -- the number of messages is n
    pub out_message : (n : ℕ) (r : Refusal) → n ≡ message_count row → n ≤ m → r ≡ refusal_at 11 0 → Slacks row m p (Err r)
    out_message n r count h is = no_slack r is (no_message row m p (omega arith))

    module _ (n i k : ℕ) (count : n ≡ message_count row) (here : m < n) (index : i ≡ message_index row m) (places : k ≡ place_count row i) where
      message : m < message_count row
      message = omega arith

      many : k ≡ place_count row (message_index row m)
      many = places ∙ ap (place_count row) index

      -- message m stands at index i and has k places
      pub out_place : (r : Refusal) → k ≤ p → r ≡ refusal_at 11 0 → Slacks row m p (Err r)
      out_place r h is = no_slack r is (no_place row m p message (omega (arith, many)))

      -- place p stands at index a
      module _ (a : ℕ) (spot : RowPlace) (below : p < k) (stands : a ≡ after_places row (i + 1) p) (is-spot : IsPlace row a spot) where
        place : p < place_count row (message_index row m)
        place = omega (arith, many)

        flag : {b : Bool} → flagged row a ≡ b → flagged row (place_index row m p) ≡ b
        flag e = ap (flagged row) (sym (place_at index stands)) ∙ e

        pub out_second : (r : Refusal) → spot.count ≡ 0 → r ≡ refusal_at 11 0 → Slacks row m p (Err r)
        out_second r none is = no_slack r is (no_second_lem row m p message place (flag (no_links row a spot is-spot none)))

        pub found : (spot.count ≡ 0 → ⊥) → There row m p
        found some = record { message = message; place = place; second = flag (some-links row a spot is-spot some) }

    abbrev D : List ℕ → ℕ
    D es = delay (order_of (plan_of row)) (plan_of row).messages m es

    -- a second path is there, at index a, and d of the timeout t is its delay
    module _ (there : There row m p) (a t d : ℕ) (spot : RowPlace) (stands : a ≡ place_index row m p) (is-spot : IsPlace row a spot)
        (time : t ≡ timeout_of row) (waits : d ≡ D (numbers_at row spot.second spot.count)) where
      abbrev u : ℕ
      u = spot.slot + d

      used_is : u ≡ (place_of (plan_of row) m p).slot + D (place_of (plan_of row) m p).second
      used_is =
          let e : d ≡ D (second_at row a) = waits ∙ ap D (links-are row a spot is-spot) in
          rw (place_is row m p there.message there.place, ← stands, is-spot.slot, e)

      pub fits : (t < 2 ^ 30) × (u < 2 ^ 30)
      fits =
          let s = small row m p g there in
          let e : (plan_of row).timeout ≡ timeout_of row = timeout-is row in
          (omega (arith, s.timeout), omega (arith, used_is, s.slot, s.timeout, s.most))

      -- the slack z, laid in 32 bits
      pub spares : (z : ℤ) → z ≡ sub_ℕ t u → Slacks row m p (Ok (to_z w32 (of_z w32 z)))
      unfolding slack
      spares z is =
          let e : may_spare row m p ≡ gives 0 = may (has-second row m p there) in
          let f : to_z w32 (of_z w32 z) ≡ slack row m p = sub_back t u fits.0 fits.1 z is ∙
          ap₂ sub_ℕ (time ∙ sym (timeout-is row)) used_is in
          record { answer = sym e; value = f ∙ sym (ap (λ (o : Outcome). unless_refused o (slack row m p)) e) }
