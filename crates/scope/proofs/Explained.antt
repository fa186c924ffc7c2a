-- The first list that explains a small capture, by computing: each list that goes before has a crossing that was not captured.
use Prim.Native.Nat.{ℕ, zero, suc}
use mathlib.Core.Path.{◌≡◌, refl, sym}
use mathlib.Core.Bool.{Bool, cond, true, false, ◌&&◌, true≢false}
use mathlib.Core.List.{List, [], ◌∷◌}
use native.Mathlib.Omega.{arith}
use lib.Dec.{lit<, lit≤, ltb, eqb}
use borrow.Author.Tests.{le-ltb, ne_eqb}
use Rattle.scope.specs.Lowest.{seek}
use Rattle.scope.specs.Plan.{numbers_at, links_at, places_at, after_places, messages_at, after_messages, plan_of}
use Rattle.scope.specs.Good.{holds}
use Rattle.scope.specs.Cables.{other_way}
use Rattle.scope.specs.Cuts.{is_cut, cuts_link, is_cut_list}
use Rattle.scope.specs.Cycle.{foremost, table_of, moves, slot, numbers, positions, events, event_row}
use Rattle.scope.specs.Verdict.{earlier, goes_before}
use Rattle.scope.specs.Capture.{is_captured, has_crossing, Explains, FirstExplaining}
use Rattle.scope.specs.Cases.{row_b, seen_b}
use Rattle.scope.proofs.Cuts.{link-below, even}
use Rattle.scope.proofs.First.{longer}

-- of three triples number j is the one of a slot: it is this message's, or another's
is_one : (j : ℕ) (t : Bool) → ltb j 3 ≡ true → t ≡ ltb (cond (t && true) j 3) 3
is_one j true h = sym h
is_one j false h = refl

is-other : (j : ℕ) (t : Bool) → false ≡ ltb (cond (t && false) j 3) 3
is-other j true = refl
is-other j false = refl

explains : Explains (plan_of row_b) seen_b (1 ∷ 0 ∷ [])
unfolding Explains has_crossing is_captured event_row events numbers seek is_cut cuts_link other_way foremost table_of moves slot positions
    numbers_at links_at places_at after_places messages_at after_messages plan_of holds
explains zero e zero l g = is_one 0 (eqb 0 e) refl
explains zero e (suc zero) l g = is-other 0 (eqb 0 e)
explains zero e (suc (suc m)) l g = absurd (omega arith)
explains (suc zero) e zero l g = is-other 1 (eqb 1 e)
explains (suc zero) e (suc zero) l g = is_one 1 (eqb 1 e) refl
explains (suc zero) e (suc (suc m)) l g = absurd (omega arith)
explains (suc (suc zero)) e zero l g = is-other 2 (eqb 2 e)
explains (suc (suc zero)) e (suc zero) l g = is_one 2 (eqb 2 e) refl
explains (suc (suc zero)) e (suc (suc m)) l g = absurd (omega arith)
explains (suc (suc (suc zero))) e zero l g = refl
explains (suc (suc (suc zero))) e (suc zero) l g = refl
explains (suc (suc (suc zero))) e (suc (suc m)) l g = absurd (omega arith)
explains (suc (suc (suc (suc i)))) e m l g = absurd (omega arith)

-- the lists that go before: of none of them are these the crossings
before : (others : List ℕ) → is_cut_list (plan_of row_b) others ≡ true → Explains (plan_of row_b) seen_b others →
    goes_before others (1 ∷ 0 ∷ []) ≡ false
unfolding Explains has_crossing is_captured event_row events numbers seek is_cut cuts_link other_way foremost table_of moves slot positions
    numbers_at links_at places_at after_places messages_at after_messages plan_of holds goes_before earlier
before [] g h = absurd (true≢false (h 1 0 1 (lit< tt) (lit< tt)))
before (a ∷ []) g h = absurd (omega (arith, even (plan_of row_b) (a ∷ []) g))
before (zero ∷ zero ∷ []) g h = absurd (true≢false (h 0 1 0 (lit< tt) (lit< tt)))
before (zero ∷ suc zero ∷ []) g h = absurd (true≢false (h 1 0 1 (lit< tt) (lit< tt)))
before (zero ∷ suc (suc zero) ∷ []) g h = absurd (true≢false (h 1 0 1 (lit< tt) (lit< tt)))
before (zero ∷ suc (suc (suc b)) ∷ []) g h = absurd (omega (arith, link-below (plan_of row_b) (0 ∷ suc (suc (suc b)) ∷ []) g 0 (lit< tt)))
before (suc zero ∷ zero ∷ []) g h = refl
before (suc zero ∷ suc b ∷ []) g h = rw (le-ltb (suc b) 0 (omega arith), ne_eqb (suc b) 0 (λ z. omega arith))
before (suc (suc a) ∷ b ∷ []) g h = rw (le-ltb (suc (suc a)) 1 (omega arith), ne_eqb (suc (suc a)) 1 (λ z. omega arith))
before (a ∷ b ∷ c ∷ cs) g h = longer (a ∷ b ∷ c ∷ cs) (1 ∷ 0 ∷ []) (omega arith)

pub first_of_b : FirstExplaining (plan_of row_b) 2 seen_b (1 ∷ 0 ∷ [])
unfolding seek is_cut cuts_link other_way plan_of links_at
first_of_b = record { good = refl; few = lit≤ tt; answers = explains; first = before }
