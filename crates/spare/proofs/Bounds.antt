-- D and the slack lie between document 01's bounds: a good plan has t at most 64, at most t entries on a link, at most 31 messages lower than
-- another, and at most 16 links on a second path.
use Prim.Native.Nat.{ℕ, zero, suc, ◌+◌, ◌-◌, ◌*◌, ◌≤◌, ◌<◌}
use native.Mathlib.Omega.{arith}
use mathlib.Core.Path.{◌≡◌, refl, sym, ◌∙◌, ap, subst}
use mathlib.Core.Bool.{Bool, true, false, cond, ◌&&◌}
use mathlib.Core.List.{List, [], ◌∷◌}
use lib.ListN.{length, get_or}
use lib.IntN.{ℤ, pos, negsuc, sub_ℕ}
use lib.Dec.{ltb, le→leb}
use borrow.Author.Tests.{ltb-true, ltb-false}
use Rattle.scope.proofs.Outcomes.{not-both}
use Rattle.scope.specs.Outcome.{Outcome, gives, refuse}
use Rattle.scope.specs.Plan.{Place, second_start, second_count, place_count, plan_of, path_of, place_of}
use Rattle.scope.specs.SecondPath.{message_index, place_index}
use Rattle.scope.specs.Good.{slots_rise}
use Rattle.scope.specs.Cycle.{by_number, order_of}
use Rattle.scope.specs.Spare.{has_second_through, entries, lower_through, delay, no_second}
use Rattle.scope.specs.Questions.{judge, may_spare, slack}
use Rattle.laws.proofs.Good.{good_rises}
use Rattle.laws.proofs.Rising.{rises}
use Rattle.rows.specs.Lies.{PlanLies}
use Rattle.rows.proofs.Walked.{walked}
use Rattle.rows.proofs.Parts.{numbers-length, places_length, path_at, timeout-is}
use Rattle.plan.specs.Answers.{GoodRow}
use Rattle.plan.proofs.Outcomes.{then-back}
use Rattle.plan.proofs.Ways.{good-row}
use Rattle.std.specs.Prelude.{Ok}
use Rattle.spare.specs.Slack.{Slacks, unless_refused, Between, SlackLies, AnswerLies}
use Rattle.spare.proofs.Held.{entries-few}
use Rattle.spare.proofs.There.{There, there, second_is}

-- b(m, e) is at most the number of messages from j on that are lower than m
pub lower_few : (m e j : ℕ) (paths : List (List Place)) → lower_through by_number m e j paths ≤ m - j
unfolding lower_through
lower_few m e j [] = omega arith
lower_few m e j (path ∷ paths) = by (ltb j m) refl (has_second_through e path) (lower_few m e (j + 1) paths)
  where
    by : (a : Bool) → ltb j m ≡ a → (b : Bool) → lower_through by_number m e (j + 1) paths ≤ m - (j + 1) →
        cond (a && b) 1 0 + lower_through by_number m e (j + 1) paths ≤ m - j
    by true h true rest = omega (arith, ltb-true j m h)
    by true h false rest = omega arith
    by false h b rest = omega arith

-- D has 1 for each link, and at most 1 + 64 + 31
delay-least : (paths : List (List Place)) (m : ℕ) (es : List ℕ) → length es ≤ delay by_number paths m es
unfolding delay
delay-least paths m [] = omega arith
delay-least paths m (e ∷ es) = omega (arith, delay-least paths m es)

delay-most : (paths : List (List Place)) (m : ℕ) → m ≤ 31 → ((e : ℕ) → entries e paths ≤ 64) → (es : List ℕ) →
    delay by_number paths m es ≤ 96 * length es
unfolding delay
delay-most paths m h few [] = omega arith
delay-most paths m h few (e ∷ es) = omega (arith, few e, lower_few m e 0 paths, delay-most paths m h few es)

-- a place of a first path has its slot below t
slot-below : (t least : ℕ) (d : Place) (ps : List Place) (p : ℕ) → slots_rise t least ps ≡ true → p < length ps → (get_or ps p d).slot < t
slot-below t least d [] p h l = absurd (omega arith)
slot-below t least d (q ∷ ps) zero h l = (rises t least q ps h).high
slot-below t least d (q ∷ ps) (suc p) h l = slot-below t (q.slot + 1) d ps p (rises t least q ps h).rest (omega arith)

-- t, the slot and D of a second path
pub record Small (row : List ℕ) (m p : ℕ) : Type 0 where
  pub timeout : (plan_of row).timeout ≤ 64
  pub slot : (place_of (plan_of row) m p).slot < (plan_of row).timeout
  pub some : 1 ≤ delay (order_of (plan_of row)) (plan_of row).messages m (place_of (plan_of row) m p).second
  pub most : delay (order_of (plan_of row)) (plan_of row).messages m (place_of (plan_of row) m p).second ≤ 1536

pub small : (row : List ℕ) (m p : ℕ) → GoodRow row → There row m p → Small row m p
small row m p g t =
    let lies : PlanLies row = walked row g.form in
    let i = place_index row m p in
    let es = (place_of (plan_of row) m p).second in
    let paths = (plan_of row).messages in
    let time : (plan_of row).timeout ≤ 64 = rw (timeout-is row) lies.timeout in
    let few : (e : ℕ) → entries e paths ≤ 64 = λ e. omega (arith, entries-few (plan_of row) g.keeps e) in
    let size : length es ≡ second_count row i = ap length (second_is row m p t) ∙ numbers-length row (second_start i) (second_count row i) in
    let links : second_count row i ≤ 16 = (((lies.message m t.message).place p t.place).second t.second).few in
    let lower : m ≤ 31 = omega (arith, lies.messages, t.message) in
    let places : length (path_of (plan_of row) m) ≡ place_count row (message_index row m) =
    ap length (path_at row m t.message) ∙ places_length row (message_index row m + 1) (place_count row (message_index row m)) in
    record {
      timeout = time;
      slot = slot-below (plan_of row).timeout 0 (record { link = 0; slot = 0; second = [] }) (path_of (plan_of row) m) p
          (good_rises (plan_of row) g.keeps m) (omega (arith, places, t.place));
      some = omega (arith, delay-least paths m es, size);
      most = omega (arith, delay-most paths m lower few es, size, links);
    }

-- the difference of two such numbers
between : (t s d : ℕ) → t ≤ 64 → s < t → 1 ≤ d → d ≤ 1536 → Between (sub_ℕ t (s + d))
between t s d time slot some most = by (ltb t (s + d)) refl
  where
    by : (b : Bool) → ltb t (s + d) ≡ b → Between (cond b (negsuc (s + d - suc t)) (pos (t - (s + d))))
    by true h = record { low = record { le = le→leb (s + d - suc t) _ (omega arith) }; high = record { le = tt } }
    by false h = record { low = record { le = tt }; high = record { le = le→leb (t - (s + d)) _ (omega (arith, ltb-false t (s + d) h)) } }

-- what a slack that is not refused says of its row
pub record Asked (row : List ℕ) (m p : ℕ) : Type 0 where
  pub good : GoodRow row
  pub second : There row m p

pub asked : (row : List ℕ) (m p : ℕ) → may_spare row m p ≡ gives 0 → Asked row m p
unfolding may_spare
asked row m p h =
    let es = (place_of (plan_of row) m p).second in
    let j = then-back (judge row) (λ _. cond (no_second es) (refuse 11 0) (gives 0)) 0 h in
    record { good = good-row row j.0 j.1; second = there row m p (by (no_second es) refl j.2) }
  where
    by : (b : Bool) → no_second (place_of (plan_of row) m p).second ≡ b → cond b (refuse 11 0) (gives 0) ≡ gives 0 →
        no_second (place_of (plan_of row) m p).second ≡ false
    by true e f = not-both f
    by false e f = e

-- a slack that is answered is the slack asked for
pub record Answered (row : List ℕ) (m p : ℕ) (z : ℤ) : Type 0 where
  pub may : may_spare row m p ≡ gives 0
  pub is : slack row m p ≡ z

pub answered : (row : List ℕ) (m p : ℕ) (z : ℤ) → Slacks row m p (Ok z) → Answered row m p z
answered row m p z r =
    let may : may_spare row m p ≡ gives 0 = sym r.answer in
    record { may = may; is = sym (r.value ∙ ap (λ (o : Outcome). unless_refused o (slack row m p)) may) }

pub slack-lies : SlackLies
unfolding slack
slack-lies row m p h =
    let a = asked row m p h in
    let s = small row m p a.good a.second in
    between (plan_of row).timeout (place_of (plan_of row) m p).slot
    (delay (order_of (plan_of row)) (plan_of row).messages m (place_of (plan_of row) m p).second)
    s.timeout s.slot s.some s.most

pub answer-lies : AnswerLies
answer-lies row m p z r =
    let a = answered row m p z r in
    subst Between a.is (slack-lies row m p a.may)
