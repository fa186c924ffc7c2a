-- One law for each way out of a function of this crate, from what its callees ensure.
use Prim.Native.Nat.{ℕ, ◌≤◌, ◌<◌}
use mathlib.Core.Path.{◌≡◌, refl, sym, ◌∙◌, ap}
use mathlib.Core.List.{List, [], ◌++◌}
use native.Mathlib.Omega.{arith}
use lib.ListN.{length, drop}
use borrow.Author.Tests.{ne_eqb}
use Rattle.scope.specs.Outcome.{Answer}
use Rattle.std.specs.Prelude.{Ok, Err}
use Rattle.scope.specs.declared.Refusal.{Refusal}
use Rattle.scope.specs.Outcome.{Outcome, outcome_of, number, gives, refused, refuse, and_then, room}
use Rattle.scope.specs.File.{walk_file, row_of, file_of}
use Rattle.scope.specs.Row.{walk_row}
use Rattle.scope.specs.Plan.{plan_of}
use Rattle.scope.specs.Rules.{rules}
use Rattle.scope.specs.SecondPath.{shown}
use Rattle.scope.specs.Questions.{judge, read_file, write_file, second_path}
use Rattle.rows.specs.View.{PartAt, second_part, second_index}
use Rattle.scope.proofs.Rules.{rules_give}
use Rattle.forms.proofs.Theorems.{file-row, row_count}
use Rattle.plan.specs.Answers.{Answers, Accepts, GoodRow, shown_index}
use Rattle.plan.proofs.Numbers.{judge-numbered}
use Rattle.plan.proofs.Outcomes.{then-refused, then-gives, then-back, room-there, room-short, refuses, after-gives}

-- the outcome of an answer that is known
pub gave : {a : Answer} {o : Outcome} (n : ℕ) → a ≡ Ok n → outcome_of a ≡ o → o ≡ gives n
gave n e h = sym h ∙ ap outcome_of e

pub refused_as : {a : Answer} {o : Outcome} (r : Refusal) → a ≡ Err r → outcome_of a ≡ o → o ≡ refused r
refused_as r e h = sym h ∙ ap outcome_of e

-- a row whose walk gives something has the right form
pub form_of : (row : List ℕ) (n : ℕ) → walk_row row ≡ gives n → walk_row row ≡ gives (length row)
form_of row n e = e ∙ ap gives (row_count row n e)

-- judging a row
pub judge-good : (row : List ℕ) (n z : ℕ) → walk_row row ≡ gives n → rules (plan_of row) ≡ gives z → gives n ≡ judge row
unfolding judge
judge-good row n z e h = sym (rw (e, h))

pub judge-bad : (row : List ℕ) (n : ℕ) (r : Refusal) → walk_row row ≡ gives n → rules (plan_of row) ≡ refused r → refused r ≡ judge row
unfolding judge
judge-bad row n r e h = sym (rw (e, h))

pub judge-form : (row : List ℕ) (r : Refusal) → walk_row row ≡ refused r → refused r ≡ judge row
unfolding judge
judge-form row r e = sym (rw e)

-- what a judged row is
pub good-row : (row : List ℕ) (n : ℕ) → judge row ≡ gives n → GoodRow row
unfolding judge
good-row row n e =
    let w = then-back (walk_row row) (λ m. and_then (rules (plan_of row)) (λ _. gives m)) n e in
    let r = then-back (rules (plan_of row)) (λ _. gives w.0) n w.2 in
    record { form = form_of row w.0 w.1; keeps = rules_give (plan_of row) r.0 r.1 }

pub known_good : (row : List ℕ) → number (judge row) ≡ 0 → GoodRow row
known_good row e = by (judge row) refl
  where
    by : (o : Outcome) → judge row ≡ o → GoodRow row
    by (gives n) g = good-row row n g
    by (refused r) g = absurd (judge-numbered row r g (sym (ap number g) ∙ e))

-- accepting a row of the right form
pub accepted : (row entry exit : List ℕ) (z : ℕ) → rules (plan_of row) ≡ gives z → length row ≤ length entry →
    exit ≡ row ++ drop (length row) entry →
    Accepts row entry exit (Ok (length row))
accepted row entry exit z h fits written =
    let o : and_then (rules (plan_of row)) (λ _. room (length row) (length entry)) ≡ gives (length row) =
    then-gives (rules (plan_of row)) (λ _. room (length row) (length entry)) z h ∙ room-there (length row) (length entry) fits in
    record { answer = sym o; buffer = written ∙ after-gives _ (length row) row entry o }

pub no_room : (row entry : List ℕ) (z : ℕ) (a : Answer) → rules (plan_of row) ≡ gives z → length entry < length row →
    outcome_of a ≡ refuse 13 (length row) → Accepts row entry entry a
no_room row entry z a h short is =
    let o : and_then (rules (plan_of row)) (λ _. room (length row) (length entry)) ≡ refuse 13 (length row) =
    then-gives (rules (plan_of row)) (λ _. room (length row) (length entry)) z h ∙ room-short (length row) (length entry) short in
    refuses _ row entry _ a o is

pub broken : (row entry : List ℕ) (r : Refusal) → rules (plan_of row) ≡ refused r → Accepts row entry entry (Err r)
broken row entry r h =
    let o : and_then (rules (plan_of row)) (λ _. room (length row) (length entry)) ≡ refused r =
    then-refused (rules (plan_of row)) (λ _. room (length row) (length entry)) r h in
    refuses _ row entry r (Err r) o refl

-- reading a file
pub read_on : (file all entry exit : List ℕ) (a : Answer) (end : ℕ) → walk_file file ≡ gives end → all ≡ row_of file → Accepts all entry exit a →
    Answers (read_file file (length entry)) (row_of file) entry exit a
unfolding read_file
read_on file all entry exit a end e row h = rw (e, ← row) h

pub read-form : (file entry : List ℕ) (r : Refusal) → walk_file file ≡ refused r →
    Answers (read_file file (length entry)) (row_of file) entry entry (Err r)
unfolding read_file
read-form file entry r e =
    let o : read_file file (length entry) ≡ refused r = rw e in
    refuses _ (row_of file) entry r (Err r) o refl

pub all-form : (file all : List ℕ) (end : ℕ) → walk_file file ≡ gives end → all ≡ row_of file → walk_row all ≡ gives (length all)
all-form file all end e row = rw row (file-row file end e)

-- writing a row
pub written : (row entry exit : List ℕ) (n c : ℕ) → judge row ≡ gives n → c ≡ length (file_of row) → c ≤ length entry →
    exit ≡ file_of row ++ drop c entry → Answers (write_file row (length entry)) (file_of row) entry exit (Ok c)
unfolding write_file
written row entry exit n c e is fits wrote =
    let o : write_file row (length entry) ≡ gives c = rw (e, ← is) (room-there c (length entry) fits) in
    record { answer = sym o; buffer = wrote ∙ ap (λ k. file_of row ++ drop k entry) is ∙ after-gives _ c (file_of row) entry o }

pub write_no_room : (row entry : List ℕ) (n c : ℕ) (a : Answer) → judge row ≡ gives n → c ≡ length (file_of row) → length entry < c →
    outcome_of a ≡ refuse 13 c → Answers (write_file row (length entry)) (file_of row) entry entry a
unfolding write_file
write_no_room row entry n c a e is short answer =
    let o : write_file row (length entry) ≡ refuse 13 c = rw (e, ← is) (room-short c (length entry) short) in
    refuses _ (file_of row) entry _ a o answer

pub write_bad : (row entry : List ℕ) (r : Refusal) → judge row ≡ refused r →
    Answers (write_file row (length entry)) (file_of row) entry entry (Err r)
unfolding write_file
write_bad row entry r e =
    let o : write_file row (length entry) ≡ refused r = rw e in
    refuses _ (file_of row) entry r (Err r) o refl

-- showing a second path
pub shown-part : (row : List ℕ) (m p n : ℕ) → judge row ≡ gives n → second_part row m p ≡ second_path row m p
unfolding second_path shown
shown-part row m p n e = rw e

pub shown-none : (row : List ℕ) (m p : ℕ) (r : Refusal) → judge row ≡ refused r → [] ≡ second_path row m p
unfolding second_path shown
shown-none row m p r e = sym (rw (e, ne_eqb r.no 0 (judge-numbered row r e)))

-- and where it begins
pub index-shown : (row : List ℕ) (m p n : ℕ) → judge row ≡ gives n → second_index row m p ≡ shown_index row m p
index-shown row m p n e = rw e

pub index_hidden : (row : List ℕ) (m p : ℕ) (r : Refusal) → judge row ≡ refused r → 0 ≡ shown_index row m p
index_hidden row m p r e = sym (rw (e, ne_eqb r.no 0 (judge-numbered row r e)))

pub part-shown : (row : List ℕ) (m p n : ℕ) (ptr : ℕ × ℕ) {now : List ℕ} {part : ℕ × ℕ} → judge row ≡ gives n →
    PartAt (second_part row m p) (second_index row m p) ptr now part → PartAt (second_path row m p) (shown_index row m p) ptr now part
part-shown row m p n ptr e q =
    record { shows = q.shows ∙ shown-part row m p n e; same = q.same; begins = omega (arith, q.begins, index-shown row m p n e) }

pub part_hidden : (row : List ℕ) (m p : ℕ) (r : Refusal) (ptr : ℕ × ℕ) → judge row ≡ refused r →
    PartAt (second_path row m p) (shown_index row m p) ptr [] ptr
part_hidden row m p r ptr e =
    record { shows = shown-none row m p r e; same = refl; begins = omega (arith, index_hidden row m p r e) }
