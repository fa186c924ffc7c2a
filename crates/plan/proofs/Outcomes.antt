-- How outcomes are chained, one law for each way that an answer can come about, and what a good row is.
use Prim.Native.Nat.{ℕ, ◌≤◌, ◌<◌}
use mathlib.Core.Path.{◌≡◌, refl, sym, ◌∙◌}
use mathlib.Core.List.{List, ◌++◌}
use lib.ListN.{length, drop}
use borrow.Author.Tests.{le-leb, lt-leb}
use Rattle.scope.specs.Outcome.{Answer}
use Rattle.scope.specs.declared.Refusal.{Refusal}
use Rattle.scope.proofs.Outcomes.{not-both, same_answer}
use Rattle.scope.specs.Outcome.{Outcome, outcome_of, gives, refused, refuse, and_then, room}
use Rattle.scope.specs.Questions.{after}
use Rattle.plan.specs.Answers.{Answers}

-- two outcomes that a statement allows are equal, the answer and the buffer
pub only_one : (o : Outcome) (written entry exit exit' : List ℕ) (r r' : Answer) →
    Answers o written entry exit r → Answers o written entry exit' r' → (r ≡ r') × (exit ≡ exit')
only_one o written entry exit exit' r r' a b =
    (same_answer r r' (a.answer ∙ sym b.answer), a.buffer ∙ sym b.buffer)

-- what is chained
pub then-refused : (o : Outcome) (next : ℕ → Outcome) (r : Refusal) → o ≡ refused r → and_then o next ≡ refused r
then-refused o next r e = rw e

pub then-gives : (o : Outcome) (next : ℕ → Outcome) (n : ℕ) → o ≡ gives n → and_then o next ≡ next n
then-gives o next n e = rw e

-- and taken apart: what gives something in the end gave something before
pub then-back : (o : Outcome) (next : ℕ → Outcome) (n : ℕ) → and_then o next ≡ gives n → (m : ℕ) × (o ≡ gives m) × (next m ≡ gives n)
then-back (gives m) next n e = (m, refl, e)
then-back (refused r) next n e = not-both e

-- room enough, and too little
pub room-there : (needed lent : ℕ) → needed ≤ lent → room needed lent ≡ gives needed
room-there needed lent h = rw (le-leb needed lent h)

pub room-short : (needed lent : ℕ) → lent < needed → room needed lent ≡ refuse 13 needed
room-short needed lent h = rw (lt-leb needed lent h)

-- the buffer after a refusal, and after something was written
pub after-refused : (o : Outcome) (r : Refusal) (written buffer : List ℕ) → o ≡ refused r → buffer ≡ after o written buffer
unfolding after
after-refused o r written buffer e = rw e

pub after-gives : (o : Outcome) (n : ℕ) (written buffer : List ℕ) → o ≡ gives n →
    written ++ drop (length written) buffer ≡ after o written buffer
unfolding after
after-gives o n written buffer e = rw e

-- so an answer that refuses as the outcome does, beside a buffer that is left as it was
pub refuses : (o : Outcome) (written entry : List ℕ) (r : Refusal) (a : Answer) → o ≡ refused r → outcome_of a ≡ refused r →
    Answers o written entry entry a
refuses o written entry r a e is = record { answer = is ∙ sym e; buffer = after-refused o r written entry e }
