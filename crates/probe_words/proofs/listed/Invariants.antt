use Rattle.std.proofs.Common.{ℕ}
use Rattle.probe_words.specs.Words.{ReadsThem}
use Rattle.probe_words.proofs.Items.{Listing}
use Rattle.probe_words.proofs.listed.Given as goal

abbrev pub invariant-loop-n : goal.invariant-loop-n
invariant-loop-n g l =
    (value : ℕ → _) (next : ℕ → ℕ) → ReadsThem (goal.F-post g l.read) value next →
    Listing value next l.at l.initial.into l.into l.i l.n
