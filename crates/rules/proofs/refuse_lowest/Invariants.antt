-- `rules::refuse_lowest` meets its contract. The invariant: of a test that says the same, nothing passed passes it. Assumes nothing.
use Rattle.std.proofs.Common.{ℕ, ◌<◌, ◌≡◌, Bool}
use Rattle.scope.proofs.Seek.{Seeking}
use Rattle.rules.proofs.refuse_lowest.Given as goal

abbrev pub invariant-loop-m : goal.invariant-loop-m
invariant-loop-m g l =
    (test : ℕ → Bool) → ((m : ℕ) (b : Bool) → m < l.count → goal.F-post g l.breaks m b → b ≡ test m) → Seeking test l.count l.m
