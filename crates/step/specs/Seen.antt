-- One slot against what was seen of it: a number for each message, the link that it crosses in the slot plus one, or 0. Of a message past the
-- end nothing was seen, and whatever it does is as seen.
use Rattle.std.specs.Prelude.{ℕ, ◌<◌, ◌≡◌, Bool, not, ◌||◌, List, [], Result, MatchResult, length, get_or, leb, eqb}
use Rattle.scope.specs.Limits.{most_messages}
use Rattle.scope.specs.Lowest.{lowest}
use Rattle.scope.specs.Slot as S
use Rattle.step.specs.declared.Position.{Position}
use Rattle.step.specs.declared.Standing.{Standing}
use Rattle.step.specs.declared.Differing.{Differing}
use Rattle.step.specs.Events.{event_of, crossing_of}
use Rattle.step.specs.Stand.{MovesAndTells}
use Rattle.step.specs.Slot.{all_in, GoesOn}

-- an event of message m is as seen
abbrev pub as_seen : List ℕ → ℕ → S.Event → Bool
as_seen seen m v = leb (length seen) m || eqb (crossing_of v) (get_or seen m 0)

-- message m's event of those in a slot, kind 0 past the last
abbrev pub event_at : List S.Moved → ℕ → S.Event
event_at ms m = (get_or ms m (S.moved (S.on_first []) 0 0)).event

-- the first of n messages that does something else than was seen, or n
abbrev pub first_other : List ℕ → ℕ → List S.Moved → ℕ
first_other seen n ms = lowest (λ m. not (as_seen seen m (event_at ms m))) n

-- it is the first of n messages that does something else than was seen, and what that is
pub record Differs (seen : List ℕ) (n : ℕ) (ms : List S.Moved) (v : Differing) : Type 0 where
  pub there : first_other seen n ms < n
  pub message : v.message ≡ first_other seen n ms
  pub event : event_of v.event ≡ event_at ms (first_other seen n ms)

-- all n messages do what was seen of them, and have moved and been told of
pub record AllAsSeen (row : List ℕ) (n : ℕ) (ms : List S.Moved) (seen : List ℕ) (ps r : List Position) (buffer out : List ℕ) : Type 0 where
  pub alike : first_other seen n ms ≡ n
  pub long : length r ≡ most_messages
  pub done : MovesAndTells row n ms ps r buffer out

-- n messages have gone up to the first that does something else; or all have gone
abbrev pub GoesAsSeen : List ℕ → ℕ → List S.Moved → List ℕ → List Position → List ℕ → List ℕ → Result (List Position) Differing → Type 0
GoesAsSeen row n ms seen ps buffer out r =
    MatchResult r (λ qs. AllAsSeen row n ms seen ps qs buffer out) (λ v. Differs seen n ms v)

-- all n messages do what was seen of them, and stand one time on
pub record StandsAsSeen (row table down seen : List ℕ) (n i : ℕ) (s r : Standing) : Type 0 where
  pub alike : first_other seen n (all_in row table down i n s.positions) ≡ n
  pub goes : GoesOn row table down n i s r

-- the slot that n messages go through from where they stand: up to the first that does something else; or all go through it
abbrev pub Watches : List ℕ → List ℕ → List ℕ → List ℕ → ℕ → ℕ → Standing → Result Standing Differing → Type 0
Watches row table down seen n i s r =
    MatchResult r (λ next. StandsAsSeen row table down seen n i s next)
    (λ v. Differs seen n (all_in row table down i n s.positions) v)
