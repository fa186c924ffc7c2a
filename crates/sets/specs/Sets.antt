-- Sets of messages or of vertices, each as one number: message m is in a set if its binary digit m is 1.
use Rattle.std.specs.Prelude.{ℕ, ◌+◌, ◌/◌, ◌%◌, ◌^◌, ◌<◌, ◌≡◌, Bool, ◌&&◌, ◌||◌, eqb}
use Rattle.scope.specs.Limits.{most_messages}
use Rattle.sets.specs.Sums.{sum_of, one_if}

-- message m is in the set
unfoldable pub has : ℕ → ℕ → Bool
has set m = eqb (set / 2 ^ m % 2) 1

-- how many messages are
abbrev pub size : ℕ → ℕ
size set = sum_of (λ m. one_if (has set m)) most_messages

-- the set of message m alone, or of nobody
abbrev pub IsOneIf : Bool → ℕ → ℕ → Type 0
IsOneIf there m set = (n : ℕ) → has set n ≡ (there && eqb n m)

-- the set of the message that an entry of a table names, its number plus one; of nobody, if it names none
abbrev pub IsNamed : ℕ → ℕ → Type 0
IsNamed w set = (n : ℕ) → n < most_messages → has set n ≡ eqb w (n + 1)

-- the set of those in either of two sets, and of those in both
abbrev pub IsEither : ℕ → ℕ → ℕ → Type 0
IsEither a b set = (n : ℕ) → has set n ≡ (has a n || has b n)

abbrev pub IsBoth : ℕ → ℕ → ℕ → Type 0
IsBoth a b set = (n : ℕ) → has set n ≡ (has a n && has b n)

-- a set with one vertex more
abbrev pub IsWith : ℕ → ℕ → ℕ → Type 0
IsWith a v set = (n : ℕ) → has set n ≡ (eqb n v || has a n)
