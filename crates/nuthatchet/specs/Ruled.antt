-- A verdict as five numbers.
use Rattle.std.specs.Prelude.{ℕ, suc, ◌<◌, ◌≡◌, List}
use Rattle.scope.specs.Outcome.{Outcome, gives, refused}
use Rattle.verdicts.specs.Verdict.{Ruling}
use Rattle.std.specs.Prelude.{Some, None, Ok, Err}
use Rattle.verdicts.specs.Verdict.{Answered, IsResistant, IsFailing}
use Rattle.nuthatchet.specs.Told.{Told}

-- the number and values of each case of a ruling: how many pairs the first failing list has, 0 where the plan is resistant
abbrev pub ruled : Ruling → Outcome
ruled (Ok None) = gives 0
ruled (Ok (Some n)) = gives n
ruled (Err r) = refused r

-- the numbers tell a ruling that is the verdict's answer; a failing list has a pair, so that 0 pairs say resistant and nothing else
pub record TellsRuling (row : List ℕ) (k l : ℕ) (entry exit : List ℕ) (n p q s v : ℕ) : Type 0 where
  pub ruling : Ruling
  pub answered : Answered row k l entry exit ruling
  pub told : Told (ruled ruling) n p q s v
  pub some : (i : ℕ) → ruling ≡ Ok (Some i) → 0 < i

-- so, with the number 0, no pairs say that the plan is resistant, and some pairs how many the first failing list has
pub record PairsSay : Type 0 where
  pub resistant : (row : List ℕ) (k l : ℕ) (entry exit : List ℕ) (p q s : ℕ) → TellsRuling row k l entry exit 0 p q s 0 →
      IsResistant row k l entry exit
  pub failing : (row : List ℕ) (k l : ℕ) (entry exit : List ℕ) (p q s v : ℕ) → TellsRuling row k l entry exit 0 p q s (suc v) →
      IsFailing row k l entry exit (suc v)
