-- What may be asked first about the board of a row, and what the search is asked for then.
use Rattle.std.proofs.Common.{◌≡◌, ℕ, ◌+◌, ◌-◌, ◌≤◌, None, List, arith}
use Rattle.scope.specs.Limits.{most_cuts}
use Rattle.board.specs.declared.Board.{Board}
use Rattle.board.specs.Lent.{Lent}
use Rattle.search.specs.Hunt.{MayHunt, Hunts}
use Rattle.verdicts.specs.Asking.{MayAskOn}

-- the list of k pairs that is asked for first
pub may_ask_on : (row : List ℕ) (board : Board) → Lent row board → (l k : ℕ) → l ≤ board.sizes.messages → k ≤ most_cuts →
    MayAskOn row board l 0 k
may_ask_on row board is l k least few = record { lent = is; least = least; few = few; within = omega arith; before = λ i z. absurd (omega arith) }

module _ (row : List ℕ) (board : Board) (l low k : ℕ) (m : MayAskOn row board l low k) where
  -- every list leaves 0 arrivals
  pub asks_nought : l ≡ 0 → Hunts row l k None
  asks_nought z i le x long good fails = omega arith

  pub asks : (need : ℕ) → need ≡ board.sizes.messages + 1 - l → MayHunt row board (record { least = l; need = need }) low k
  asks need e =
      record {
        ready =
            record {
              laid = m.lent.laid;
              small = omega (arith, e, m.lent.laid.many);
              bounds = m.lent.bounds l need e;
            };
        few = m.few;
        within = m.within;
        before = m.before;
      }
