-- `rows::second_path_part` meets its contract: the part lies in a row without refusals 1 to 4. Assumes nothing.
use native.Mathlib.Omega.{arith}
use Rattle.rows.proofs.Walked.{walked}
use Rattle.rows.proofs.Second.{span_within}
use Rattle.rows.proofs.second_path_part.Goals as goal

pub slice_bounds-result-end : goal.slice_bounds-result-end
slice_bounds-result-end c = let a = c.args in
    omega (arith, span_within a.row.now a.m a.p (walked a.row.now c.requires) c.in-Some.span c.in-Some.ensures)
