-- `Position::past_place` meets its contract: what is left ends where it ended. Assumes nothing.
use native.Mathlib.Omega.{arith}
use Rattle.step.proofs.Steps as law
use Rattle.step.proofs.Position.past_place.Goals as goal

pub overflow_cast-result : goal.overflow_cast-result
overflow_cast-result c =
    let w = law.past_fits c.args.row.now c.args.self c.requires.1 c.requires.0 c.place_at-here.result c.place_at-here.ensures in
    omega (arith, w, c.requires.2)

pub returns : goal.returns
returns c =
    record {
      is = law.past_is c.args.row.now c.args.self c.requires.1 c.requires.0 c.place_at-here.result c.place_at-here.ensures;
      within = law.past-within c.args.row.now c.args.self c.requires.1 c.requires.0 c.place_at-here.result c.place_at-here.ensures;
    }
