-- `picks::advance` meets its contract: one slot on, under the list picked.
use native.Mathlib.Omega.{arith}
use mathlib.Core.Path.{ap}
use Rattle.step.specs.declared.Time.{Time}
use Rattle.picks.proofs.Playing.{may-step, stepped}
use Rattle.picks.proofs.advance.Goals as goal

pub begins-i-requires : goal.begins-i-requires
begins-i-requires c = omega (arith, c.requires.early, ap (λ (t : Time). t.0) c.time-time.ensures)

pub after-requires : goal.after-requires
after-requires c =
    may-step _ _ _ _ _ c.requires _ _ c.time-time.ensures
    c.begins-i.ensures

pub returns : goal.returns
returns c =
    stepped _ _ _ _ _ c.requires _ _ c.time-time.ensures
    c.begins-i.ensures _ c.after.ensures
