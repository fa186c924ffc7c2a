-- Where the probe stands in a buffer of n bytes.
use Rattle.std.specs.Prelude.{ℕ, ◌≤◌}
use Rattle.std.specs.declared.ops.ControlFlow.{ControlFlow}
use Rattle.std.specs.declared.ops.ControlFlow.TheVariants.{Continue, Break}
use Rattle.probe.specs.declared.Place.{Place}

pub record Stands (n : ℕ) (p : Place) : Type 0 where
  pub from : p.from ≤ p.seen
  pub seen : p.seen ≤ p.to
  pub to : p.to ≤ n

-- and where it goes on from, or where the input has ended
abbrev pub StandsStill : ℕ → ControlFlow Place Place → Type 0
StandsStill n = elim [ Continue p ↦ Stands n p | Break p ↦ Stands n p ]
