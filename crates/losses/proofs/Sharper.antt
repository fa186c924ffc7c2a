-- Each of them is computed.
use mathlib.Core.Path.{refl}
use Rattle.scope.specs.Lowest.{seek}
use Rattle.scope.specs.Plan.{numbers_at, links_at, places_at, after_places, messages_at, plan_of}
use Rattle.scope.specs.Good.{holds}
use Rattle.scope.specs.Cables.{other_way}
use Rattle.scope.specs.Cuts.{cuts_link, is_cut}
use Rattle.scope.specs.Cycle.{foremost, table_of, moves, slot, positions}
use Rattle.scope.specs.Spare.{entries_of, entries, has_second_through, lower_through, delay}
use Rattle.scope.specs.Good.{has}
use Rattle.sets.specs.Sums.{sum_of}
use Rattle.losses.specs.Strips.{fragile_of, fragile_paths, cuts_one_of, through_robust}
use Rattle.losses.specs.Sharper.{Sharper}

pub sharper : Sharper
unfolding seek numbers_at links_at places_at after_places messages_at plan_of has holds other_way cuts_link is_cut foremost table_of moves slot
    positions entries_of entries has_second_through lower_through delay sum_of fragile_of fragile_paths cuts_one_of through_robust
sharper = record { touched = refl; not_stripped = refl; touched_by_both = refl; stripped_by_both = refl; lost_by_both = refl }
