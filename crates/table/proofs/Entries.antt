-- Who has a link in a slot, read off the table: one law for each way.
use Prim.Native.Nat.{ℕ, ◌≤◌, ◌<◌}
use mathlib.Core.Path.{◌≡◌, sym}
use mathlib.Core.Bool.{and-false}
use mathlib.Core.List.{List}
use lib.ListN.{get_or}
use lib.Dec.{ltb}
use borrow.Author.Tests.{lt-ltb, le-ltb}
use Rattle.scope.specs.Limits.{most_slots, most_links}
use Rattle.table.specs.Table.{index_of, entry_at}

module _ (table : List ℕ) (i e : ℕ) where
  pub entry_in : i < most_slots → e < most_links → entry_at table i e ≡ get_or table (index_of i e) 0
  entry_in h g = rw (lt-ltb i most_slots h, lt-ltb e most_links g)

  pub no_slot : most_slots ≤ i → entry_at table i e ≡ 0
  no_slot h = rw (le-ltb i most_slots h)

  pub no_link_lem : most_links ≤ e → entry_at table i e ≡ 0
  no_link_lem h = rw (le-ltb e most_links h, and-false (ltb i most_slots))

  -- the code's ways out: a byte of the table, or its end
  module _ (h : i < most_slots) (g : e < most_links) (k : ℕ) (p : k ≡ index_of i e) where
    pub entry_is : get_or table k 0 ≡ entry_at table i e
    entry_is = rw p (sym (entry_in h g))
