-- One triple more, in the code's own terms.
use Rattle.std.specs.Prelude.{ℕ, ◌+◌, ◌≡◌, Bool, true, false, cond, Option, Some, None, ◌&&◌, ◌||◌, List, length, set, ltb}
use Rattle.scope.specs.Plan.{Plan}
use Rattle.scope.specs.Capture.{triple_before}
use Rattle.capture.specs.declared.Triple.{Triple}
use Rattle.capture.specs.declared.Kept.{Kept}
use Rattle.capture.specs.Kept.{crossed_index, crossed_at}

-- the plan has this slot, link and message
abbrev pub in_range : Plan → ℕ → ℕ → ℕ → Bool
in_range plan i e m = ltb i plan.timeout && ltb e (length plan.links) && ltb m (length plan.messages)

-- a triple comes after the last one kept, or is the first
abbrev pub rises_behind : Option Triple → ℕ → ℕ → ℕ → Bool
rises_behind None i e m = true
rises_behind (Some t) i e m = triple_before t.slot t.link t.message i e m

-- message m crosses link e in slot i: whether it was seen on a link there before, which then stays
pub record Marks (crossed : List ℕ) (i e m : ℕ) (crossed' : List ℕ) (r : Bool) : Type 0 where
  pub seen : r ≡ ltb 0 (crossed_at crossed i m)
  pub table : crossed' ≡ cond r crossed (set crossed (crossed_index i m) (e + 1))

-- nothing is kept
abbrev pub nothing_kept : Kept
nothing_kept = record { count = 0; last = None; twice = false; bad = false }

-- the next triple is bad
abbrev pub spoilt : Kept → Kept
spoilt k = record k { bad = true }

-- the next triple is kept
abbrev pub with_triple : Kept → ℕ → ℕ → ℕ → Bool → Kept
with_triple k i e m again = record { count = k.count + 1; last = Some (record { slot = i; link = e; message = m }); twice = k.twice || again; bad = false }
