-- How many messages can still be lost, as the code counts it: by sets of messages; and what the counts may be asked.
use Rattle.std.specs.Prelude.{ℕ, ◌≤◌, ◌<◌, ◌≡◌, Bool, ◌&&◌, ◌||◌, List, length}
use Rattle.scope.specs.Limits.{most_cuts, most_slots, most_links, most_messages, plane_size, weights_size, tops_size}
use Rattle.sets.specs.Sums.{sum_of, one_if}
use Rattle.sets.specs.Sets.{has}
use Rattle.cables.specs.Others.{other_in, AreLinks}
use Rattle.picks.specs.declared.Sizes.{Sizes}
use Rattle.bound.specs.Sets.{set_in}
use Rattle.risks.specs.declared.Hits.{Hits}
use Rattle.risks.specs.declared.Risk.{Risk}
use Rattle.risks.specs.declared.Rest.{Rest}
use Rattle.risks.specs.Weighed.{Fits}

-- how many messages of a kind are in a set
abbrev pub count_in : ℕ → (ℕ → Bool) → ℕ
count_in set kind = sum_of (λ m. one_if (kind m && has set m)) most_messages

-- of those that the pairs picked touch, strip, and both touch and strip
abbrev pub risks_of : Hits → ℕ → Risk
risks_of hits away =
    record {
      touched = count_in away (has hits.touched);
      stripped = count_in away (has hits.stripped);
      lost = count_in away (λ m. has hits.touched m && has hits.stripped m);
    }

-- a pair may be added, and was
pub record MayHit (touch_sets strip_sets : List ℕ) (z : Sizes) (s e : ℕ) : Type 0 where
  pub touches : length touch_sets ≡ plane_size
  pub strips : length strip_sets ≡ plane_size
  pub slot : s < most_slots
  pub link : e < most_links
  pub others : AreLinks z.others

-- in the new set are those of the old one, and of the sets of both links
abbrev pub IsHitIn : List ℕ → ℕ → ℕ → ℕ → ℕ → ℕ → Type 0
IsHitIn sets s e o old new = (m : ℕ) → has new m ≡ (has old m || (has (set_in sets s e) m || has (set_in sets s o) m))

pub record IsHit (touch_sets strip_sets : List ℕ) (z : Sizes) (old : Hits) (s e : ℕ) (new : Hits) : Type 0 where
  pub touched : IsHitIn touch_sets s e (other_in z.others e) old.touched new.touched
  pub stripped : IsHitIn strip_sets s e (other_in z.others e) old.stripped new.stripped

pub record MayWeigh (risk : Risk) (n : ℕ) (most : List ℕ) (s : ℕ) : Type 0 where
  pub touched : risk.touched ≤ most_messages
  pub stripped : risk.stripped ≤ most_messages
  pub few : n ≤ most_cuts
  pub tops : length most ≡ tops_size
  pub early : s < most_slots

-- a pair of a slot that touches and strips so many may be counted
pub record MayStrip (most : List ℕ) (need : ℕ) (rest : Rest) (s touches strips : ℕ) : Type 0 where
  pub tops : length most ≡ tops_size
  pub small : need ≤ 65536
  pub fits : Fits rest
  pub early : s < most_slots
  pub touched : touches < 65536
  pub stripped : strips < 65536

-- pairs of a slot may be weighed
pub record MayTry (weights most : List ℕ) (need : ℕ) (rest : Rest) (s : ℕ) : Type 0 where
  pub heavy : length weights ≡ weights_size
  pub tops : length most ≡ tops_size
  pub small : need ≤ 65536
  pub fits : Fits rest
  pub early : s < most_slots
