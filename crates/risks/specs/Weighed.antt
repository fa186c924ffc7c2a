-- How much the pairs picked and those to come can lose, as it is counted: weights of a pair, the messages that are away, and who is hit.
use Rattle.std.specs.Prelude.{ℕ, ◌+◌, ◌-◌, ◌*◌, ◌≤◌, ◌<◌, ◌≡◌, Bool, true, not, ◌&&◌, ◌||◌, cond, List, length, get_or, ltb, eqb}
use Rattle.scope.specs.Limits.{plane_size}
use Rattle.scope.specs.Plan.{plan_of}
use Rattle.cuts.specs.Down.{is_down}
use Rattle.step.specs.declared.Position.{Position}
use Rattle.step.specs.Stand.{home}
use Rattle.sets.specs.Sets.{has}
use Rattle.bound.specs.Bounds.{weight_in, top_in, front_in, harmed_and_bared}
use Rattle.bound.specs.Sets.{set_in}
use Rattle.losses.specs.Harmed.{hers_on, is_touched, harmed}
use Rattle.losses.specs.Strips.{strips_on, is_stripped, bared, lost}
use Rattle.risks.specs.declared.Hits.{Hits}
use Rattle.risks.specs.declared.Risk.{Risk}
use Rattle.risks.specs.declared.Loss.{Loss}
use Rattle.risks.specs.declared.Rest.{Rest}

-- what can be lost where so many messages are at risk and n pairs more are to come, none before slot s
abbrev pub rest_of : Risk → ℕ → List ℕ → ℕ → Rest
rest_of risk n most s =
    record {
      touched = risk.touched;
      stripped = risk.stripped;
      pairs = n;
      loss =
          record {
            touches = risk.touched + n * top_in most 0 s;
            strips = risk.stripped + n * top_in most 1 s;
            both = risk.touched + risk.stripped + n * top_in most 2 s;
          };
    }

-- how many messages can be stripped with a pair of slot s that touches and strips so many: one last pair must touch what is then still wanting
abbrev pub strips_with : Rest → List ℕ → ℕ → ℕ → ℕ → ℕ → ℕ
strips_with rest most need s touches strips =
    cond (eqb rest.pairs 1) (rest.stripped + strips + front_in most s (need - (rest.touched + touches))) (rest.loss.strips + strips)

-- what can be lost with the pair (s, e)
abbrev pub loss_with : Rest → List ℕ → List ℕ → ℕ → ℕ → ℕ → Loss
loss_with rest weights most need s e =
    record {
      touches = rest.loss.touches + weight_in weights 0 s e;
      strips = strips_with rest most need s (weight_in weights 0 s e) (weight_in weights 1 s e);
      both = rest.loss.both + weight_in weights 2 s e;
    }

-- what can be lost is no large number
pub record Fits (rest : Rest) : Type 0 where
  pub touched : rest.touched ≤ 262144
  pub stripped : rest.stripped ≤ 262144
  pub touches : rest.loss.touches ≤ 262144
  pub strips : rest.loss.strips ≤ 262144
  pub both : rest.loss.both ≤ 262144

-- too few messages are touched, or stripped, or both together
abbrev pub too_light : ℕ → Loss → Bool
too_light need loss = ltb loss.touches need || ltb loss.strips need || ltb loss.both (2 * need)

-- no list with n pairs more from slot s on can answer: with none it loses too few, and with some not even the heaviest pairs lose enough
abbrev pub in_vain : Risk → ℕ → List ℕ → ℕ → ℕ → Bool
in_vain risk n most need s = cond (eqb n 0) (ltb risk.lost need) (too_light need (rest_of risk n most s).loss)

-- a link that may still be named, and with which a list can answer where so much is lost besides
abbrev pub passes : List ℕ → List ℕ → List ℕ → ℕ → Rest → ℕ → ℕ → Bool
passes closed weights most need rest s e = not (is_down closed e) && not (too_light need (loss_with rest weights most need s e))

-- who is hit on a link: who has it before it from a slot on, and whom a cut of it strips, is in its set
pub record Hittable (row touch_sets strip_sets : List ℕ) : Type 0 where
  pub touch : length touch_sets ≡ plane_size
  pub strip : length strip_sets ≡ plane_size
  pub touched : (m s e : ℕ) → m < length (plan_of row).messages → s < (plan_of row).timeout → e < length (plan_of row).links →
      0 < hers_on (plan_of row) m s e → has (set_in touch_sets s e) m ≡ true
  pub stripped : (m s e : ℕ) → m < length (plan_of row).messages → s < (plan_of row).timeout → e < length (plan_of row).links →
      0 < strips_on (plan_of row) m s e → has (set_in strip_sets s e) m ≡ true

-- the set of the first n messages that are not at their targets
abbrev pub AreAway : List Position → ℕ → ℕ → Type 0
AreAway ps n those = (m : ℕ) → has those m ≡ (ltb m n && not (eqb (get_or ps m home).left 0))

-- nobody is hit by no pair
abbrev pub no_hits : Hits
no_hits = record { touched = 0; stripped = 0 }

-- whom a list touches, and whom it strips, is in the sets
pub record Covers (row cuts : List ℕ) (hits : Hits) : Type 0 where
  pub touched : (m : ℕ) → m < length (plan_of row).messages → is_touched (plan_of row) cuts m ≡ true → has hits.touched m ≡ true
  pub stripped : (m : ℕ) → m < length (plan_of row).messages → is_stripped (plan_of row) cuts m ≡ true → has hits.stripped m ≡ true

-- no fewer messages are counted than a list touches, strips, and both, of those that are not at their targets at time s
pub record Counted (row cuts : List ℕ) (s : ℕ) (risk : Risk) : Type 0 where
  pub touched : harmed (plan_of row) cuts s ≤ risk.touched
  pub stripped : bared (plan_of row) cuts s ≤ risk.stripped
  pub lost : lost (plan_of row) cuts s ≤ risk.lost

-- no less can be lost than the list hits and k pairs more weigh, none before slot s
pub record Leaves (row cuts most : List ℕ) (s k : ℕ) (rest : Rest) : Type 0 where
  pub touched : harmed (plan_of row) cuts s ≤ rest.touched
  pub stripped : bared (plan_of row) cuts s ≤ rest.stripped
  pub pairs : rest.pairs ≡ k
  pub touches : harmed (plan_of row) cuts s + k * top_in most 0 s ≤ rest.loss.touches
  pub strips : bared (plan_of row) cuts s + k * top_in most 1 s ≤ rest.loss.strips
  pub both : harmed_and_bared (plan_of row) cuts s + k * top_in most 2 s ≤ rest.loss.both
  pub fits : Fits rest
