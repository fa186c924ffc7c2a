-- What the rules say of places holds in each slot of what a message has left. So the number of an event of kind 1, 2 or 3 is a link of the
-- plan.
use Prim.Native.Nat.{ℕ, ◌≤◌, ◌<◌}
use native.Mathlib.Omega.{arith}
use mathlib.Core.Path.{◌≡◌, sym, subst}
use mathlib.Core.Logic.{⊎_elim}
use mathlib.Core.Bool.{Bool, true}
use mathlib.Core.List.{List, ◌∷◌}
use lib.ListN.{length}
use Rattle.scope.specs.Outcome.{gives}
use Rattle.scope.specs.Plan.{Plan, Place}
use Rattle.scope.specs.Good.{are_links}
use Rattle.scope.specs.Rules.{rules}
use Rattle.scope.specs.Slot.{Position, on_first, on_second, Moved, turn}
use Rattle.scope.specs.Cycle.{positions, start, table_of}
use Rattle.laws.specs.Message.{position_of}
use Rattle.laws.specs.Named.{NumberIsLink}
use Rattle.laws.proofs.One.{acts, tried_in, move_at}
use Rattle.laws.proofs.Slots.{one_slot, turned-from, kept}
use Rattle.laws.proofs.Kept.{starts}
use Rattle.laws.proofs.Seconds.{AllSound, first-link, good_places}

module _ (plan : Plan) where
  abbrev pub SoundLeft : Position → Type 0
  SoundLeft (on_first ps) = AllSound plan ps
  SoundLeft (on_second es) = are_links plan es ≡ true

  turned_sound : (down : ℕ → Bool) (p : Position) (es : List ℕ) → SoundLeft p → turn down p ≡ on_second es → are_links plan es ≡ true
  turned_sound down p es g h =
      ⊎_elim (λ s. subst SoundLeft s g)
      (λ t. let n : AllSound plan (t.place ∷ t.rest) = subst SoundLeft t.before g in
      subst (λ (fs : List ℕ). are_links plan fs ≡ true) t.second n.0.second)
      (turned-from down p es h)

  module _ (rank : ℕ → ℕ) (down : ℕ → Bool) (entry : ℕ → ℕ) (i : ℕ) (tried : List ℕ) (m : ℕ) (p : Position) (g : SoundLeft p) where
    left : (q : Place) (qs : List Place) → p ≡ on_first (q ∷ qs) → AllSound plan (q ∷ qs)
    left q qs h = subst SoundLeft h g

    sound_step : SoundLeft (acts rank down entry i tried m (turn down p)).next
    sound_step =
        one_slot (λ (v : Moved). SoundLeft v.next) rank down entry i tried m p
        (record {
          kind0 = λ h. g;
          kind1 = λ q qs h d n. left q qs h;
          kind2 = λ q qs h d s. (left q qs h).1;
          kind3 = λ f fs h d o r. (first-link plan f fs (turned_sound down p (f ∷ fs) g h)).1;
          kind4 = λ f fs h d o. turned_sound down p (f ∷ fs) g h;
          kind5 = λ f fs h d o r. turned_sound down p (f ∷ fs) g h;
          kind6 = λ q qs h d n. left q qs h;
          kind7 = λ f fs h d. turned_sound down p (f ∷ fs) g h;
        })

    number_in_slot :
        let v = (acts rank down entry i tried m (turn down p)).event in 0 < v.kind → v.kind ≤ 3 → v.number < length plan.links
    number_in_slot =
        one_slot (λ (v : Moved). 0 < v.event.kind → v.event.kind ≤ 3 → v.event.number < length plan.links) rank down entry i tried m p
        (record {
          kind0 = λ h a b. absurd (omega arith);
          kind1 = λ q qs h d n a b. (left q qs h).0.link;
          kind2 = λ q qs h d s a b. (left q qs h).0.link;
          kind3 = λ f fs h d o r a b. (first-link plan f fs (turned_sound down p (f ∷ fs) g h)).0;
          kind4 = λ f fs h d o a b. absurd (omega arith);
          kind5 = λ f fs h d o r a b. absurd (omega arith);
          kind6 = λ q qs h d n a b. absurd (omega arith);
          kind7 = λ f fs h d a b. absurd (omega arith);
        })

-- at each time of the replay
pub sound_at : (rank : ℕ → ℕ) (down : ℕ → ℕ → Bool) (plan : Plan) → rules plan ≡ gives 0 → (m i : ℕ) →
    SoundLeft plan (position_of m (positions rank down (table_of plan) 0 i (start plan)))
sound_at rank down plan g m i =
    kept rank down (table_of plan) m (λ j p. SoundLeft plan p) (λ j tried p. sound_step plan rank (down j) (table_of plan j) j tried m p) i 0
    (start plan) (subst (SoundLeft plan) (sym (starts plan m)) (good_places plan g m))

pub number_is_link_lem : NumberIsLink
number_is_link_lem rank down plan m i g =
    let owner = table_of plan in
    let ps = positions rank down owner 0 i (start plan) in
    subst (λ (v : Moved). 0 < v.event.kind → v.event.kind ≤ 3 → v.event.number < length plan.links)
    (sym (move_at rank down owner i ps m))
    (number_in_slot plan rank (down i) (owner i) i (tried_in (down i) ps) m (position_of m ps) (sound_at rank down plan g m i))
