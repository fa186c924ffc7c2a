-- What a message keeps from slot to slot: the table's entries of what it has left, and that no link stands twice on a second path.
use Prim.Native.Nat.{ℕ}
use mathlib.Core.Path.{◌≡◌, refl, sym, subst}
use mathlib.Core.Logic.{⊎_elim}
use mathlib.Core.Bool.{Bool, true, false, not, and-eq-true_iff}
use mathlib.Core.List.{List, [], ◌∷◌}
use lib.ListN.{get_or-map}
use borrow.Author.Tests.{not-true}
use Rattle.scope.specs.Plan.{Plan, Place, path_of}
use Rattle.scope.specs.Good.{has, different}
use Rattle.scope.specs.Slot.{Position, on_first, on_second, Moved, turn}
use Rattle.scope.specs.Cycle.{slot, nexts, positions, start}
use Rattle.laws.specs.Message.{position_of}
use Rattle.laws.specs.Links.{TableGives, TableGivesLeft, NoLinkTwice, NoLinkTwiceLeft}
use Rattle.laws.proofs.One.{acts, tried_in}
use Rattle.laws.proofs.Turned.{step-at}
use Rattle.laws.proofs.Slots.{one_slot, turned-from, kept}

-- each message starts with its whole first path
pub starts : (plan : Plan) (m : ℕ) → position_of m (start plan) ≡ on_first (path_of plan m)
starts plan m = get_or-map on_first plan.messages m []

-- the table's entries
table_step : (owner : ℕ → ℕ → ℕ) (rank : ℕ → ℕ) (down : ℕ → Bool) (entry : ℕ → ℕ) (i : ℕ) (tried : List ℕ) (m : ℕ) (p : Position) →
    TableGivesLeft owner m p → TableGivesLeft owner m (acts rank down entry i tried m (turn down p)).next
table_step owner rank down entry i tried m p g =
    one_slot (λ (v : Moved). TableGivesLeft owner m v.next) rank down entry i tried m p
    (record {
      kind0 = λ h. g;
      kind1 = λ q qs h d n. subst (TableGivesLeft owner m) h g;
      kind2 = λ q qs h d s. (left q qs h).1;
      kind3 = λ f fs h d o r. tt;
      kind4 = λ f fs h d o. tt;
      kind5 = λ f fs h d o r. tt;
      kind6 = λ q qs h d n. subst (TableGivesLeft owner m) h g;
      kind7 = λ f fs h d. tt;
    })
  where
    left : (q : Place) (qs : List Place) → p ≡ on_first (q ∷ qs) → TableGives owner m (q ∷ qs)
    left q qs h = subst (TableGivesLeft owner m) h g

pub table_kept : (rank : ℕ → ℕ) (down : ℕ → ℕ → Bool) (owner : ℕ → ℕ → ℕ) (m n i : ℕ) (ps : List Position) →
    TableGivesLeft owner m (position_of m ps) → TableGivesLeft owner m (position_of m (positions rank down owner i n ps))
table_kept rank down owner m n i ps =
    kept rank down owner m (λ j p. TableGivesLeft owner m p) (λ j tried p. table_step owner rank (down j) (owner j) j tried m p) n i ps

-- no link twice
pub different-rest : (e : ℕ) (es : List ℕ) → different (e ∷ es) ≡ true → (has e es ≡ false) × (different es ≡ true)
unfolding different
different-rest e es h =
    let two = (and-eq-true_iff (not (has e es)) (different es)).0 h in
    (not-true (has e es) two.0, two.1)

pub turned_once : (down : ℕ → Bool) (p : Position) (es : List ℕ) → NoLinkTwiceLeft p → turn down p ≡ on_second es → different es ≡ true
turned_once down p es g h =
    ⊎_elim (λ s. subst NoLinkTwiceLeft s g)
    (λ t. let n : NoLinkTwice (t.place ∷ t.rest) = subst NoLinkTwiceLeft t.before g in
    subst (λ (fs : List ℕ). different fs ≡ true) t.second n.0)
    (turned-from down p es h)

once_step : (rank : ℕ → ℕ) (down : ℕ → Bool) (entry : ℕ → ℕ) (i : ℕ) (tried : List ℕ) (m : ℕ) (p : Position) →
    NoLinkTwiceLeft p → NoLinkTwiceLeft (acts rank down entry i tried m (turn down p)).next
once_step rank down entry i tried m p g =
    one_slot (λ (v : Moved). NoLinkTwiceLeft v.next) rank down entry i tried m p
    (record {
      kind0 = λ h. g;
      kind1 = λ q qs h d n. subst NoLinkTwiceLeft h g;
      kind2 = λ q qs h d s. (left q qs h).1;
      kind3 = λ f fs h d o r. (different-rest f fs (turned_once down p (f ∷ fs) g h)).1;
      kind4 = λ f fs h d o. turned_once down p (f ∷ fs) g h;
      kind5 = λ f fs h d o r. turned_once down p (f ∷ fs) g h;
      kind6 = λ q qs h d n. subst NoLinkTwiceLeft h g;
      kind7 = λ f fs h d. turned_once down p (f ∷ fs) g h;
    })
  where
    left : (q : Place) (qs : List Place) → p ≡ on_first (q ∷ qs) → NoLinkTwice (q ∷ qs)
    left q qs h = subst NoLinkTwiceLeft h g

pub once_slot : (rank : ℕ → ℕ) (down : ℕ → ℕ → Bool) (owner : ℕ → ℕ → ℕ) (m i : ℕ) (ps : List Position) →
    NoLinkTwiceLeft (position_of m ps) → NoLinkTwiceLeft (position_of m (nexts (slot rank down owner i ps)))
once_slot rank down owner m i ps g =
    subst NoLinkTwiceLeft (sym (step-at rank down owner m i ps (position_of m ps) refl))
    (once_step rank (down i) (owner i) i (tried_in (down i) ps) m (position_of m ps) g)

pub once_kept : (rank : ℕ → ℕ) (down : ℕ → ℕ → Bool) (owner : ℕ → ℕ → ℕ) (m n i : ℕ) (ps : List Position) →
    NoLinkTwiceLeft (position_of m ps) → NoLinkTwiceLeft (position_of m (positions rank down owner i n ps))
once_kept rank down owner m n i ps =
    kept rank down owner m (λ j p. NoLinkTwiceLeft p) (λ j tried p. once_step rank (down j) (owner j) j tried m p) n i ps
