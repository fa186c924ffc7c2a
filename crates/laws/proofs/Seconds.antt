-- What the rules say of each place of a first path: its link and its second path have links of the plan, and the second path does not begin
-- with the link that it replaces. No link stands twice on it, since no vertex does.
use Prim.Native.Nat.{ℕ, ◌<◌}
use native.Mathlib.Omega.{arith}
use mathlib.Core.Path.{◌≡◌, refl, sym, ◌∙◌, ap}
use mathlib.Core.Bool.{Bool, true, false, not, ◌&&◌, ◌||◌, true≢false, and-eq-true_iff, or-true}
use mathlib.Core.List.{List, [], ◌∷◌}
use lib.ListN.{length}
use lib.Dec.{ltb, eqb}
use borrow.Author.Tests.{ltb-true, eqb-true, eqb-false, eq-eqb, not-true, not-false}
use Rattle.scope.specs.Outcome.{gives}
use Rattle.scope.specs.Plan.{Plan, Place, link_of, path_of}
use Rattle.scope.specs.Good.{has, different, visited, are_links, joins, is_path_from, links_of, end_of, head_of, good_place, good_seconds}
use Rattle.scope.specs.Rules.{rules}
use Rattle.laws.specs.Links.{NoLinkTwice}
use Rattle.laws.proofs.Good.{keeps-rules, there_or_not, good-links}
use Rattle.laws.proofs.Kept.{different-rest}

-- a link of a path leads to a vertex that the path visits
has-visited : (plan : Plan) (x : ℕ) (es : List ℕ) → has x es ≡ true → has (link_of plan x).to (visited plan es) ≡ true
unfolding has visited
has-visited plan x [] h = h
has-visited plan x (e ∷ es) h = by (eqb x e) refl h (has-visited plan x es)
  where
    by : (b : Bool) → eqb x e ≡ b → (b || has x es) ≡ true → (has x es ≡ true → has (link_of plan x).to (visited plan es) ≡ true) →
        (eqb (link_of plan x).to (link_of plan e).to || has (link_of plan x).to (visited plan es)) ≡ true
    by true c g more = rw (eq-eqb (link_of plan x).to (link_of plan e).to (ap (λ (k : ℕ). (link_of plan k).to) (eqb-true x e c)))
    by false c g more = rw (more g) (or-true (eqb (link_of plan x).to (link_of plan e).to))

links-differ : (plan : Plan) (es : List ℕ) → different (visited plan es) ≡ true → different es ≡ true
unfolding different visited
links-differ plan [] h = refl
links-differ plan (e ∷ es) h =
    let two = different-rest (link_of plan e).to (visited plan es) h in
    by (has e es) refl two.0 (links-differ plan es two.1)
  where
    by : (b : Bool) → has e es ≡ b → has (link_of plan e).to (visited plan es) ≡ false → different es ≡ true → (not b && different es) ≡ true
    by true c g d = absurd (true≢false (sym (has-visited plan e es c) ∙ g))
    by false c g d = d

-- one place
pub record Sound (plan : Plan) (p : Place) : Type 0 where
  pub link : p.link < length plan.links
  pub second : are_links plan p.second ≡ true
  pub once : different p.second ≡ true
  pub elsewhere : (e : ℕ) (es : List ℕ) → p.second ≡ e ∷ es → e ≡ p.link → ⊥

abbrev pub AllSound : Plan → List Place → Type 0
AllSound plan [] = Unit {0}
AllSound plan (p ∷ ps) = Sound plan p × AllSound plan ps

sound : (plan : Plan) (end : ℕ) (p : Place) (second : List ℕ) → p.link < length plan.links → good_place plan end p second ≡ true →
    p.second ≡ second → Sound plan p
unfolding are_links different
sound plan end p [] l g h = record { link = l; second = rw h; once = rw h; elsewhere = λ e es s. absurd (nothing e es (sym h ∙ s)) }
  where
    nothing : (e : ℕ) (es : List ℕ) → [] ≡ e ∷ es → ⊥
    nothing e es s = let z : ◌≡◌ {A = ℕ} 0 1 = cc in omega arith
sound plan end p (e ∷ es) l g h =
    let v = (link_of plan p.link).from in
    let path = is_path_from plan v p.second in
    let a = (and-eq-true_iff (path && eqb (end_of plan p.second) end) (not (eqb (head_of p.second) p.link))).0 g in
    let b = (and-eq-true_iff path (eqb (end_of plan p.second) end)).0 a.0 in
    let c = (and-eq-true_iff (are_links plan p.second && joins plan v p.second) (different (v ∷ visited plan p.second))).0 b.0 in
    let d = (and-eq-true_iff (are_links plan p.second) (joins plan v p.second)).0 c.0 in
    record {
      link = l;
      second = d.0;
      once = links-differ plan p.second (different-rest v (visited plan p.second) c.1).1;
      elsewhere = λ f fs s. λ same.
          eqb-false (head_of p.second) p.link (not-true (eqb (head_of p.second) p.link) a.1) (ap head_of s ∙ same);
    }

pub first-link : (plan : Plan) (e : ℕ) (es : List ℕ) → are_links plan (e ∷ es) ≡ true →
    (e < length plan.links) × (are_links plan es ≡ true)
unfolding are_links
first-link plan e es h =
    let two = (and-eq-true_iff (ltb e (length plan.links)) (are_links plan es)).0 h in
    (ltb-true e (length plan.links) two.0, two.1)

all_sound : (plan : Plan) (end : ℕ) (ps : List Place) → are_links plan (links_of ps) ≡ true → good_seconds plan end ps ≡ true → AllSound plan ps
unfolding good_seconds
all_sound plan end [] l g = tt
all_sound plan end (p ∷ ps) l g =
    let two = (and-eq-true_iff (good_place plan end p p.second) (good_seconds plan end ps)).0 g in
    let links = first-link plan p.link (links_of ps) l in
    (sound plan end p p.second links.0 two.0 refl, all_sound plan end ps links.1 two.1)

pub good_places : (plan : Plan) → rules plan ≡ gives 0 → (m : ℕ) → AllSound plan (path_of plan m)
good_places plan g m =
    there_or_not plan (AllSound plan) m
    (λ h. all_sound plan (end_of plan (links_of (path_of plan m))) (path_of plan m) (good-links plan g m)
    (not-false _ ((keeps-rules plan g).second_paths m h))) tt

pub no_link_twice_lem : (plan : Plan) → rules plan ≡ gives 0 → (m : ℕ) → NoLinkTwice (path_of plan m)
no_link_twice_lem plan g m = by (path_of plan m) (good_places plan g m)
  where
    by : (ps : List Place) → AllSound plan ps → NoLinkTwice ps
    by [] s = tt
    by (p ∷ ps) s = (s.0.once, by ps s.1)
