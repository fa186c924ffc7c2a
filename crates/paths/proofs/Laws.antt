-- Laws of links and paths: the ends of a link, the ends of a path, and the links of a first path copied into a buffer.
use Prim.Native.Nat.{ℕ, suc, ◌+◌, ◌-◌, ◌*◌, ◌≤◌, ◌<◌}
use mathlib.Core.Path.{◌≡◌, refl, sym, ◌∙◌, ap}
use mathlib.Core.Bool.{Bool, true, false}
use mathlib.Core.List.{List, [], ◌∷◌, ◌++◌, append_assoc, append-nil}
use native.Mathlib.Numerals.{add-one}
use native.Mathlib.Omega.{arith}
use borrow.Author.Tests.{ltb-true, ltb-false}
use lib.ListN.{length, length-set, get_or, take, drop, set, get_or-eq_default}
use lib.Seq.{take-suc-set, drop-set-lt, drop-drop}
use lib.Dec.{ltb}
use Rattle.scope.specs.Plan.{Plan, at, place_size, places_at, after_places, after_messages, place_count, message_at, link_count, plan_of, link_of}
use Rattle.scope.specs.Good.{links_of, head_of, last_of, end_of}
use Rattle.rows.specs.declared.RowPlace.{RowPlace}
use Rattle.rows.specs.View.{IsPlace}
use Rattle.rows.specs.Lies.{PlanLies}
use Rattle.rows.proofs.Parts.{link_at, link-count, places_all, places_more, places_none}
use Rattle.paths.specs.Path.{FirstLinks}

module _ (row : List ℕ) (e : ℕ) where
  pub from_at : e < link_count row → at row (e * 2 + 5) ≡ (link_of (plan_of row) e).from
  from_at h =
      let f : e * 2 + 5 ≡ 5 + 2 * e = omega arith in
      ap (at row) f ∙ sym (ap (λ l. l.from) (link_at row e h))

  pub to_at : e < link_count row → at row (e * 2 + 6) ≡ (link_of (plan_of row) e).to
  to_at h =
      let f : e * 2 + 6 ≡ 6 + 2 * e = omega arith in
      ap (at row) f ∙ sym (ap (λ l. l.to) (link_at row e h))

  pub from-none : link_count row ≤ e → 0 ≡ (link_of (plan_of row) e).from
  from-none h =
      let g : length (plan_of row).links ≤ e = rw (link-count row) h in
      sym (ap (λ l. l.from) (get_or-eq_default (plan_of row).links (record { from = 0; to = 0 }) g))

  pub to_none : link_count row ≤ e → 0 ≡ (link_of (plan_of row) e).to
  to_none h =
      let g : length (plan_of row).links ≤ e = rw (link-count row) h in
      sym (ap (λ l. l.to) (get_or-eq_default (plan_of row).links (record { from = 0; to = 0 }) g))

-- they are small
module _ (row : List ℕ) (lies : PlanLies row) (e : ℕ) where
  small : (t : Bool) → ltb e (link_count row) ≡ t → ((link_of (plan_of row) e).from < 64) × ((link_of (plan_of row) e).to < 64)
  small true h =
      let l : e < link_count row = ltb-true e (link_count row) h in
      let f : (link_of (plan_of row) e).from ≡ at row (5 + 2 * e) = ap (λ x. x.from) (link_at row e l) in
      let g : (link_of (plan_of row) e).to ≡ at row (6 + 2 * e) = ap (λ x. x.to) (link_at row e l) in
      (omega (arith, lies.from e l, f), omega (arith, lies.to e l, g))
  small false h =
      let l : link_count row ≤ e = ltb-false e (link_count row) h in
      (omega (arith, from-none row e l), omega (arith, to_none row e l))

  pub from-small : (link_of (plan_of row) e).from < 64
  from-small = (small (ltb e (link_count row)) refl).0

  pub to-small : (link_of (plan_of row) e).to < 64
  to-small = (small (ltb e (link_count row)) refl).1

-- and stand in the row
pub links-inside : (row : List ℕ) → PlanLies row → 5 + 2 * link_count row ≤ length row
unfolding after_places after_messages
links-inside row lies = omega (arith, ((lies.message 0 (omega arith)).place 0 (omega arith)).lies)

-- the last link, and the first
pub end_is : (plan : Plan) (path : List ℕ) → (link_of plan (get_or path (length path - 1) 0)).to ≡ end_of plan path
end_is plan path = ap (λ e. (link_of plan e).to) (go path)
  where
    last : (x y : ℕ) (es : List ℕ) → get_or (x ∷ es) (length es) 0 ≡ last_of y (x ∷ es)
    last x y [] = refl
    last x y (e ∷ es) = last e x es

    go : (es : List ℕ) → get_or es (length es - 1) 0 ≡ last_of 0 es
    go [] = refl
    go (e ∷ es) =
        let f : suc (length es) - 1 ≡ length es = omega arith in
        ap (λ k. get_or (e ∷ es) k 0) f ∙ last e 0 es

pub head_first : (path : List ℕ) → get_or path 0 0 ≡ head_of path
head_first [] = refl
head_first (e ∷ es) = refl

-- the links of a message in a buffer that held `entry`, k of n copied and the others from index j on: it begins, it goes on, it is done
pub record Copying (row : List ℕ) (i n : ℕ) (entry : List ℕ) (j k : ℕ) (buffer : List ℕ) : Type 0 where
  pub links : take k buffer ++ links_of (places_at row j (n - k)) ≡ links_of (message_at row i)
  pub rest : drop k buffer ≡ drop k entry
  pub long : length buffer ≡ length entry
  pub small : j ≤ i + 1 + k * 65540
  pub most : k ≤ n

module _ (row : List ℕ) (i n : ℕ) (entry : List ℕ) where
  pub copying_first : n ≡ place_count row i → Copying row i n entry (i + 1) 0 entry
  copying_first e =
      record {
        links = ap links_of (places_all row (i + 1) n ∙ ap (places_at row (i + 1)) e);
        rest = refl;
        long = refl;
        small = omega arith;
        most = omega arith;
      }

  pub copying_next : (j k : ℕ) (buffer : List ℕ) (here : RowPlace) → Copying row i n entry j k buffer → k < n → k < length buffer →
      IsPlace row j here → Copying row i n entry here.next (k + 1) (set buffer k here.link)
  copying_next j k buffer here g h hb is =
      record {
        links = rw (front, append_assoc, is.link, is.next, ← left) g.links;
        rest = behind;
        long = length-set buffer k here.link ∙ g.long;
        small = omega (arith, is.near, g.small);
        most = omega arith;
      }
    where
      front : take (k + 1) (set buffer k here.link) ≡ take k buffer ++ (here.link ∷ [])
      front = ap (λ m. take m (set buffer k here.link)) (add-one k) ∙ take-suc-set buffer k here.link hb

      left : links_of (places_at row j (n - k)) ≡ at row j ∷ links_of (places_at row (j + place_size row j) (n - (k + 1)))
      left = ap links_of (places_more row j n k h)

      behind : drop (k + 1) (set buffer k here.link) ≡ drop (k + 1) entry
      behind =
          drop-set-lt (k + 1) buffer k here.link (omega arith) ∙ sym (drop-drop 1 k buffer) ∙ ap (drop 1) g.rest ∙ drop-drop 1 k entry

  pub copying_done : (j k : ℕ) (buffer : List ℕ) → Copying row i n entry j k buffer → n ≤ k → n ≡ place_count row i → FirstLinks row i
      entry buffer n
  copying_done j k buffer g h fn =
      let f : n ≡ k = omega (arith, g.most) in
      let all : take k buffer ++ links_of (places_at row j (n - k)) ≡ take k buffer =
      ap (λ ps. take k buffer ++ links_of ps) (places_none row j n k h) ∙ append-nil (take k buffer) in
      record { count = fn; are = ap (λ m. take m buffer) f ∙ sym all ∙ g.links; rest = rw f g.rest }
