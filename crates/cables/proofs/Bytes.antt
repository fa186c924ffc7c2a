-- Bytes of links: the higher ones of their cables, and the other way of each link of a plan, one after the other.
use Prim.Native.Nat.{ℕ, zero, suc, ◌≤◌, ◌<◌}
use mathlib.Core.Path.{◌≡◌, refl, ◌∙◌}
use mathlib.Core.Bool.{cond}
use mathlib.Core.List.{List, [], ◌∷◌}
use native.Mathlib.Omega.{arith}
use lib.ListN.{length, get_or, replicate, length-replicate, get_or-replicate}
use lib.Dec.{ltb}
use Rattle.std.proofs.lemmas.List.FromFn.{length-map-range_with_len, get_or-map-range_with_len}
use Rattle.scope.specs.Limits.{most_links}
use Rattle.scope.specs.Plan.{Plan}
use Rattle.scope.specs.Cables.{other_way}
use Rattle.cables.specs.Others.{other_in, higher_of, OtherWays}

-- what stands at an index of a list does not depend on what would stand past its end
pub within : (l : List ℕ) (i x y : ℕ) → i < length l → get_or l i x ≡ get_or l i y
within [] i x y h = absurd (omega arith)
within (z ∷ l) zero x y h = refl
within (z ∷ l) (suc i) x y h = within l i x y (omega arith)

-- the list of the higher ones of their cables, byte by byte
module _ (others : List ℕ) where
  pub higher_size : length (higher_of others) ≡ most_links
  unfolding higher_of
  higher_size = length-map-range_with_len {X = ℕ} (λ e. cond (ltb (other_in others e) e) 1 0) 0 most_links

  pub higher_is : (e : ℕ) → e < most_links → get_or (higher_of others) e 0 ≡ cond (ltb (other_in others e) e) 1 0
  unfolding higher_of
  higher_is e l = get_or-map-range_with_len {X = ℕ} (λ e. cond (ltb (other_in others e) e) 1 0) 0 most_links e e 0 l (omega arith)

module _ (plan : Plan) where
  -- a loop at link e: the bytes below are found, and each byte is of a link
  pub record Finding (e : ℕ) (others : List ℕ) : Type 0 where
    pub long : length others ≡ most_links
    pub is : (d : ℕ) → d < e → get_or others d 0 ≡ other_way plan d
    pub below : (d : ℕ) → d < most_links → get_or others d 0 < most_links

  -- it begins, it is done
  pub finding_first : Finding 0 (replicate most_links 0)
  finding_first =
      record {
        long = length-replicate {A = ℕ} most_links 0;
        is = λ d h. absurd (omega arith);
        below = λ d l. omega (arith, get_or-replicate {A = ℕ} most_links d 0 0 l);
      }

  pub finding_done : (e : ℕ) (others : List ℕ) → length plan.links ≤ e → e ≤ most_links → Finding e others → OtherWays plan others
  finding_done e others h few g =
      record {
        bytes =
            record {
              size = g.long;
              below = λ d l. omega (arith, within others d d 0 (omega (arith, g.long)), g.below d l);
            };
        is = λ d l. within others d d 0 (omega (arith, g.long)) ∙ g.is d (omega arith);
      }
