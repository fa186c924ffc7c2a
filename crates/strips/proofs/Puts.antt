-- Bytes of links and messages, and numbers of links: put one after another, and by a loop over links or messages.
use Prim.Native.Nat.{ℕ, ◌+◌, ◌*◌, ◌≤◌, ◌<◌}
use native.Mathlib.Omega.{arith}
use mathlib.Core.Path.{◌≡◌, refl, sym, ◌∙◌, ap}
use mathlib.Core.Bool.{Bool, true, false, cond, ◌&&◌, ◌||◌, and-false}
use mathlib.Core.List.{List}
use lib.ListN.{length, get_or, set, replicate, length-set, length-replicate, get_or-replicate, get_or-eq_default}
use lib.Seq.{get_or-set_same, get_or-set_other}
use lib.Dec.{ltb, eqb}
use borrow.Author.Tests.{ltb-true, ltb-false, lt-ltb, le-ltb, eqb-true, eqb-false, ne_eqb}
use Rattle.scope.specs.Limits.{most_links, most_messages, seconds_size}
use Rattle.sets.specs.Sums.{one_if}
use Rattle.bound.specs.Seconds.{second_in, Seconds}
use Rattle.strips.specs.Filled.{Put, More, MayMore}

module _ (m : ℕ) where
  -- nothing is put
  pub put-none : (old : List ℕ) → length old ≡ seconds_size → Put m (λ e. false) old old
  put-none old l = record { long = l; is = λ e j a b. rw (and-false (eqb j m)) }

  -- the same test of another form
  pub put_same : (t u : ℕ → Bool) (old new : List ℕ) → ((e : ℕ) → e < most_links → t e ≡ u e) → Put m t old new → Put m u old new
  put_same t u old new same p =
      record { long = p.long; is = λ e j a b. p.is e j a b ∙ ap (λ (x : Bool). cond (eqb j m && x) 1 (second_in old e j)) (same e a) }

  -- one after the other
  pub put_then : (t u : ℕ → Bool) (old mid new : List ℕ) → Put m t old mid → Put m u mid new → Put m (λ e. t e || u e) old new
  put_then t u old mid new p q =
      record {
        long = q.long;
        is = λ e j a b. q.is e j a b ∙ ap (λ (x : ℕ). cond (eqb j m && u e) 1 x) (p.is e j a b) ∙
            by (eqb j m) (t e) (u e) (second_in old e j);
      }
    where
      by : (b x y : Bool) (v : ℕ) → cond (b && y) 1 (cond (b && x) 1 v) ≡ cond (b && (x || y)) 1 v
      by true true true v = refl
      by true true false v = refl
      by true false true v = refl
      by true false false v = refl
      by false x y v = refl

  -- one link
  pub put_one : (v : ℕ) (old : List ℕ) → v < most_links → m < most_messages → length old ≡ seconds_size →
      Put m (λ e. eqb e v) old (set old (v * most_messages + m) 1)
  put_one v old h l long =
      record { long = length-set old (v * most_messages + m) 1 ∙ long; is = λ e j a b. by e j a b (eqb j m) refl (eqb e v) refl }
    where
      by : (e j : ℕ) → e < most_links → j < most_messages → (s : Bool) → eqb j m ≡ s → (t : Bool) → eqb e v ≡ t →
          second_in (set old (v * most_messages + m) 1) e j ≡ cond (s && t) 1 (second_in old e j)
      by e j a b true p true q =
          let same : e * most_messages + j ≡ v * most_messages + m = omega (arith, eqb-true j m p, eqb-true e v q) in
          ap (λ (k : ℕ). get_or (set old (v * most_messages + m) 1) k 0) same ∙ get_or-set_same old (v * most_messages + m) 1 0 (omega arith)
      by e j a b true p false q = get_or-set_other old (v * most_messages + m) (e * most_messages + j) 1 0 (λ same. eqb-false e v q (omega arith))
      by e j a b false p t q = get_or-set_other old (v * most_messages + m) (e * most_messages + j) 1 0 (λ same. eqb-false j m p (omega arith))

  -- a link that no byte is for
  pub put-past : (v : ℕ) (old : List ℕ) → most_links ≤ v → length old ≡ seconds_size → Put m (λ e. eqb e v) old old
  put-past v old h long =
      put_same (λ e. false) (λ e. eqb e v) old old (λ e a. sym (ne_eqb e v (λ same. omega arith))) (put-none old long)

-- the bytes of the messages below m are as a test says, the others 0
pub record Upto (test : ℕ → ℕ → Bool) (m : ℕ) (bytes : List ℕ) : Type 0 where
  pub long : length bytes ≡ seconds_size
  pub is : (e j : ℕ) → e < most_links → j < most_messages → second_in bytes e j ≡ one_if (ltb j m && test j e)

module _ (test : ℕ → ℕ → Bool) where
  pub upto_none : (bytes : List ℕ) → length bytes ≡ seconds_size → ((k : ℕ) → get_or bytes k 0 ≡ 0) → Upto test 0 bytes
  upto_none bytes l none = record { long = l; is = λ e j a b. rw (le-ltb j 0 (omega arith)) (none (e * most_messages + j)) }

  pub upto_next : (m : ℕ) (u : ℕ → Bool) (old new : List ℕ) → ((e : ℕ) → u e ≡ test m e) → Upto test m old → Put m u old new →
      Upto test (m + 1) new
  upto_next m u old new same g p =
      record {
        long = p.long;
        is = λ e j a b. p.is e j a b ∙ ap (λ (x : ℕ). cond (eqb j m && u e) 1 x) (g.is e j a b) ∙
            by e j (eqb j m) refl;
      }
    where
      by : (e j : ℕ) (s : Bool) → eqb j m ≡ s → cond (s && u e) 1 (one_if (ltb j m && test j e)) ≡ one_if (ltb j (m + 1) && test j e)
      by e j true q =
          let same_number : j ≡ m = eqb-true j m q in
          rw (same_number, le-ltb m m (omega arith), lt-ltb m (m + 1) (omega arith)) (ap one_if (same e))
      by e j false q = ap (λ (x : Bool). one_if (x && test j e)) (less (ltb j m) refl)
        where
          less : (x : Bool) → ltb j m ≡ x → ltb j m ≡ ltb j (m + 1)
          less true h = h ∙ sym (lt-ltb j (m + 1) (omega (arith, ltb-true j m h)))
          less false h = h ∙ sym (le-ltb j (m + 1) (omega (arith, ltb-false j m h, eqb-false j m q)))

  pub upto_all : (m : ℕ) (bytes : List ℕ) → ((j e : ℕ) → m ≤ j → test j e ≡ false) → Upto test m bytes → Seconds test bytes
  upto_all m bytes past g = record { long = g.long; is = λ j e b a. g.is e j a b ∙ ap one_if (by j e (ltb j m) refl) }
    where
      by : (j e : ℕ) (x : Bool) → ltb j m ≡ x → (x && test j e) ≡ test j e
      by j e true h = refl
      by j e false h = sym (past j e (ltb-false j m h))

-- a list of zeros
pub zeros : (n k : ℕ) → get_or {A = ℕ} (replicate n 0) k 0 ≡ 0
zeros n k = by (ltb k n) refl
  where
    by : (b : Bool) → ltb k n ≡ b → get_or {A = ℕ} (replicate n 0) k 0 ≡ 0
    by true h = get_or-replicate n k 0 0 (ltb-true k n h)
    by false h = get_or-eq_default (replicate n 0) 0 {n = k} (omega (arith, ltb-false k n h, length-replicate {A = ℕ} n 0))

-- numbers of links: nothing more, as much said otherwise, one after the other
pub more-none : (old : List ℕ) → length old ≡ most_links → More (λ e. 0) old old
more-none old l = record { long = l; is = λ e h. omega arith }

pub more_same : (f g : ℕ → ℕ) (old new : List ℕ) → ((e : ℕ) → f e ≡ g e) → More f old new → More g old new
more_same f g old new same p = record { long = p.long; is = λ e h. omega (arith, p.is e h, same e) }

pub more-then : (f g : ℕ → ℕ) (old mid new : List ℕ) → More f old mid → More g mid new → More (λ e. f e + g e) old new
more-then f g old mid new p q = record { long = q.long; is = λ e h. omega (arith, p.is e h, q.is e h) }

pub may-then : (f g : ℕ → ℕ) (old mid : List ℕ) → MayMore (λ e. f e + g e) old → More f old mid → MayMore g mid
may-then f g old mid may p = record { long = p.long; few = λ e h. omega (arith, may.few e h, p.is e h) }

pub may-first : (f g : ℕ → ℕ) (old : List ℕ) → MayMore (λ e. f e + g e) old → MayMore f old
may-first f g old may = record { long = may.long; few = λ e h. omega (arith, may.few e h) }

pub may-same : (f g : ℕ → ℕ) (old : List ℕ) → ((e : ℕ) → f e ≡ g e) → MayMore f old → MayMore g old
may-same f g old same may = record { long = may.long; few = λ e h. omega (arith, may.few e h, same e) }

-- a loop over the links, at link e
pub record Passing (more : ℕ → ℕ) (old new : List ℕ) (e : ℕ) : Type 0 where
  pub long : length new ≡ most_links
  pub is : (d : ℕ) → d < e → get_or new d 0 ≡ get_or old d 0 + more d
  pub rest : (d : ℕ) → e ≤ d → get_or new d 0 ≡ get_or old d 0
