-- What a test that is a conjunction, a disjunction or a negation says of its parts.
use mathlib.Core.Path.{◌≡◌, refl}
use mathlib.Core.Bool.{Bool, true, false, not, ◌&&◌, ◌||◌, true≢false, false≢true}

pub or_left : (x y : Bool) → (x || y) ≡ false → x ≡ false
or_left true y h = absurd (true≢false h)
or_left false y h = refl

pub or_right : (x y : Bool) → (x || y) ≡ false → y ≡ false
or_right true y h = absurd (true≢false h)
or_right false y h = h

pub and_left : (x y : Bool) → (x && y) ≡ true → x ≡ true
and_left true y h = refl
and_left false y h = h

pub and_right : (x y : Bool) → (x && y) ≡ true → y ≡ true
and_right true y h = h
and_right false y h = absurd (false≢true h)

pub not-true : (x : Bool) → not x ≡ true → x ≡ false
not-true true h = absurd (false≢true h)
not-true false h = refl

pub not-false : (x : Bool) → not x ≡ false → x ≡ true
not-false true h = refl
not-false false h = absurd (true≢false h)

-- none of five holds
pub none_of_five : (a b c d e : Bool) → (a || b || c || d || e) ≡ false → (a ≡ false) × (b ≡ false) × (c ≡ false) × (d ≡ false) × (e ≡ false)
none_of_five true b c d e h = absurd (true≢false h)
none_of_five false true c d e h = absurd (true≢false h)
none_of_five false false true d e h = absurd (true≢false h)
none_of_five false false false true e h = absurd (true≢false h)
none_of_five false false false false e h = (refl, refl, refl, refl, h)

-- nor of six
pub none_of_six : (a b c d e f : Bool) → (a || b || c || d || e || f) ≡ false →
    (a ≡ false) × (b ≡ false) × (c ≡ false) × (d ≡ false) × (e ≡ false) × (f ≡ false)
none_of_six a b c d e f h =
    let r = none_of_five a b c d e (or_left (a || b || c || d || e) f h) in
    (r.0, r.1, r.2, r.3, r.4, or_right (a || b || c || d || e) f h)
