-- "Less than" on floats: irreflexive, asymmetric and transitive, of NaNs too; and what is not less goes on through every float but a NaN. So without NaNs it is a strict weak order.
-- Assumes nothing.
use Prim.Native.Nat.{ℕ, ◌+◌, ◌*◌, ◌<◌}
use mathlib.Core.Path.{◌≡◌, refl, sym}
use mathlib.Core.Logic.{⊎_elim}
use mathlib.Core.Bool.{Bool, true, false}
use native.Mathlib.Nat.{mul-pos, eq-zero-or-pos}
use native.Mathlib.Omega.{arith}
use borrow.Author.Tests.{le-ltb, ltb-true, ltb-false}
use lib.Dec.{ltb}
use lib.Ieee.{Float, nan, inf, fin, up, down, below, lt, is_nan}
use lib.Ieee.Fits.{down_pos}
use lib.Ieee.Positive.{through}
use Rattle.lists.proofs.Cases.{true_or_false}

-- ---- irreflexive

ltb_same : (a : ℕ) → ltb a a ≡ false
ltb_same a = le-ltb a a (omega arith)

pub lt_same : (x : Float) → lt x x ≡ false
unfolding lt
lt_same nan = refl
lt_same (inf true) = refl
lt_same (inf false) = refl
lt_same (fin true m e) = ltb_same (m * up e * down e)
lt_same (fin false m e) = ltb_same (m * up e * down e)

-- ---- asymmetric

below_after : (s t : Bool) (a b : ℕ) → below s a t b ≡ true → below t b s a ≡ false
below_after false false a b h = le-ltb b a (omega (arith, ltb-true a b h))
below_after false true a b h = cc
below_after true false a b h = refl
below_after true true a b h = le-ltb a b (omega (arith, ltb-true b a h))

pub lt_after : (x y : Float) → lt x y ≡ true → lt y x ≡ false
unfolding lt
lt_after nan y h = cc
lt_after (inf s) nan h = refl
lt_after (inf true) (inf true) h = refl
lt_after (inf true) (inf false) h = refl
lt_after (inf false) (inf t) h = cc
lt_after (inf true) (fin t n d) h = refl
lt_after (inf false) (fin t n d) h = cc
lt_after (fin s m e) nan h = refl
lt_after (fin s m e) (inf true) h = cc
lt_after (fin s m e) (inf false) h = refl
lt_after (fin s m e) (fin t n d) h = below_after s t (m * up e * down d) (n * up d * down e) h

-- ---- what is not less goes on

-- a numerator of 0 under another denominator
nil : (a c d : ℕ) → 0 < c → a * c ≡ 0 → a * d ≡ 0
nil a c d C e = ⊎_elim (λ z. rw z (omega arith)) (λ p. absurd (omega (arith, mul-pos p C))) (eq-zero-or-pos a)

-- of the fractions a / c, b / d and k / l, with signs
below_on : (s t u : Bool) (a b k c d l : ℕ) → 0 < c → 0 < d → 0 < l → below s (a * d) t (b * c) ≡ false → below t (b * l) u (k * d) ≡ false → below s (a * l) u (k * c) ≡ false
below_on false false false a b k c d l C D L g h =
    le-ltb (a * l) (k * c) (through k b a l d c D (ltb-false (b * l) (k * d) h) (ltb-false (a * d) (b * c) g))
below_on false true false a b k c d l C D L g h =
    let z = ltb-false 0 (b * l + k * d) h in
    le-ltb (a * l) (k * c) (omega (arith, nil k d c D (omega arith)))
below_on false t true a b k c d l C D L g h = refl
below_on true false false a b k c d l C D L g h =
    let z = ltb-false 0 (a * d + b * c) g in
    let y = ltb-false (b * l) (k * d) h in
    let b0 = nil b c l C (omega arith) in
    le-ltb 0 (a * l + k * c) (omega (arith, nil a d l D (omega arith), nil k d c D (omega arith)))
below_on true true false a b k c d l C D L g h =
    let z = ltb-false 0 (b * l + k * d) h in
    let y = ltb-false (b * c) (a * d) g in
    let b0 = nil b l c L (omega arith) in
    le-ltb 0 (a * l + k * c) (omega (arith, nil a d l D (omega arith), nil k d c D (omega arith)))
below_on true false true a b k c d l C D L g h =
    let z = ltb-false 0 (a * d + b * c) g in
    le-ltb (k * c) (a * l) (omega (arith, nil a d l D (omega arith)))
below_on true true true a b k c d l C D L g h =
    le-ltb (k * c) (a * l) (through a b k c d l D (ltb-false (b * c) (a * d) g) (ltb-false (k * d) (b * l) h))

pub not_lt_on : (x y z : Float) → is_nan y ≡ false → lt x y ≡ false → lt y z ≡ false → lt x z ≡ false
unfolding lt is_nan
not_lt_on nan y z n g h = refl
not_lt_on (inf true) nan z n g h = cc
not_lt_on (inf true) (inf true) z n g h = h
not_lt_on (inf true) (inf false) z n g h = cc
not_lt_on (inf true) (fin t b d) z n g h = cc
not_lt_on (inf false) y nan n g h = refl
not_lt_on (inf false) y (inf u) n g h = refl
not_lt_on (inf false) y (fin u k l) n g h = refl
not_lt_on (fin s a c) y nan n g h = refl
not_lt_on (fin s a c) y (inf true) n g h = refl
not_lt_on (fin s a c) nan (inf false) n g h = n
not_lt_on (fin s a c) (inf true) (inf false) n g h = h
not_lt_on (fin s a c) (inf false) (inf false) n g h = g
not_lt_on (fin s a c) (fin t b d) (inf false) n g h = h
not_lt_on (fin s a c) nan (fin u k l) n g h = cc
not_lt_on (fin s a c) (inf true) (fin u k l) n g h = cc
not_lt_on (fin s a c) (inf false) (fin u k l) n g h = cc
not_lt_on (fin s a c) (fin t b d) (fin u k l) n g h =
    below_on s t u (a * up c) (b * up d) (k * up l) (down c) (down d) (down l) (down_pos c) (down_pos d) (down_pos l) g h

-- ---- transitive

less_number : (x y : Float) → lt x y ≡ true → is_nan y ≡ false
unfolding lt is_nan
less_number nan nan h = cc
less_number (inf s) nan h = sym h
less_number (fin s m e) nan h = sym h
less_number x (inf t) h = refl
less_number x (fin t n d) h = refl

pub lt_on : (x y z : Float) → lt x y ≡ true → lt y z ≡ true → lt x z ≡ true
lt_on x y z g h =
    ⊎_elim (λ t. t) (λ f. let q = not_lt_on x z y (less_number y z h) f (lt_after y z h) in cc) (true_or_false (lt x z))
