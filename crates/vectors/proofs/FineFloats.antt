-- What sums, quotients and products give of floats that are not negative; and that a term of a sum times 1 / the sum is finite.
-- Assumes nothing.
use Prim.Native.Nat.{ℕ, zero, suc, ◌+◌, ◌*◌, ◌^◌, ◌≤◌, ◌<◌}
use mathlib.Core.Path.{◌≡◌, refl, subst}
use mathlib.Core.Logic.{⊎_elim}
use mathlib.Core.Bool.{Bool, true, false, cond, ◌&&◌, ◌||◌}
use native.Mathlib.Omega.{arith}
use native.Mathlib.Nat.{add_comm, mul_comm, mul_assoc, mul_left_comm, mul_right_comm, mul-one, one-mul, mul-pos, eq-or-lt_of_le, le_of_lt, le_of_eq, lt_of_le_of_lt, lt_of_not-le, le_of_suc-le-suc, not-suc-le-zero, mul-le-mul, mul-le-mul_left, mul-le-mul_right, mul-lt-mul_of_pos_right, lt_of_mul-lt-mul_right}
use lib.Dec.{T, eqb, eqb→eq, eqb-suc-zero, ltb, ltb→lt}
use lib.IntN.{ℤ}
use lib.Ieee.{Float, nan, inf, fin, binary32, up, down, units, odd, round, add, mul, div, lt, le, is_nan, of_bits, low}
use lib.Ieee.Fits.{round_is}
use lib.Ieee.Order.{round_mono}
use lib.Ieee.Scale.{finite}
use lib.Ieee.Positive.{first_pos, num, den, den_pos}
use Rattle.lists.proofs.Cases.{less_or_not, either, holds, is_true, and_parts}
use Rattle.lists.proofs.Iter.{iter_keeps}
use Rattle.vectors.specs.Float32.{zero32, one32, tiny32, greatest32}
use Rattle.vectors.specs.Vector.{Vector, at}
use Rattle.vectors.specs.Normalized.{entry_sum}
use Rattle.vectors.specs.Fine.{unsigned, nonneg, fine, Unsigned}

pub nonneg-unsigned : (x : Float) → T (nonneg x) → T (unsigned x)
nonneg-unsigned nan p = tt
nonneg-unsigned (inf s) p = p
nonneg-unsigned (fin s m e) p = p

pub fine-nonneg : (x : Float) → T (fine x) → T (nonneg x)
fine-nonneg nan p = p
fine-nonneg (inf s) p = absurd p
fine-nonneg (fin s m e) p = p

pub finite-fine : (x : Float) → T (finite x) → T (nonneg x) → T (fine x)
finite-fine nan f p = absurd f
finite-fine (inf s) f p = absurd f
finite-fine (fin s m e) f p = p

pub nonneg_number : (x : Float) → T (nonneg x) → is_nan x ≡ false
unfolding is_nan
nonneg_number nan p = absurd p
nonneg_number (inf s) p = refl
nonneg_number (fin s m e) p = refl

pub le-fine : (x y : Float) → T (unsigned x) → T (fine y) → T (le x y) → T (fine x)
unfolding le
le-fine nan y p q h = h
le-fine (inf true) y p q h = absurd p
le-fine (inf false) nan p q h = absurd q
le-fine (inf false) (inf t) p q h = absurd q
le-fine (inf false) (fin t n d) p q h = absurd h
le-fine (fin s m e) y p q h = p

-- ---- a fraction, rounded

abbrev rounded : ℕ → ℕ → Float
rounded a c = round binary32 false a c

odd-nonneg : (d q k l : ℕ) → T (nonneg (odd d false q k l))
unfolding odd
odd-nonneg d zero k l = tt
odd-nonneg d (suc q) k l = tt

units-nonneg : (q k : ℕ) → T (nonneg (units binary32 false q k))
unfolding units
units-nonneg q k = go (ltb (q * 2 ^ k) (2 ^ (low binary32 + 128)))
  where
    go : (b : Bool) → T (nonneg (cond b (odd 25 false q k (low binary32)) (inf false)))
    go true = odd-nonneg 25 q k (low binary32)
    go false = tt

rounded-nonneg : (a c : ℕ) → T (nonneg (rounded a c))
rounded-nonneg a c = rw round_is (units-nonneg _ _)

rounded-unsigned : (a c : ℕ) → T (unsigned (rounded a c))
rounded-unsigned a c = nonneg-unsigned (rounded a c) (rounded-nonneg a c)

-- a smaller fraction stays finite
rounded-fine : (a c b d : ℕ) → 0 < c → 0 < d → a * d ≤ b * c → T (fine (rounded b d)) → T (fine (rounded a c))
rounded-fine a c b d C D h f = le-fine (rounded a c) (rounded b d) (rounded-unsigned a c) f (round_mono binary32 a c b d C D h)

-- ---- floats that are finite and not negative: the fraction num / den

by_fine : (P : Float → Type 0) → ((m : ℕ) (e : ℤ) → P (fin false m e)) → (x : Float) → T (fine x) → P x
by_fine P f nan p = absurd p
by_fine P f (inf s) p = absurd p
by_fine P f (fin true m e) p = absurd p
by_fine P f (fin false m e) p = f m e

by_fine2 : (P : Float → Float → Type 0) → ((m : ℕ) (e : ℤ) (n : ℕ) (d : ℤ) → P (fin false m e) (fin false n d))
    → (x y : Float) → T (fine x) → T (fine y) → P x y
by_fine2 P f x y p q = by_fine (λ z. P z y) (λ m e. by_fine (P (fin false m e)) (f m e) y q) x p

add_is : (x y : Float) → T (fine x) → T (fine y) → add binary32 x y ≡ rounded (num x * den y + num y * den x) (den x * den y)
unfolding add
add_is = by_fine2 (λ x y. add binary32 x y ≡ rounded (num x * den y + num y * den x) (den x * den y)) (λ m e n d. refl)

pub mul_is : (x y : Float) → T (fine x) → T (fine y) → mul binary32 x y ≡ round binary32 false (num x * num y) (den x * den y)
unfolding mul
mul_is = by_fine2 (λ x y. mul binary32 x y ≡ rounded (num x * num y) (den x * den y)) (λ m e n d. refl)

le_from : (a b : ℕ) → T (ltb a b || (eqb a b && true)) → a ≤ b
le_from a b h =
    ⊎_elim
    (λ e. le_of_lt (ltb→lt a b (is_true (ltb a b) e)))
    (λ e. le_of_eq (eqb→eq a b (and_parts (eqb a b) true (is_true (eqb a b && true) e)).0))
    (either (ltb a b) (eqb a b && true) (holds (ltb a b || (eqb a b && true)) h))

le_cross : (x y : Float) → T (fine x) → T (fine y) → T (le x y) → num x * den y ≤ num y * den x
unfolding le
le_cross = by_fine2 (λ x y. T (le x y) → num x * den y ≤ num y * den x) (λ m e n d h. le_from (m * up e * down d) (n * up d * down e) h)

-- a whole number that is a float
abbrev Whole : ℕ → Type 0
Whole b = T (fine (rounded b 1)) × (num (rounded b 1) ≡ b) × (den (rounded b 1) ≡ 1)

one_whole : Whole 1
unfolding round
one_whole = (tt, refl, refl)

big_whole : Whole (2 ^ 100)
unfolding round
big_whole = (tt, refl, refl)

-- what rounds to less than 1 is less than 1
under_one : (a c : ℕ) → 0 < c → T (fine (rounded a c)) → num (rounded a c) < den (rounded a c) → a < c
under_one a c C f h = lt_of_not-le wrong
  where
    wrong : c ≤ a → ⊥
    wrong k =
        let r = le_cross (rounded 1 1) (rounded a c) one_whole.0 f (round_mono binary32 1 1 a c (omega arith) C (omega arith)) in
        omega (arith, rw (one_whole.1, one_whole.2) at r)

-- ---- a sum and its terms

fine-add : (x y : Float) → T (fine x) → T (fine y) → T (unsigned (add binary32 x y))
fine-add x y p q = rw (add_is x y p q) (rounded-unsigned _ _)

pub add-unsigned : (x y : Float) → T (unsigned x) → T (unsigned y) → T (unsigned (add binary32 x y))
unfolding add
add-unsigned nan y p q = tt
add-unsigned (inf true) y p q = absurd p
add-unsigned (inf false) nan p q = tt
add-unsigned (inf false) (inf true) p q = absurd q
add-unsigned (inf false) (inf false) p q = tt
add-unsigned (inf false) (fin t n d) p q = tt
add-unsigned (fin s m e) nan p q = tt
add-unsigned (fin s m e) (inf t) p q = q
add-unsigned (fin s m e) (fin t n d) p q = fine-add (fin s m e) (fin t n d) p q

-- of a sum that is finite both terms are
add-fine : (x y : Float) → T (unsigned x) → T (unsigned y) → T (fine (add binary32 x y)) → T (fine x) × T (fine y)
unfolding add
add-fine nan y p q h = absurd h
add-fine (inf true) y p q h = absurd p
add-fine (inf false) nan p q h = absurd h
add-fine (inf false) (inf true) p q h = absurd q
add-fine (inf false) (inf false) p q h = absurd h
add-fine (inf false) (fin t n d) p q h = absurd h
add-fine (fin s m e) nan p q h = absurd h
add-fine (fin s m e) (inf t) p q h = absurd h
add-fine (fin s m e) (fin t n d) p q h = (p, q)

-- what is known of a term x of a sum s: if s is finite, so is x, as it stands and rounded; and if s is below 1, so is x
abbrev pub Term : Float → Float → Type 0
Term x s = T (fine s) → T (fine x) × T (fine (round binary32 false (num x) (den x))) × (num s < den s → num x < den x)

term_trans : (x s t : Float) → Term x s → Term s t → Term x t
term_trans x s t p q h =
    let k = q h in
    let r = p k.0 in
    (r.0, r.1, λ l. r.2 (k.2 l))

-- a / c is at most a / c + b / d; and below 1 where something that is not less is
share : (a c b d : ℕ) → a * (c * d) ≤ (a * d + b * c) * c
share a c b d = rw (mul_comm c d, ← mul_assoc) (mul-le-mul_right c (omega arith))

below : (a c n d : ℕ) → 0 < c → a * d ≤ n * c → n < d → a < c
below a c n d C h l = lt_of_mul-lt-mul_right d (lt_of_le_of_lt h (rw (mul_comm c d) (mul-lt-mul_of_pos_right l C)))

-- what is at most a fraction is a term of the fraction rounded
term_of : (x s : Float) (n d : ℕ) → T (fine x) → 0 < d → s ≡ rounded n d → num x * d ≤ n * den x → Term x s
term_of x s n d f D e h = rw e (λ g. (
  f,
  rounded-fine (num x) (den x) n d (den_pos x) D h g,
  λ l. below (num x) (den x) n d (den_pos x) h (under_one n d D g l),
))

term_first : (x y : Float) → T (fine x) → T (fine y) → Term x (add binary32 x y)
term_first x y p q =
    term_of x (add binary32 x y) (num x * den y + num y * den x) (den x * den y) p (mul-pos (den_pos x) (den_pos y)) (add_is x y p q)
    (share (num x) (den x) (num y) (den y))

swapped : (x y : Float) → T (fine x) → T (fine y) → add binary32 x y ≡ add binary32 y x
swapped x y p q = rw (add_is x y p q, add_is y x q p, add_comm (num x * den y), mul_comm (den x))

-- both terms of a sum of two
terms : (x y : Float) → T (unsigned x) → T (unsigned y) → Term x (add binary32 x y) × Term y (add binary32 x y)
terms x y p q = (
  λ h. let k = add-fine x y p q h in term_first x y k.0 k.1 h,
  λ h. let k = add-fine x y p q h in subst (Term y) (swapped y x k.1 k.0) (term_first y x k.1 k.0) h,
)

-- a sum of the first n entries of a vector
abbrev Terms : Vector → ℕ → Float → Type 0
Terms p n s = T (unsigned s) × ((x : ℕ) → x < n → Term (at p x) s)

terms_on : (p : Vector) (n : ℕ) (s : Float) → T (unsigned (at p n)) → Terms p n s → Terms p (suc n) (add binary32 s (at p n))
terms_on p n s u r =
    let t = terms s (at p n) r.0 u in (
      add-unsigned s (at p n) r.0 u,
      λ x l.
          ⊎_elim (λ e. rw e t.1) (λ g. term_trans (at p x) s (add binary32 s (at p n)) (r.1 x g) t.0) (eq-or-lt_of_le (le_of_suc-le-suc l)),
    )

pub sum_terms : (p : Vector) → Unsigned p → (x : ℕ) → x < 32 → Term (at p x) (entry_sum p)
unfolding entry_sum
sum_terms p u =
    (iter_keeps (Terms p) 32 (λ x s. add binary32 s (at p x)) zero32 (unfold of_bits in tt, λ x l. absurd (not-suc-le-zero l))
    (λ n l s r. terms_on p n s (u n l) r)).1

-- ---- the factor 1 / s

pub above_nonneg : (s : Float) → T (lt tiny32 s) → T (nonneg s)
unfolding lt of_bits
above_nonneg nan h = h
above_nonneg (inf s) h = h
above_nonneg (fin true m e) h = h
above_nonneg (fin false m e) h = tt

-- a sum that is above 1e-30 and not above the greatest f32 is finite
pub tested_fine : (s : Float) → T (lt tiny32 s) → T (le s greatest32) → T (fine s)
tested_fine s h l = le-fine s greatest32 (nonneg-unsigned s (above_nonneg s h)) (unfold of_bits in tt) l

-- 1e-30 is above 2 ^ -100
pub tiny_below : (s : Float) → T (fine s) → T (lt tiny32 s) → (0 < num s) × (den s ≤ 2 ^ 100 * num s)
unfolding lt of_bits
tiny_below =
    by_fine (λ s. T (lt tiny32 s) → (0 < num s) × (den s ≤ 2 ^ 100 * num s))
    (λ m e h. go (m * up e) (down e) (ltb→lt (332307 * down e) (m * up e * 2 ^ 118) h))
  where
    -- 1e-30 is 332307 / 2 ^ 118; omega takes 2 ^ 18 of that
    positive : (c b : ℕ) → 332307 * c < b * 2 ^ 18 → (0 < b) × (c ≤ b)
    positive c b h = (omega arith, omega arith)

    go : (a c : ℕ) → 332307 * c < a * 2 ^ 118 → (0 < a) × (c ≤ 2 ^ 100 * a)
    go a c h =
        let k = positive c (a * 2 ^ 100) (rw mul_assoc h) in
        (first_pos a (2 ^ 100) k.0, rw mul_comm k.1)

quotient_is : (x y : Float) → T (fine x) → T (fine y) → 0 < num y → div binary32 x y ≡ rounded (num x * den y) (num y * den x)
unfolding div
quotient_is = by_fine2 (λ x y. 0 < num y → div binary32 x y ≡ rounded (num x * den y) (num y * den x)) go
  where
    go : (m : ℕ) (e : ℤ) (n : ℕ) (d : ℤ) → 0 < n * up d → div binary32 (fin false m e) (fin false n d) ≡ rounded (m * up e * down d) (n * up d * down e)
    go m e zero d h = absurd (omega arith)
    go m e (suc n) d h = rw eqb-suc-zero

pub quotient_nonneg : (x y : Float) → T (fine x) → T (fine y) → 0 < num y → T (nonneg (div binary32 x y))
quotient_nonneg x y p q h = rw (quotient_is x y p q h) (rounded-nonneg _ _)

div_is : (s : Float) → T (fine s) → 0 < num s → div binary32 one32 s ≡ rounded (den s) (num s)
unfolding of_bits
div_is s f h = rw (quotient_is one32 s tt f h, one-mul (den s), mul-one (num s))

-- a factor of at most b
factor_most : (s : Float) → T (fine s) → 0 < num s → (b : ℕ) → Whole b → den s ≤ b * num s
    → T (fine (div binary32 one32 s)) × (num (div binary32 one32 s) ≤ b * den (div binary32 one32 s))
factor_most s f p b w h =
    rw (div_is s f p)
    (let k : den s * 1 ≤ b * num s = omega arith in
    let g = rounded-fine (den s) (num s) b 1 p (omega arith) k w.0 in
    let r = le_cross (rounded (den s) (num s)) (rounded b 1) g w.0 (round_mono binary32 (den s) (num s) b 1 p (omega arith) k) in
    (g, omega (arith, rw (w.1, w.2) at r)))

-- the factor of a sum that passed the test
pub factor_fine : (s : Float) → T (fine s) → T (lt tiny32 s) → T (fine (div binary32 one32 s))
factor_fine s f h =
    let k = tiny_below s f h in
    (factor_most s f k.0 (2 ^ 100) big_whole k.1).0

-- ---- products

fine-mul : (x y : Float) → T (fine x) → T (fine y) → T (unsigned (mul binary32 x y))
fine-mul x y p q = rw (mul_is x y p q) (rounded-unsigned _ _)

pub mul-unsigned : (x y : Float) → T (unsigned x) → T (fine y) → T (unsigned (mul binary32 x y))
unfolding mul
mul-unsigned nan y p q = tt
mul-unsigned (inf true) y p q = absurd p
mul-unsigned (inf false) nan p q = absurd q
mul-unsigned (inf false) (inf t) p q = absurd q
mul-unsigned (inf false) (fin true n d) p q = absurd q
mul-unsigned (inf false) (fin false n d) p q = go (eqb n 0)
  where
    go : (b : Bool) → T (unsigned (cond b nan (inf false)))
    go true = tt
    go false = tt
mul-unsigned (fin s m e) y p q = fine-mul (fin s m e) y p q

square_is : (s : Bool) (m : ℕ) (e : ℤ) → mul binary32 (fin s m e) (fin s m e) ≡ rounded (m * up e * (m * up e)) (down e * down e)
unfolding mul
square_is true m e = refl
square_is false m e = refl

pub square_unsigned : (x : Float) → T (unsigned (mul binary32 x x))
square_unsigned nan = unfold mul in tt
square_unsigned (inf true) = unfold mul in tt
square_unsigned (inf false) = unfold mul in tt
square_unsigned (fin s m e) = rw (square_is s m e) (rounded-unsigned _ _)

-- a product of at most b / d
mul_most : (x y : Float) → T (fine x) → T (fine y) → (b d : ℕ) → 0 < d → num x * num y * d ≤ b * (den x * den y) → T (fine (rounded b d))
    → T (fine (mul binary32 x y))
mul_most x y p q b d D h f = rw (mul_is x y p q) (rounded-fine (num x * num y) (den x * den y) b d (mul-pos (den_pos x) (den_pos y)) D h f)

-- a / c times a factor k / l: of at most 1; of at most b, where a / c is at most 1
shrinks : (a c k l : ℕ) → k ≤ l → a * k * c ≤ a * (c * l)
shrinks a c k l h = rw (mul_right_comm a k c, ← mul_assoc) (mul-le-mul_left (a * c) h)

bounded : (a c k l b : ℕ) → a ≤ c → k ≤ b * l → a * k * 1 ≤ b * (c * l)
bounded a c k l b g h = rw (mul-one, mul_left_comm b c l) (mul-le-mul g h)

-- a term of a sum times 1 / the sum: from 1 on the factor is at most 1, and below 1 the term is below 1 and the factor at most 2 ^ 100
pub scaled_fine : (x s : Float) → Term x s → T (fine s) → T (lt tiny32 s) → T (fine (mul binary32 x (div binary32 one32 s)))
scaled_fine x s t f h =
    let k = div binary32 one32 s in
    let r = t f in
    let p = tiny_below s f h in
    ⊎_elim
    (λ l.
    let g = factor_most s f p.0 (2 ^ 100) big_whole p.1 in
    mul_most x k r.0 g.0 (2 ^ 100) 1 (omega arith)
    (bounded (num x) (den x) (num k) (den k) (2 ^ 100) (le_of_lt (r.2 l)) g.1) big_whole.0)
    (λ l.
    let g = factor_most s f p.0 1 one_whole (omega arith) in
    mul_most x k r.0 g.0 (num x) (den x) (den_pos x) (shrinks (num x) (den x) (num k) (den k) (omega (arith, g.1))) r.1)
    (less_or_not (num s) (den s))
