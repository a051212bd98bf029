-- A symbol that is known to be 0 is decided to be 0, whatever finite messages its vector is multiplied by; zeros may have either sign.
-- Assumes nothing.
use Prim.Native.Nat.{ℕ, zero, suc, ◌*◌, ◌<◌}
use mathlib.Core.Path.{◌≡◌, refl, sym, ap, ◌∙◌}
use mathlib.Core.Bool.{Bool, true, false, true≢false, ◌||◌, beq}
use native.Mathlib.Omega.{arith}
use native.Mathlib.Nat.{mul-pos}
use borrow.Author.Tests.{le-ltb, eqb-true}
use lib.Dec.{T, eqb}
use lib.ListN.{length, get_or-replicate}
use lib.Ieee.{Float, nan, inf, fin, binary32, up, down, mul, div, eq, lt, round, of_bits}
use lib.Ieee.Fits.{up_pos, down_pos}
use lib.Ieee.Scale.{round_same}
use Rattle.lists.specs.Choice.{pick}
use Rattle.lists.proofs.Cases.{both}
use Rattle.lists.proofs.Choice.{pick-false}
use Rattle.lists.proofs.Iter.{iter_keeps}
use Rattle.vectors.specs.Float32.{one32, uniform32, zero32}
use Rattle.vectors.specs.Vector.{Vector, at, entry_product}
use Rattle.vectors.specs.Normalized.{entry_sum, scaled, normalized}
use Rattle.vectors.specs.Decision.{decision}
use Rattle.vectors.specs.Fine.{unsigned, fine, Fine}
use Rattle.vectors.specs.KnownZero.{known_zero, KnownInValue}
use Rattle.vectors.proofs.FineFloats.{mul-unsigned, factor_fine}
use Rattle.vectors.proofs.FloatOrder.{lt_same}
use Rattle.vectors.proofs.FineVectors.{product_at, scaled_at, uniform_at, normalized_either}

-- +0 or -0
abbrev pub null : Float → Bool
null nan = false
null (inf s) = false
null (fin s zero e) = true
null (fin s (suc m) e) = false

-- nothing but zeros past index 0, where there is nothing negative
pub record Known (p : Vector) : Type 0 where
  pub first : T (unsigned (at p 0))
  pub rest : (x : ℕ) → 0 < x → x < 32 → T (null (at p x))

-- ---- which vectors are so

zero-at : (x : ℕ) → 0 < x → x < 32 → at known_zero x ≡ zero32
zero-at zero h l = absurd (omega arith)
zero-at (suc x) h l = get_or-replicate 31 x zero32 nan (omega arith)

-- what is equal in value to 1, and to 0
one_unsigned : (x : Float) → eq x one32 ≡ true → T (unsigned x)
unfolding eq of_bits
one_unsigned nan q = tt
one_unsigned (inf s) q = absurd (true≢false (sym q))
one_unsigned (fin false m e) q = tt
one_unsigned (fin true m e) q =
    let w = both (eqb (m * up e * 1) (1 * 1 * down e)) (eqb (m * up e * 1) 0) q in
    let a = eqb-true (m * up e * 1) (1 * 1 * down e) w.0 in
    let b = eqb-true (m * up e * 1) 0 w.1 in
    absurd (omega (arith, a, b, down_pos e))

zero_null : (x : Float) → eq x zero32 ≡ true → T (null x)
unfolding eq of_bits
zero_null nan q = absurd (true≢false (sym q))
zero_null (inf s) q = absurd (true≢false (sym q))
zero_null (fin s zero e) q = tt
zero_null (fin s (suc m) e) q =
    let w = both (eqb (suc m * up e * 1) (0 * 1 * down e)) (beq s false || eqb (suc m * up e * 1) 0) q in
    let a = eqb-true (suc m * up e * 1) (0 * 1 * down e) w.0 in
    let b : 0 < suc m * up e = mul-pos (omega arith) (up_pos e) in
    absurd (omega (arith, a, b))

pub in_value_known : (p : Vector) → KnownInValue p → Known p
in_value_known p e = record {
  first = one_unsigned (at p 0) (e 0 (omega arith));
  rest = λ x h l. zero_null (at p x) (ap (eq (at p x)) (sym (zero-at x h l)) ∙ e x l);
}

pub known_in_value : KnownInValue known_zero
unfolding eq of_bits
known_in_value zero l = refl
known_in_value (suc x) l = rw (zero-at (suc x) (omega arith) l) refl

pub known_zero_fine : Fine known_zero
unfolding of_bits
known_zero_fine zero l = tt
known_zero_fine (suc x) l = rw (zero-at (suc x) (omega arith) l) tt

pub known_zero-length : length known_zero ≡ 32
known_zero-length = refl

-- ---- products

round-null : (s : Bool) (a c : ℕ) → a ≡ 0 → 0 < c → T (null (round binary32 s a c))
round-null s a c z h = rw (round_same binary32 s a c 0 1 h (omega arith) (omega arith)) (nil s)
  where
    nil : (s : Bool) → T (null (round binary32 s 0 1))
    nil true = unfold round in tt
    nil false = unfold round in tt

mul-null : (x y : Float) → T (null x) → T (fine y) → T (null (mul binary32 x y))
unfolding mul
mul-null nan y p f = absurd p
mul-null (inf s) y p f = absurd p
mul-null (fin s m e) nan p f = absurd f
mul-null (fin s m e) (inf t) p f = absurd f
mul-null (fin s zero e) (fin t n d) p f = round-null _ (0 * up e * (n * up d)) (down e * down d) (omega arith) (mul-pos (down_pos e) (down_pos d))
mul-null (fin s (suc m) e) (fin t n d) p f = absurd p

pub known_product : (p q : Vector) → Known p → Fine q → Known (entry_product p q)
known_product p q c f = record {
  first = rw (product_at p q 0 (omega arith)) (mul-unsigned (at p 0) (at q 0) c.first (f 0 (omega arith)));
  rest = λ x h l. rw (product_at p q x l) (mul-null (at p x) (at q x) (c.rest x h l) (f x l));
}

-- ---- the decision

lt-null : (x y : Float) → T (unsigned x) → T (null y) → lt x y ≡ false
unfolding lt
lt-null nan y p q = refl
lt-null (inf true) y p q = absurd p
lt-null (inf false) nan p q = refl
lt-null (inf false) (inf t) p q = absurd q
lt-null (inf false) (fin t n d) p q = refl
lt-null (fin true m e) y p q = absurd p
lt-null (fin false m e) nan p q = refl
lt-null (fin false m e) (inf t) p q = absurd q
lt-null (fin false m e) (fin true n d) p q = refl
lt-null (fin false m e) (fin false zero d) p q = le-ltb (m * up e * down d) (0 * up d * down e) (omega arith)
lt-null (fin false m e) (fin false (suc n) d) p q = absurd q

-- no entry is above the first
abbrev FirstBest : Vector → Type 0
FirstBest q = (x : ℕ) → x < 32 → lt (at q 0) (at q x) ≡ false

first_decided : (q : Vector) → FirstBest q → decision q ≡ 0
unfolding decision
first_decided q h =
    iter_keeps (λ _ (b : ℕ). b ≡ 0) 32 (λ x b. pick (lt (at q b) (at q x)) x b) 0 refl
    (λ x l b e. rw e (pick-false (lt (at q 0) (at q x)) x 0 (h x l)))

scaled_best : (p : Vector) (k : Float) → Known p → T (fine k) → FirstBest (scaled p k)
scaled_best p k c f zero l = lt_same (at (scaled p k) 0)
scaled_best p k c f (suc x) l =
    rw (scaled_at p k 0 (omega arith), scaled_at p k (suc x) l)
    (lt-null (mul binary32 (at p 0) k) (mul binary32 (at p (suc x)) k) (mul-unsigned (at p 0) k c.first f) (mul-null (at p (suc x)) k (c.rest (suc x) (omega arith) l) f))

pub known_decision : (p : Vector) → Known p → decision (normalized p) ≡ 0
known_decision p c =
    first_decided (normalized p)
    (normalized_either FirstBest p
    (λ f h. scaled_best p (div binary32 one32 (entry_sum p)) c (factor_fine (entry_sum p) f h))
    (λ x l. rw (uniform_at 0 (omega arith), uniform_at x l) (lt_same uniform32)))
