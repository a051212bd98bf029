-- What `normalized` gives is finite and not negative where no entry is negative, NaNs and infinities allowed; and which vectors are so.
-- Assumes nothing.
use Prim.Native.Nat.{ℕ, ◌<◌}
use mathlib.Core.Path.{◌≡◌}
use mathlib.Core.Bool.{◌&&◌}
use native.Mathlib.Omega.{arith}
use lib.Dec.{T}
use lib.ListN.{replicate, get_or-replicate}
use lib.Ieee.{Float, nan, binary32, mul, div, lt, le, of_bits}
use Rattle.lists.specs.Choice.{pick}
use Rattle.lists.proofs.Choice.{pick_either}
use Rattle.lists.proofs.Cases.{and_parts}
use Rattle.lists.proofs.Iter.{iter_keeps}
use Rattle.lists.proofs.Values.{values_at}
use Rattle.field.specs.Field.{product}
use Rattle.vectors.specs.Float32.{one32, uniform32, tiny32, greatest32}
use Rattle.vectors.specs.Vector.{Vector, at, entry_product}
use Rattle.vectors.specs.Normalized.{entry_sum, scaled, normalized}
use Rattle.vectors.specs.Multiplied.{raised, read_back}
use Rattle.vectors.specs.Decision.{decision}
use Rattle.vectors.specs.Fine.{nonneg, fine, Unsigned, Fine}
use Rattle.vectors.proofs.FineFloats.{nonneg-unsigned, fine-nonneg, mul-unsigned, sum_terms, above_nonneg, tested_fine, scaled_fine}

pub fine_unsigned : (p : Vector) → Fine p → Unsigned p
fine_unsigned p f x l = nonneg-unsigned (at p x) (fine-nonneg (at p x) (f x l))

pub product_at : (p q : Vector) (x : ℕ) → x < 32 → at (entry_product p q) x ≡ mul binary32 (at p x) (at q x)
unfolding entry_product
product_at p q x l = values_at (λ x. mul binary32 (at p x) (at q x)) 32 x nan l

pub product_unsigned : (p q : Vector) → Unsigned p → Fine q → Unsigned (entry_product p q)
product_unsigned p q u f x l = rw (product_at p q x l) (mul-unsigned (at p x) (at q x) (u x l) (f x l))

-- ---- normalising

pub scaled_at : (p : Vector) (k : Float) (x : ℕ) → x < 32 → at (scaled p k) x ≡ mul binary32 (at p x) k
unfolding scaled
scaled_at p k x l = values_at (λ x. mul binary32 (at p x) k) 32 x nan l

pub uniform_at : (x : ℕ) → x < 32 → at (replicate 32 uniform32) x ≡ uniform32
uniform_at x l = get_or-replicate 32 x uniform32 nan l

-- what holds of both outcomes; the sum is finite where it is divided by
pub normalized_either : (P : Vector → Type 0) (p : Vector) → (T (fine (entry_sum p)) → T (lt tiny32 (entry_sum p)) → P (scaled p (div binary32 one32 (entry_sum p))))
    → P (replicate 32 uniform32) → P (normalized p)
unfolding normalized
normalized_either P p f g =
    let s = entry_sum p in
    pick_either P (lt tiny32 s && le s greatest32) (scaled p (div binary32 one32 s)) (replicate 32 uniform32)
    (λ t. let w = and_parts (lt tiny32 s) (le s greatest32) t in f (tested_fine s w.0 w.1) w.0)
    g

uniform_fine : T (fine uniform32)
unfolding of_bits
uniform_fine = tt

pub normalized_unsigned : (p : Vector) → Unsigned p → Fine (normalized p)
normalized_unsigned p u =
    normalized_either Fine p
    (λ f h x l. rw (scaled_at p (div binary32 one32 (entry_sum p)) x l) (scaled_fine (at p x) (entry_sum p) (sum_terms p u x l) f h))
    (λ x l. rw (uniform_at x l) uniform_fine)

-- ---- what a check sends

pub raised-nonneg : (y : Float) → T (nonneg (raised y))
unfolding raised
raised-nonneg y = pick_either (λ z. T (nonneg z)) (lt tiny32 y) y tiny32 (above_nonneg y) (unfold of_bits in tt)

-- whatever p holds
pub read_back_fine : (h : ℕ) (p : Vector) → Fine (normalized (read_back h p))
read_back_fine h p =
    normalized_unsigned (read_back h p)
    (λ x l.
    let y = at p (product h x) in
    unfold read_back in rw (values_at (λ x. raised (at p (product h x))) 32 x nan l) (nonneg-unsigned (raised y) (raised-nonneg y)))

-- ---- the decision

pub decision_small : (p : Vector) → decision p < 32
unfolding decision
decision_small p =
    iter_keeps (λ _ b. b < 32) 32 (λ x b. pick (lt (at p b) (at p x)) x b) 0 (omega arith)
    (λ x l b h. pick_either (λ k. k < 32) (lt (at p b) (at p x)) x b (λ _. l) h)
