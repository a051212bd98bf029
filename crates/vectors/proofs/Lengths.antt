-- Every vector that a definition gives has 32 entries.
-- Assumes nothing.
use Prim.Native.Nat.{ℕ}
use mathlib.Core.Path.{◌≡◌}
use lib.Ieee.{Float, binary32, mul, div}
use lib.ListN.{length, set, replicate, length-set, length-replicate}
use Rattle.lists.proofs.Choice.{pick_either}
use Rattle.lists.proofs.Iter.{iter_keeps}
use Rattle.lists.proofs.Values.{values-length}
use Rattle.field.specs.Field.{product}
use Rattle.vectors.specs.Float32.{zero32, one32, uniform32}
use Rattle.vectors.specs.Vector.{Vector, at, entry_product}
use Rattle.vectors.specs.Normalized.{entry_sum, scaled, normalized}
use Rattle.vectors.specs.Wht.{butterflies, wht}
use Rattle.vectors.specs.Multiplied.{permuted}
use Rattle.vectors.specs.Channel.{channel}

pub product_length : (p q : Vector) → length (entry_product p q) ≡ 32
unfolding entry_product
product_length p q = values-length (λ x. mul binary32 (at p x) (at q x)) 32

pub scaled-length : (p : Vector) (k : Float) → length (scaled p k) ≡ 32
unfolding scaled
scaled-length p k = values-length (λ x. mul binary32 (at p x) k) 32

pub normalized-length : (p : Vector) → length (normalized p) ≡ 32
unfolding normalized
normalized-length p =
    pick_either (λ (q : Vector). length q ≡ 32) _ (scaled p (div binary32 one32 (entry_sum p))) (replicate 32 uniform32) (λ _. scaled-length p _) (length-replicate 32 uniform32)

butterflies-length : (h : ℕ) (a : Vector) → length a ≡ 32 → length (butterflies h a) ≡ 32
unfolding butterflies
butterflies-length h a e = iter_keeps (λ _ (b : Vector). length b ≡ 32) 16 _ a e (λ k l b d. simp length-set d)

pub wht-length : (a : Vector) → length a ≡ 32 → length (wht a) ≡ 32
unfolding wht
wht-length a e = butterflies-length 16 _ (butterflies-length 8 _ (butterflies-length 4 _ (butterflies-length 2 _ (butterflies-length 1 a e))))

pub permuted-length : (h : ℕ) (p : Vector) → length (permuted h p) ≡ 32
unfolding permuted
permuted-length h p = iter_keeps (λ _ (t : Vector). length t ≡ 32) 32 (λ x t. set t (product h x) (at p x)) _ (length-replicate 32 zero32) (λ x l t d. simp length-set d)

pub channel-length : (m : Vector) → length (channel m) ≡ 32
unfolding channel
channel-length m = normalized-length _
