-- The index of each variable bit: so no two are the same. By computed tests of 96 cases.
-- Assumes nothing.
use Prim.Native.Nat.{ℕ, ◌+◌, ◌-◌, ◌<◌, ◌≤◌}
use mathlib.Core.Path.{◌≡◌, refl, sym, ap, ◌∙◌}
use mathlib.Core.List.{List}
use borrow.Author.Tests.{ltb-true, leb-true}
use lib.Dec.{ltb, leb}
use lib.ListN.{length, get_or}
use Rattle.lists.specs.Chain.{chain}
use Rattle.lists.specs.Choice.{pick}
use Rattle.lists.specs.Iter.{iter}
use Rattle.lists.specs.Values.{values}
use Rattle.lists.proofs.Cases.{holds}
use Rattle.lists.proofs.Computed.{all_below_at, equal1}
use Rattle.layouts.specs.VariableBits.{ranges, range, variable_bits, variable}

abbrev index_of : ℕ → ℕ
index_of b = pick (ltb b 96) b (pick (ltb b 112) (b - 96) (pick (ltb b 128) (b - 104) (b - 200)))

index_is : (i : ℕ) → i < 96 → index_of (variable i) ≡ i
unfolding variable variable_bits ranges chain iter values pick
index_is = equal1 96 (λ i. index_of (variable i)) (λ i. i) tt

pub variable_inside : (i : ℕ) → i < 96 → variable i < 256
unfolding variable variable_bits ranges chain iter values
variable_inside i h = ltb-true (variable i) 256 (holds (ltb (variable i) 256) (all_below_at 96 (λ i. ltb (variable i) 256) tt i h))

pub variable_distinct : (t v : ℕ) → t < 96 → v < 96 → variable t ≡ variable v → t ≡ v
variable_distinct t v h l q = sym (index_is t h) ∙ ap index_of q ∙ index_is v l

-- ---- as loops list them, range by range

abbrev pub range_at : ℕ → List ℕ
range_at k = range (get_or ranges k (0, 0))

pub range_room : (k : ℕ) → k < 5 → length (chain k range_at) + ((get_or ranges k (0, 0)).1 - (get_or ranges k (0, 0)).0) ≤ 96
unfolding ranges chain iter values
range_room k h = leb-true _ 96 (holds _ (all_below_at 5 (λ k. leb (length (chain k range_at) + ((get_or ranges k (0, 0)).1 - (get_or ranges k (0, 0)).0)) 96) tt k h))

pub range_up : (k : ℕ) → k < 5 → (get_or ranges k (0, 0)).0 ≤ (get_or ranges k (0, 0)).1
unfolding ranges
range_up k h = leb-true _ _ (holds _ (all_below_at 5 (λ k. leb (get_or ranges k (0, 0)).0 (get_or ranges k (0, 0)).1) tt k h))

pub bits_are : chain 5 range_at ≡ variable_bits
unfolding variable_bits
bits_are = refl

pub bits_count : length variable_bits ≡ 96
unfolding variable_bits ranges chain iter values
bits_count = refl
