-- Every vector that a round makes has 32 entries.
-- Assumes nothing.
use Prim.Native.Nat.{ℕ}
use mathlib.Core.Path.{◌≡◌}
use mathlib.Core.List.{List}
use lib.ListN.{length, length-replicate}
use Rattle.lists.specs.Entry.{nth}
use Rattle.lists.proofs.Iter.{iter_keeps}
use Rattle.vectors.specs.Float32.{one32}
use Rattle.vectors.specs.Vector.{Vector, entry_product}
use Rattle.vectors.specs.Multiplied.{permuted}
use Rattle.vectors.proofs.Lengths.{product_length, normalized-length, wht-length, permuted-length}
use Rattle.rounds.specs.CheckStep.{input, product_of, outgoing}
use Rattle.rounds.specs.VariableStep.{posterior, to_check}

pub input-length : (coef : List ℕ) (to : ℕ → Vector) (e : ℕ) → length (input coef to e) ≡ 32
unfolding input
input-length coef to e = wht-length (permuted (nth coef e) (to e)) (permuted-length (nth coef e) (to e))

pub product_of-length : (k : ℕ) (f : ℕ → Vector) → length (product_of k f) ≡ 32
unfolding product_of
product_of-length k f = iter_keeps (λ _ (p : Vector). length p ≡ 32) k (λ j p. entry_product p (f j)) _ (length-replicate 32 one32) (λ j h p l. product_length p (f j))

pub outgoing-length : (h : ℕ) (p : Vector) → length (outgoing h p) ≡ 32
unfolding outgoing
outgoing-length h p = normalized-length _

pub posterior-length : (start col : List ℕ) (channel from : ℕ → Vector) (v : ℕ) → length (posterior start col channel from v) ≡ 32
unfolding posterior
posterior-length start col channel from v = normalized-length _

pub to_check-length : (start col : List ℕ) (channel from : ℕ → Vector) (v e : ℕ) → length (to_check start col channel from v e) ≡ 32
unfolding to_check
to_check-length start col channel from v e = normalized-length _
