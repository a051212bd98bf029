-- What an encoder makes by its parts: its length, and that its symbols are below 32.
-- Assumes nothing.
use Prim.Native.Nat.{ℕ, ◌+◌, ◌*◌, ◌<◌}
use mathlib.Core.Path.{◌≡◌, subst, sym, ◌∙◌}
use mathlib.Core.List.{List}
use native.Mathlib.Omega.{arith}
use lib.ListN.{length, replicate, length-replicate}
use Rattle.lists.specs.Entry.{nth}
use Rattle.lists.specs.Placed.{placed}
use Rattle.lists.proofs.Blank.{blank_at}
use Rattle.lists.proofs.Placed.{placed-length, placed_small}
use Rattle.field.specs.Field.{product}
use Rattle.field.specs.FieldSum.{field_sum}
use Rattle.field.proofs.FieldSum.{sum_lt}
use Rattle.field.proofs.Product.{mod32, product-lt}
use Rattle.words.specs.Encoding.{symbol}
use Rattle.words.specs.EncoderParts.{EncoderParts, encoded_by}

-- for a word whose length is written in another way
pub of_length : (n m r k : ℕ) (parity info a : List ℕ) → m ≡ n → EncoderParts n r k parity info a → EncoderParts m r k parity info a
of_length n m r k parity info a e w = subst (λ (l : ℕ). EncoderParts l r k parity info a) (sym e) w

module _ (n r k : ℕ) (parity info a syms : List ℕ) where
  abbrev factor : ℕ → ℕ → ℕ
  factor i t = product (nth a (i * k + t)) (nth syms t)

  abbrev front : List ℕ
  front = placed k (nth info) (symbol syms) (replicate n 0)

  pub encoded_by-length : length (encoded_by n r k parity info a syms) ≡ n
  unfolding encoded_by
  encoded_by-length =
      placed-length (nth parity) (λ i. field_sum (length syms) (factor i)) front r ∙ placed-length (nth info) (symbol syms) (replicate n 0) k ∙ length-replicate {A = ℕ} n 0

  pub encoded_by_small : (v : ℕ) → nth (encoded_by n r k parity info a syms) v < 32
  unfolding encoded_by
  encoded_by_small =
      placed_small (nth parity) (λ i. field_sum (length syms) (factor i)) front 32 r
      (λ i l. sum_lt (length syms) (factor i) (λ t h. product-lt (nth a (i * k + t)) (nth syms t)))
      (placed_small (nth info) (symbol syms) (replicate n 0) 32 k (λ t l. mod32 (nth syms t)) (λ j. omega (arith, blank_at {A = ℕ} n j 0)))
