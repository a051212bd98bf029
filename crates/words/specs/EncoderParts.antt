-- The parts that an encoder reads, and what it makes by them: r parity positions and k information positions below n, and a table of r rows of k. Ours; no public call's contract cites it.
-- Assumes nothing.
use Rattle.std.specs.Prelude.{ℕ, ◌+◌, ◌*◌, ◌<◌, ◌≤◌, ◌≡◌, List, length, replicate}
use Rattle.lists.specs.Entry.{nth}
use Rattle.lists.specs.Placed.{placed}
use Rattle.field.specs.Field.{product}
use Rattle.field.specs.FieldSum.{field_sum}
use Rattle.words.specs.Encoding.{symbol}

pub record EncoderParts (n r k : ℕ) (parity info a : List ℕ) : Type 0 where
  pub k_small : k ≤ 256
  pub r_small : r ≤ 256
  pub info_long : k ≤ length info
  pub info_inside : (t : ℕ) → t < k → nth info t < n
  pub parity_long : r ≤ length parity
  pub parity_inside : (i : ℕ) → i < r → nth parity i < n
  pub table_long : length a ≡ 16384
  pub table_room : r * k ≤ 16384

-- the symbols, then the parity symbols, each a sum over its row of the table
unfoldable pub encoded_by : ℕ → ℕ → ℕ → List ℕ → List ℕ → List ℕ → List ℕ → List ℕ
encoded_by n r k parity info a syms =
    placed r (nth parity) (λ i. field_sum (length syms) (λ t. product (nth a (i * k + t)) (nth syms t))) (placed k (nth info) (symbol syms) (replicate n 0))
