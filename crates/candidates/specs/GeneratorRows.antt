-- How the parts of a code and the work part hold what list decoding adds to a word: generators stand in rows of 256, and so do their supports. Ours; no public call's contract cites it.
-- Assumes nothing.
use Rattle.std.specs.Prelude.{ℕ, ◌+◌, ◌*◌, ◌<◌, ◌≤◌, ◌≡◌, List, not, eqb, length, set, take, drop, replicate}
use Rattle.lists.specs.Entry.{nth}
use Rattle.lists.specs.Keep.{keep_below}
use Rattle.lists.specs.Placed.{placed}
use Rattle.field.specs.Field.{product}

-- slot s of k at the value d, over a row of zeros, and the parity symbols by column s of the table
unfoldable pub column : ℕ → ℕ → ℕ → List ℕ → List ℕ → List ℕ → ℕ → ℕ → List ℕ
column n r k parity info a s d = placed r (nth parity) (λ i. product d (nth a (i * k + s))) (set (replicate n 0) (nth info s) d)

-- the first n entries of row j
abbrev pub row_of : ℕ → List ℕ → ℕ → List ℕ
row_of n h j = take n (drop (j * 256) h)

-- the positions where symbols are not 0, ascending
unfoldable pub support : List ℕ → List ℕ
support g = keep_below (λ v. not (eqb (nth g v) 0)) (length g)

-- w generators, and 16 rows further the support of each, of which `counts` has the lengths
pub record Generators (n w : ℕ) (gens : ℕ → List ℕ) (counts h : List ℕ) : Type 0 where
  pub long : length h ≡ 65536
  pub rows : (j : ℕ) → j < w → row_of n h j ≡ gens j
  pub bounds : (j : ℕ) → j < w → nth counts j ≤ 256
  pub supports : (j : ℕ) → j < w → row_of (nth counts j) h (j + 16) ≡ support (gens j)
