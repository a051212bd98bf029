-- The rows of the table, as the code reads them off the matrix: row i has the entries at the k information positions. The rows stand one after another.
-- Assumes nothing.
use mathlib.Core.Path.{◌≡◌, sym, ap, ◌∙◌}
use mathlib.Core.List.{List}
use Prim.Native.Nat.{ℕ, ◌+◌, ◌*◌}
use native.Mathlib.Nat.{suc-mul}
use native.Mathlib.Numerals.{add-one}
use Rattle.lists.specs.Entry.{nth}
use Rattle.lists.specs.Values.{values}

-- the entry of row i at information position t
abbrev pub factor : List ℕ → List ℕ → ℕ → ℕ → ℕ
factor h info i t = nth h (i * 256 + nth info t)

abbrev pub factors : ℕ → List ℕ → List ℕ → ℕ → List ℕ
factors k h info i = values k (factor h info i)

-- the row after row i begins where that ends
pub next : (i k : ℕ) → i * k + k ≡ (i + 1) * k
next i k = sym (ap (λ (x : ℕ). x * k) (add-one i) ∙ suc-mul i k)
