-- A vector of 32 floats, one for each value of a symbol, and many of them one after another in a part. Document 01, "vectors of 32"; nb.rs, `Q`.
-- Assumes nothing.
use Rattle.std.specs.Prelude.{ℕ, ◌+◌, ◌*◌, List, Float, get_or}
use Rattle.std.specs.Float.{nan, binary32}
use Rattle.std.specs.Float.Ieee.{mul}
use Rattle.lists.specs.Laid.{laid_from}
use Rattle.lists.specs.Values.{values}

abbrev pub Vector : Type 0
Vector = List Float

-- its entry at value x
abbrev pub at : Vector → ℕ → Float
at p x = get_or p x nan

-- the vector numbered i of a part
unfoldable pub vector : List Float → ℕ → Vector
vector part i = values 32 (λ x. at part (i * 32 + x))

-- the part with p for it
unfoldable pub stored : List Float → ℕ → Vector → List Float
stored part i p = laid_from (i * 32) p part

-- entry by entry
unfoldable pub entry_product : Vector → Vector → Vector
entry_product p q = values 32 (λ x. mul binary32 (at p x) (at q x))
