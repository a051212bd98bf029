-- An element's products with 0, 1, .., 31 are the places that a vector's entries are carried to.
-- Assumes nothing.
use Prim.Native.Nat.{ℕ, ◌<◌}
use mathlib.Core.Path.{◌≡◌, ap, ◌∙◌}
use mathlib.Core.List.{List}
use Rattle.lists.specs.Entry.{nth}
use Rattle.lists.specs.Values.{values}
use Rattle.lists.proofs.Values.{values_at}
use Rattle.field.specs.Field.{product}
use Rattle.field.proofs.Product.{product-lt}

pub place_is : (h : ℕ) (places : List ℕ) (x : ℕ) → places ≡ values 32 (product h) → x < 32 → nth places x ≡ product h x
place_is h places x e l = ap (λ (p : List ℕ). nth p x) e ∙ values_at (product h) 32 x 0 l

pub place_lt : (h : ℕ) (places : List ℕ) (x : ℕ) → places ≡ values 32 (product h) → x < 32 → nth places x < 32
place_lt h places x e l = rw (place_is h places x e l) (product-lt h x)
