-- Each position below n exactly once among f 0, .., f (n - 1): as a property, and as tests. Ours, for document 01's "holds each position once".
-- Assumes nothing.
use Rattle.std.specs.Prelude.{◌≡◌, Bool, not, ◌||◌, ℕ, ◌<◌, eqb, leb}
use Rattle.lists.specs.AnyBelow.{any_below}

-- n positions below n, no two of them the same: so each position is there (proofs/EachOnce)
pub record EachOnce (n : ℕ) (f : ℕ → ℕ) : Type 0 where
  pub inside : (t : ℕ) → t < n → f t < n
  pub distinct : (t v : ℕ) → t < n → v < n → f t ≡ f v → t ≡ v

-- one of f 0, .., f (n - 1) is not below m
unfoldable pub outside : ℕ → ℕ → (ℕ → ℕ) → Bool
outside m n f = any_below n (λ t. leb m (f t))

-- two of f 0, .., f (n - 1) are the same
unfoldable pub repeated : ℕ → (ℕ → ℕ) → Bool
repeated n f = any_below n (λ t. any_below t (λ v. eqb (f t) (f v)))

unfoldable pub each_once : ℕ → (ℕ → ℕ) → Bool
each_once n f = not (outside n n f || repeated n f)
