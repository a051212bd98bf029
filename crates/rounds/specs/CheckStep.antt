-- The check step: the message from a check to each of its edges. Document 01, "A round", in its order; nb.rs, `decode_soft`, "Check nodes".
-- Assumes nothing.
use Rattle.std.specs.Prelude.{ℕ, ◌+◌, ◌-◌, List, replicate}
use Rattle.lists.specs.Entry.{nth}
use Rattle.lists.specs.Iter.{iter}
use Rattle.vectors.specs.Float32.{one32}
use Rattle.vectors.specs.Vector.{Vector, entry_product}
use Rattle.vectors.specs.Wht.{wht}
use Rattle.vectors.specs.Multiplied.{permuted, read_back}
use Rattle.vectors.specs.Normalized.{normalized}
use Rattle.rounds.specs.Tanner.{check_of}

-- "A check permutes each incoming vector of 32 by its coefficient, transforms it": of the message to the check at place e
unfoldable pub input : List ℕ → (ℕ → Vector) → ℕ → Vector
input coef to e = wht (permuted (nth coef e) (to e))

-- f 0, f 1, .., f (k - 1) multiplied, in this order
unfoldable pub product_of : ℕ → (ℕ → Vector) → Vector
product_of k f = iter k (λ j p. entry_product p (f j)) (replicate 32 one32)

-- "multiplies the others' prefix then suffix": the check's vectors stand at places lo to hi - 1, and e is one of them
unfoldable pub others : ℕ → ℕ → (ℕ → Vector) → ℕ → Vector
others lo hi f e = entry_product (product_of (e - lo) (λ j. f (lo + j))) (product_of (hi - 1 - e) (λ j. f (hi - 1 - j)))

-- "transforms again, raises below 1e-30 to 1e-30, and normalises": by the coefficient h
unfoldable pub outgoing : ℕ → Vector → Vector
outgoing h p = normalized (read_back h (wht p))

-- the message from its check to the edge at place e, by all messages to checks
unfoldable pub from_check : ℕ → List ℕ → List ℕ → (ℕ → Vector) → ℕ → Vector
from_check m coef row to e =
    let c = check_of m row e in
    outgoing (nth coef e) (others (nth row c) (nth row (c + 1)) (input coef to) e)
