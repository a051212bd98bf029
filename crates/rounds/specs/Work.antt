-- The work part of vectors: five rows, 256 of the channel, 512 messages to checks, 512 from checks, 32 inputs of a check and 256 posteriors; and what a function has
-- written there. Ours; of it the calls' definitions cite the length, and no public call's contract the rest.
-- Assumes nothing.
use Rattle.std.specs.Prelude.{ℕ, ◌+◌, ◌<◌, ◌≡◌, ◌≢◌, List, Float, length}
use Rattle.vectors.specs.Vector.{Vector, vector}

-- its length
abbrev pub vectors_length : ℕ
vectors_length = 50176

-- where the message to the check of the edge at place e stands, the message from it, input j of a check, and the posterior of variable v
abbrev pub to_check_at : ℕ → ℕ
to_check_at e = 256 + e

abbrev pub from_check_at : ℕ → ℕ
from_check_at e = 768 + e

abbrev pub input_at : ℕ → ℕ
input_at j = 1280 + j

abbrev pub post_at : ℕ → ℕ
post_at v = 1312 + v

-- and what stands there
abbrev pub to_checks : List Float → ℕ → Vector
to_checks w e = vector w (to_check_at e)

abbrev pub from_checks : List Float → ℕ → Vector
from_checks w e = vector w (from_check_at e)

abbrev pub inputs : List Float → ℕ → Vector
inputs w j = vector w (input_at j)

abbrev pub posts : List Float → ℕ → Vector
posts w v = vector w (post_at v)

-- w₀ with the vectors f 0, .., f (k - 1) at place 0, .., place (k - 1)
pub record Wrote (k : ℕ) (place : ℕ → ℕ) (f : ℕ → Vector) (w₀ w : List Float) : Type 0 where
  pub long : length w ≡ length w₀
  pub here : (j : ℕ) → j < k → vector w (place j) ≡ f j
  pub else : (i : ℕ) → ((j : ℕ) → j < k → place j ≢ i) → vector w i ≡ vector w₀ i
