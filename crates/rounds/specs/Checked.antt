-- What one check's step is given and leaves in the work part. Ours; no public call's contract cites it.
-- Assumes nothing.
use Rattle.std.specs.Prelude.{ℕ, ◌+◌, ◌-◌, ◌<◌, ◌≤◌, ◌≡◌, ◌⊎◌, List, Float, length}
use Rattle.lists.specs.Entry.{nth}
use Rattle.vectors.specs.Vector.{Vector, vector, entry_product}
use Rattle.rounds.specs.CheckStep.{input, product_of, others, outgoing, from_check}
use Rattle.rounds.specs.Work.{vectors_length, to_checks, from_checks, inputs}

-- d edges from place lo on
pub record Checked (coef : List ℕ) (lo d : ℕ) (w : List Float) : Type 0 where
  pub coef_long : length coef ≡ 512
  pub end : lo + d ≤ 512
  pub few : d ≤ 32
  pub coefs : (j : ℕ) → j < d → nth coef (lo + j) < 32
  pub long : length w ≡ vectors_length

-- the message to edge d - 1 - j, by the products before it, which w holds, and the inputs
abbrev pub message_in : List ℕ → ℕ → ℕ → List Float → ℕ → Vector
message_in coef lo d w j =
    outgoing (nth coef (lo + (d - 1 - j))) (entry_product (from_checks w (lo + (d - 1 - j))) (product_of j (λ i. inputs w (d - 1 - i))))

-- the messages from the check of places lo to hi - 1 are made; but for the inputs, nothing else changed
pub record Messages (coef : List ℕ) (lo hi : ℕ) (w₀ w : List Float) : Type 0 where
  pub long : length w ≡ length w₀
  pub made : (e : ℕ) → lo ≤ e → e < hi → from_checks w e ≡ outgoing (nth coef e) (others lo hi (input coef (to_checks w₀)) e)
  pub state : (i : ℕ) → i < 768 → vector w i ≡ vector w₀ i
  pub other : (e : ℕ) → e < 512 → (e < lo) ⊎ (hi ≤ e) → from_checks w e ≡ from_checks w₀ e

-- those of the first k checks
pub record Made (m : ℕ) (coef row : List ℕ) (w₀ w : List Float) (k : ℕ) : Type 0 where
  pub long : length w ≡ length w₀
  pub made : (e : ℕ) → e < nth row k → from_checks w e ≡ from_check m coef row (to_checks w₀) e
  pub state : (i : ℕ) → i < 768 → vector w i ≡ vector w₀ i
