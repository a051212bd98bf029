-- Laws of what is written into the work part, one vector after another.
-- Assumes nothing.
use Prim.Native.Nat.{ℕ, ◌+◌, ◌*◌, ◌<◌, ◌≤◌}
use mathlib.Core.Path.{◌≡◌, refl, sym, ap, subst, ◌∙◌}
use mathlib.Core.Logic.{◌≢◌, ◌⊎◌, inl, inr}
use mathlib.Core.List.{List}
use native.Mathlib.Nat.{not-suc-le-zero}
use native.Mathlib.Omega.{arith}
use lib.Ieee.{Float}
use lib.ListN.{length}
use Rattle.lists.proofs.Cases.{same_or_not}
use Rattle.vectors.specs.Vector.{Vector, vector, stored}
use Rattle.vectors.proofs.Stored.{stored-length, stored_same, stored_other}
use Rattle.rounds.specs.Work.{Wrote}

module _ (place : ℕ → ℕ) (f : ℕ → Vector) (w₀ : List Float) where
  pub wrote_start : Wrote 0 place f w₀ w₀
  wrote_start = record { long = refl; here = λ j h. absurd (not-suc-le-zero h); else = λ i h. refl }

  -- one more; where two go to one place, they are the same
  module _ (k : ℕ) (w : List Float) (a : Wrote k place f w₀ w) (p : Vector) (l : length p ≡ 32) (e : p ≡ f k) (fits : place k * 32 + 32 ≤ length w₀)
      (same : (j : ℕ) → j < k → place j ≡ place k → f j ≡ f k) where
    fit : place k * 32 + 32 ≤ length w
    fit = omega (arith, a.long)

    here_on : (j : ℕ) → j < k + 1 → vector (stored w (place k) p) (place j) ≡ f j
    here_on j h = go (same_or_not j k)
      where
        old : j < k → (place j ≡ place k) ⊎ (place j ≢ place k) → vector (stored w (place k) p) (place j) ≡ f j
        old b (inl q) = ap (vector (stored w (place k) p)) q ∙ stored_same w (place k) p l fit ∙ e ∙ sym (same j b q)
        old b (inr q) = stored_other w (place k) (place j) p l fit (λ r. q (sym r)) ∙ a.here j b

        go : (j ≡ k) ⊎ (j ≢ k) → vector (stored w (place k) p) (place j) ≡ f j
        go (inl q) = ap (λ (i : ℕ). vector (stored w (place k) p) (place i)) q ∙ stored_same w (place k) p l fit ∙ e ∙ ap f (sym q)
        go (inr q) = old (omega arith) (same_or_not (place j) (place k))

    wrote_stored : Wrote (k + 1) place f w₀ (stored w (place k) p)
    wrote_stored = record {
      long = stored-length w (place k) p l fit ∙ a.long;
      here = here_on;
      else = λ i h. stored_other w (place k) i p l fit (h k (omega arith)) ∙ a.else i (λ j b. h j (omega arith));
    }

  -- the same of what a store leaves
  pub wrote_on : (k : ℕ) (w w' : List Float) (p : Vector) → Wrote k place f w₀ w → w' ≡ stored w (place k) p → p ≡ f k → length (f k) ≡ 32 → place k * 32 + 32 ≤ length w₀
      → ((j : ℕ) → j < k → place j ≡ place k → f j ≡ f k) → Wrote (k + 1) place f w₀ w'
  wrote_on k w w' p a s e l fits same = subst (Wrote (k + 1) place f w₀) (sym s) (wrote_stored k w a p (ap length e ∙ l) e fits same)

  pub wrote_end : (n k : ℕ) (w : List Float) → k ≡ n → Wrote k place f w₀ w → Wrote n place f w₀ w
  wrote_end n k w e a = subst (λ (i : ℕ). Wrote i place f w₀ w) e a
