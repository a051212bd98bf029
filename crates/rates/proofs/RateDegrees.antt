-- The degrees of a rate: as many as symbols, each 2 or the heavy one, and their sum. So a rate is one by its numbers alone.
-- Assumes nothing.
use Prim.Native.Nat.{ℕ, zero, suc, ◌+◌, ◌-◌, ◌*◌, ◌<◌, ◌≤◌}
use mathlib.Core.Path.{◌≡◌, ap, sym, ◌∙◌}
use native.Mathlib.Nat.{zero-mul, suc-mul}
use native.Mathlib.Omega.{arith}
use lib.ListN.{length}
use Rattle.lists.specs.Entry.{nth}
use Rattle.lists.specs.Total.{total}
use Rattle.lists.proofs.Cases.{less_or_not}
use Rattle.lists.proofs.Choice.{pick_less, pick_not_less}
use Rattle.lists.proofs.Total.{total_none, total-suc, total_ext}
use Rattle.lists.proofs.Values.{values-length, values_at}
use mathlib.Core.Logic.{⊎_elim}
use Rattle.rates.specs.declared.Rate.{Rate}
use Rattle.rates.specs.Rate.{checks, degree_at, rate_degrees, IsRate}

module _ (r : Rate) where
  pub degrees-length : length (rate_degrees r) ≡ r.n
  unfolding rate_degrees
  degrees-length = values-length (degree_at r) r.n

  pub degrees_at : (v : ℕ) → v < r.n → nth (rate_degrees r) v ≡ degree_at r v
  unfolding rate_degrees
  degrees_at v h = values_at (degree_at r) r.n v 0 h

  -- ---- the sum: first the heavy columns, then the others

  heavy_sum : (k : ℕ) → k ≤ r.heavy → total k (degree_at r) ≡ k * r.degree
  heavy_sum zero h = total_none (degree_at r) ∙ sym (zero-mul r.degree)
  heavy_sum (suc k) h =
      let i = heavy_sum k (omega arith) in
      omega (arith, i, total-suc (degree_at r) k, pick_less k r.heavy r.degree 2 (omega arith), suc-mul k r.degree)

  light_sum : (j : ℕ) → total (r.heavy + j) (degree_at r) ≡ r.heavy * r.degree + j * 2
  light_sum zero = let e : r.heavy + 0 ≡ r.heavy = omega arith in ap (λ (k : ℕ). total k (degree_at r)) e ∙ omega (arith, heavy_sum r.heavy (omega arith))
  light_sum (suc j) =
      let e : r.heavy + suc j ≡ suc (r.heavy + j) = omega arith in
      ap (λ (k : ℕ). total k (degree_at r)) e
      ∙ omega (arith, light_sum j, total-suc (degree_at r) (r.heavy + j), pick_not_less (r.heavy + j) r.heavy r.degree 2 (omega arith))

  pub degrees_sum : r.heavy ≤ r.n → total r.n (nth (rate_degrees r)) ≡ r.heavy * r.degree + (r.n - r.heavy) * 2
  degrees_sum h =
      let e : r.n ≡ r.heavy + (r.n - r.heavy) = omega arith in
      total_ext r.n (nth (rate_degrees r)) (degree_at r) degrees_at ∙ ap (λ (k : ℕ). total k (degree_at r)) e ∙ light_sum (r.n - r.heavy)

  -- ---- each of them

  pub degrees_low : (m : ℕ) → 2 ≤ m → (0 < r.heavy → r.degree ≤ m) → (v : ℕ) → v < r.n → nth (rate_degrees r) v ≤ m
  degrees_low m two h v l =
      ⊎_elim
      (λ (b : v < r.heavy). omega (arith, degrees_at v l, pick_less v r.heavy r.degree 2 b, h (omega arith)))
      (λ (b : r.heavy ≤ v). omega (arith, degrees_at v l, pick_not_less v r.heavy r.degree 2 b))
      (less_or_not v r.heavy)

  -- ---- a rate by its numbers: at least two checks, and degrees that 4 and 5 pass

  pub is_rate : 54 ≤ r.n → r.n ≤ 256 → r.heavy ≤ r.n → r.heavy * r.degree + (r.n - r.heavy) * 2 ≤ 512 → (0 < r.heavy → r.degree ≤ checks r) → IsRate r
  is_rate long short heavy sum low = record {
    long = long;
    buildable = record {
      n_small = short;
      m_small = omega arith;
      long = degrees-length;
      low = degrees_low (checks r) (omega arith) low;
      sum = omega (arith, degrees_sum heavy);
    };
  }
