-- A run of vectors filled with one number.
-- Assumes nothing.
use Prim.Native.Nat.{ℕ, ◌+◌, ◌-◌, ◌*◌, ◌<◌, ◌≤◌}
use mathlib.Core.Path.{◌≡◌, ap, sym, ◌∙◌}
use mathlib.Core.Logic.{◌≢◌, ◌⊎◌, inl, inr}
use mathlib.Core.List.{List}
use native.Mathlib.Omega.{arith}
use lib.Ieee.{Float, nan}
use lib.ListN.{length, get_or, replicate, length-replicate, get_or-replicate}
use Rattle.lists.specs.Laid.{laid_from}
use Rattle.lists.specs.Values.{values}
use Rattle.lists.proofs.Cases.{less_or_not}
use Rattle.lists.proofs.Laid.{from_length, from_own, from_before, from_after}
use Rattle.lists.proofs.Values.{values_ext, values_own}
use Rattle.vectors.specs.Vector.{vector}
use Rattle.rounds.specs.Work.{Wrote}

module _ (from n : ℕ) (x : Float) (w₀ : List Float) (fits : from * 32 + n * 32 ≤ length w₀) where
  abbrev filled : List Float
  filled = laid_from (from * 32) (replicate (n * 32) x) w₀

  long : length (replicate (n * 32) x) ≡ n * 32
  long = length-replicate (n * 32) x

  here : (v : ℕ) → v < n → vector filled (from + v) ≡ replicate 32 x
  unfolding vector
  here v h =
      values_ext 32 (λ y. get_or filled ((from + v) * 32 + y) nan) (λ y. get_or (replicate 32 x) y nan) nan (λ y l. entry y l)
      ∙ ap (λ (k : ℕ). values k (λ y. get_or (replicate 32 x) y nan)) (sym (length-replicate 32 x)) ∙ values_own nan (replicate 32 x)
    where
      entry : (y : ℕ) → y < 32 → get_or filled ((from + v) * 32 + y) nan ≡ get_or (replicate 32 x) y nan
      entry y l =
          let place : (from + v) * 32 + y ≡ from * 32 + (v * 32 + y) = omega arith in
          ap (λ (k : ℕ). get_or filled k nan) place
          ∙ from_own (from * 32) (v * 32 + y) (replicate (n * 32) x) w₀ nan (omega (arith, long)) (omega arith)
          ∙ get_or-replicate (n * 32) (v * 32 + y) x nan (omega arith) ∙ sym (get_or-replicate 32 y x nan l)

  other : (i : ℕ) → ((v : ℕ) → v < n → from + v ≢ i) → vector filled i ≡ vector w₀ i
  unfolding vector
  other i q = values_ext 32 (λ y. get_or filled (i * 32 + y) nan) (λ y. get_or w₀ (i * 32 + y) nan) nan (λ y l. entry y l (less_or_not i from))
    where
      behind : from ≤ i → from + n ≤ i
      behind h = go (less_or_not i (from + n))
        where
          go : (i < from + n) ⊎ (from + n ≤ i) → from + n ≤ i
          go (inl b) = absurd (q (i - from) (omega arith) (omega arith))
          go (inr b) = b

      entry : (y : ℕ) → y < 32 → (i < from) ⊎ (from ≤ i) → get_or filled (i * 32 + y) nan ≡ get_or w₀ (i * 32 + y) nan
      entry y l (inl b) = from_before (from * 32) (i * 32 + y) (replicate (n * 32) x) w₀ nan (omega arith) (omega arith)
      entry y l (inr b) = from_after (from * 32) (i * 32 + y) (replicate (n * 32) x) w₀ nan (omega (arith, long, behind b)) (omega arith)

  pub wrote_filled : Wrote n (λ v. from + v) (λ _. replicate 32 x) w₀ filled
  wrote_filled = record { long = from_length (from * 32) (replicate (n * 32) x) w₀ (omega (arith, long)); here = here; else = other }
