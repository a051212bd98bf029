-- What is copied out of the work part: the posteriors, which stand one after another.
-- Assumes nothing.
use Prim.Native.Nat.{ℕ, zero, suc, ◌+◌, ◌*◌, ◌≤◌}
use mathlib.Core.Path.{◌≡◌, sym, ap, ap₂, ◌∙◌}
use mathlib.Core.List.{List, ◌++◌}
use native.Mathlib.Omega.{arith}
use lib.Ieee.{Float, nan}
use lib.ListN.{length, get_or, take, drop, length-drop}
use lib.Seq.{take-add, length-take-le, get_or-take, get_or-drop}
use Rattle.lists.specs.Chain.{chain}
use Rattle.lists.specs.Values.{values}
use Rattle.lists.proofs.Chain.{chain_none, chain-suc}
use Rattle.lists.proofs.Values.{values_own, values_ext}
use Rattle.vectors.specs.Vector.{vector}
use Rattle.rounds.specs.Work.{posts}

module _ (w : List Float) where
  -- the posteriors' row
  abbrev row : List Float
  row = drop (1312 * 32) w

  one : (k : ℕ) → (1312 + k) * 32 + 32 ≤ length w → take 32 (drop (k * 32) row) ≡ posts w k
  unfolding vector
  one k h =
      let own : List Float = take 32 (drop (k * 32) row) in
      let long : length own ≡ 32 = length-take-le 32 (drop (k * 32) row) (omega (arith, length-drop (k * 32) row, length-drop (1312 * 32) w)) in
      sym (values_own nan own) ∙ ap (λ (n : ℕ). values n (λ x. get_or own x nan)) long
      ∙ values_ext 32 (λ x. get_or own x nan) (λ x. get_or w ((1312 + k) * 32 + x) nan) nan
      (λ x l.
      get_or-take 32 (drop (k * 32) row) x nan l ∙ get_or-drop (k * 32) row x nan ∙ get_or-drop (1312 * 32) w (k * 32 + x) nan
      ∙ ap (λ (i : ℕ). get_or w i nan) (omega arith))

  pub copied : (n : ℕ) → (1312 + n) * 32 ≤ length w → take (n * 32) row ≡ chain n (posts w)
  copied zero h = sym (chain_none (posts w))
  copied (suc k) h =
      let e : suc k * 32 ≡ k * 32 + 32 = omega arith in
      ap (λ (i : ℕ). take i row) e ∙ take-add (k * 32) 32 row
      ∙ ap₂ ◌++◌ (copied k (omega (arith, h))) (one k (omega (arith, h)))
      ∙ sym (chain-suc (posts w) k)
