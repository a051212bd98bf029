-- Check sums over edges that stand in parts: no edges, one more edge, and all checks of the graph that they hold.
-- Assumes nothing.
use mathlib.Core.Path.{◌≡◌, sym, ap, ◌∙◌}
use mathlib.Core.Bool.{Bool, not}
use mathlib.Core.List.{List, [], ◌∷◌, foldl, foldl-append}
use Prim.Native.Nat.{ℕ, ◌+◌, ◌≤◌}
use lib.Dec.{eqb}
use lib.Bits.{bit_xor}
use Rattle.lists.specs.AnyBelow.{any_below}
use Rattle.lists.specs.Entry.{nth}
use Rattle.lists.proofs.AnyBelow.{any_below_ext}
use Rattle.field.specs.Field.{product}
use Rattle.elimination.specs.Graph.{Edge}
use Rattle.elimination.specs.Held.{edges_in, held}
use Rattle.elimination.proofs.Checks.{edges_none, edges_more}
use Rattle.elimination.proofs.Held.{held_checks, held-check}
use Rattle.words.specs.Word.{sum_turn, check_sum, all_satisfied}

module _ (var coef : List ℕ) (x : List ℕ) where
  module _ (from : ℕ) where
    pub check_start : 0 ≡ check_sum (edges_in var coef from from) x
    unfolding check_sum
    check_start = sym (ap (foldl (sum_turn x) 0) (edges_none var coef from))

    pub check_on : (e sum : ℕ) → from ≤ e → sum ≡ check_sum (edges_in var coef from e) x
        → bit_xor sum (product (nth coef e) (nth x (nth var e))) ≡ check_sum (edges_in var coef from (e + 1)) x
    unfolding check_sum
    check_on e sum h w =
        ap (λ (s : ℕ). sum_turn x s (nth var e, nth coef e)) w
        ∙ sym (ap (foldl (sum_turn x) 0) (edges_more var coef from e h) ∙ foldl-append (sum_turn x) 0 (edges_in var coef from e) ((nth var e, nth coef e) ∷ []))

  -- check c is not satisfied
  abbrev pub fails : List ℕ → ℕ → Bool
  fails row c = not (eqb (check_sum (edges_in var coef (nth row c) (nth row (c + 1))) x) 0)

  pub held_satisfied : (n m : ℕ) (row : List ℕ) → not (any_below m (fails row)) ≡ all_satisfied (held n m var coef row) x
  unfolding all_satisfied
  held_satisfied n m row =
      let count = held_checks n m var coef row in
      sym (ap (λ (k : ℕ). not (any_below k _)) count)
      ∙ ap not (any_below_ext _ _ _ (λ c h. ap (λ (l : List Edge). not (eqb (check_sum l x) 0)) (sym (held-check n m var coef row c (rw count at h)))))
