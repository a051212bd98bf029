-- The steps from candidate to candidate as a loop makes them, by what it holds.
-- Assumes nothing.
use Prim.Native.Nat.{ℕ, ◌+◌}
use mathlib.Core.Path.{◌≡◌, sym, ap, ap₂, ◌∙◌}
use mathlib.Core.Bool.{true, false}
use mathlib.Core.List.{List}
use lib.Count.{count_trailing_zeros}
use lib.Ieee.{Float, lt}
use Rattle.lists.proofs.Choice.{pick-true, pick-false}
use Rattle.lists.proofs.Iter.{iter_start, iter_on}
use Rattle.words.specs.Linear.{sum_of}
use Rattle.candidates.specs.Score.{score, score_after}
use Rattle.candidates.specs.Tried.{Tried, beginning, flipped, compared, step, tried}

abbrev pub state : List ℕ → Float → List ℕ → Float → Tried
state word score best best_score = record { word = word; score = score; best = best; best_score = best_score }

module _ (metrics : List Float) (gens : ℕ → List ℕ) (base : List ℕ) where
  pub tried_start : (word : List ℕ) (s : Float) → word ≡ base → s ≡ score metrics word → state word s base s ≡ tried metrics gens base 0
  unfolding tried beginning
  tried_start word s e f = ap (λ (w : List ℕ). state w s base s) e ∙ ap (λ (z : Float). state base z base z) (f ∙ ap (score metrics) e) ∙ iter_start _ _

  module _ (i : ℕ) (word best : List ℕ) (s most : Float) (w : state word s best most ≡ tried metrics gens base i) where
    -- what step i + 1 adds, and the score then
    abbrev g : List ℕ
    g = gens (count_trailing_zeros 32 (i + 1))

    abbrev next : Float
    next = score_after metrics g word s

    stepped : step metrics gens i (state word s best most) ≡ tried metrics gens base (i + 1)
    unfolding tried
    stepped = iter_on i (step metrics gens) (beginning metrics base) (state word s best most) w

    module _ (word' best' : List ℕ) (s' most' : Float) (a : word' ≡ sum_of word (gens (count_trailing_zeros 32 (i + 1))))
        (b : s' ≡ score_after metrics (gens (count_trailing_zeros 32 (i + 1))) word s) where
      same : (x : List ℕ) (m : Float) → best' ≡ x → most' ≡ m → state word' s' best' most' ≡ state (sum_of word g) next x m
      same x m e f = ap₂ (λ (y : List ℕ) (z : Float). state y z best' most') a b ∙ ap₂ (λ (y : List ℕ) (z : Float). state (sum_of word g) next y z) e f

      pub tried_better : best' ≡ word' → most' ≡ s' → lt most s' ≡ true → state word' s' best' most' ≡ tried metrics gens base (i + 1)
      unfolding compared flipped
      tried_better e f t = same (sum_of word g) next (e ∙ a) (f ∙ b) ∙ sym (pick-true (lt most next) _ _ (ap (lt most) (sym b) ∙ t)) ∙ stepped

      pub tried_kept : best' ≡ best → most' ≡ most → lt most s' ≡ false → state word' s' best' most' ≡ tried metrics gens base (i + 1)
      unfolding compared flipped
      tried_kept e f t = same best most e f ∙ sym (pick-false (lt most next) _ _ (ap (lt most) (sym b) ∙ t)) ∙ stepped
