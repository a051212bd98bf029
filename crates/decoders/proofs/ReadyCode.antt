-- With a round or more no check of an accepted code is too wide, and rounds begin from the positions that the code lends.
-- Assumes nothing.
use Prim.Native.Nat.{ℕ, ◌+◌, ◌-◌, ◌<◌}
use mathlib.Core.Path.{◌≡◌, sym, ap, subst, ◌∙◌}
use mathlib.Core.Bool.{Bool, false, ◌&&◌}
use mathlib.Core.List.{List}
use native.Mathlib.Omega.{arith}
use borrow.Author.Tests.{lt-ltb, ltb-false}
use lib.Dec.{ltb}
use lib.Ieee.{Float}
use Rattle.lists.specs.Entry.{nth}
use Rattle.lists.specs.Values.{values}
use Rattle.lists.proofs.AnyBelow.{any_below_not}
use Rattle.graph.specs.declared.Code.{Code}
use Rattle.graph.specs.Parts.{Parts}
use Rattle.lent.specs.Sound.{IsSound}
use Rattle.words.proofs.LentWords.{positions_all}
use Rattle.rounds.specs.Tanner.{tanner_in}
use Rattle.rounds.specs.Ready.{Narrow}
use Rattle.rounds.specs.declared.rounds.Ended.{Ended}
use Rattle.rounds.specs.Begin.{begin}
use Rattle.rounds.specs.GoneOn.{GoneOn}
use Rattle.decoders.specs.BeliefPropagation.{start, wide}

-- with a round or more, no check has more than 32 edges
pub not_wide : (limit m : ℕ) (row : List ℕ) → (ltb 0 limit && wide m row) ≡ false → 0 < limit → wide m row ≡ false
not_wide limit m row e h = sym (ap (λ (b : Bool). b && wide m row) (lt-ltb 0 limit h)) ∙ e

pub not_wide_narrow : (m : ℕ) (row : List ℕ) → wide m row ≡ false → Narrow m row
unfolding wide
not_wide_narrow m row e c l = omega (arith, ltb-false 32 (nth row (c + 1) - nth row c) (any_below_not m c (λ i. ltb 32 (nth row (i + 1) - nth row i)) e l))

pub narrow : (limit m : ℕ) (row : List ℕ) → (ltb 0 limit && wide m row) ≡ false → 0 < limit → Narrow m row
narrow limit m row e h = not_wide_narrow m row (not_wide limit m row e h)

-- the state that rounds begin from, by the positions that the code lends
pub gone_start : (c : Code) (p : Parts) → IsSound c p → (metrics : List Float) (known limit : ℕ) (r : Ended) (w : List Float) (hard : List ℕ)
    → GoneOn (tanner_in c p) (begin (tanner_in c p) (values (c.n - c.rank) (nth p.info)) metrics known) limit r w hard
    → GoneOn (tanner_in c p) (start c p metrics known) limit r w hard
unfolding start
gone_start c p s metrics known limit r w hard g =
    subst (λ (l : List ℕ). GoneOn (tanner_in c p) (begin (tanner_in c p) l metrics known) limit r w hard) (positions_all c p s) g
