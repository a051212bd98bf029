-- Refusal 9 never comes in a frame: no check of the four codes has more than 32 edges.
-- Assumes nothing.
use Prim.Native.Nat.{ℕ, ◌+◌, ◌-◌, ◌<◌}
use mathlib.Core.Path.{◌≡◌, ap, ◌∙◌}
use mathlib.Core.Bool.{false}
use native.Mathlib.Omega.{arith}
use borrow.Author.Tests.{le-ltb}
use lib.Dec.{ltb}
use lib.ListN.{length}
use Rattle.lists.specs.Entry.{nth}
use Rattle.lists.proofs.AnyBelow.{any_below_none}
use Rattle.lists.proofs.Values.{values-length}
use Rattle.elimination.specs.Graph.{Graph, check}
use Rattle.elimination.proofs.Held.{held-check}
use Rattle.lent.specs.Held.{Held}
use Rattle.lent.specs.LentCode.{graph_of}
use Rattle.rates.specs.declared.InfoSet.{InfoSet}
use Rattle.rates.specs.Rate.{rate_of}
use Rattle.rates.specs.RateCode.{rate_code}
use Rattle.rates.proofs.Narrow.{narrow}
use Rattle.rates.proofs.RateCode.{rate_m, rate_graph_is}
use Rattle.rates.proofs.Rates.{rates_are}
use Rattle.decoders.specs.BeliefPropagation.{wide}

-- a check of a lent code has as many edges as lie between its row start and the next one's
check-length : (l : Held) (c : ℕ) → c < l.code.m → length (check (graph_of l) c) ≡ nth l.parts.row (c + 1) - nth l.parts.row c
check-length l c h =
    let p = l.parts in
    ap length (held-check l.code.n l.code.m p.var p.coef p.row c h)
    ∙ values-length (λ j. (nth p.var (nth p.row c + j), nth p.coef (nth p.row c + j))) (nth p.row (c + 1) - nth p.row c)

pub never_wide : (rate : ℕ) → rate < 4 → (set : InfoSet) → wide (rate_code (rate_of rate) set).code.m (rate_code (rate_of rate) set).parts.row ≡ false
unfolding wide
never_wide rate h set =
    let l = rate_code (rate_of rate) set in
    let ok = rates_are rate h in
    any_below_none l.code.m (λ i. ltb 32 (nth l.parts.row (i + 1) - nth l.parts.row i))
    (λ i b. le-ltb 32 (nth l.parts.row (i + 1) - nth l.parts.row i) (omega (
      arith,
      check-length l i b,
      ap (λ (g : Graph). length (check g i)) (rate_graph_is (rate_of rate) ok set),
      narrow rate h i (omega (arith, b, rate_m (rate_of rate) ok set)),
    )))
