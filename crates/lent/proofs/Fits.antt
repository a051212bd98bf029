-- What numbers 2 and 3 leave of a lent code.
-- Assumes nothing.
use mathlib.Core.Path.{◌≡◌}
use mathlib.Core.Bool.{Bool, false}
use Rattle.calls.specs.Refusal.{misfits}
use Rattle.calls.proofs.Refusals.{alike}
use Rattle.graph.specs.declared.Code.{Code}
use Rattle.graph.specs.Sizes.{too_large, code_lengths}
use Rattle.graph.specs.Parts.{Parts}
use Rattle.graph.proofs.Sizes.{sizes_small, parts_fit}
use Rattle.lent.specs.Sound.{Fits}

-- `rest` is the test of further parts
pub lent_fits : (c : Code) (p : Parts) (rest : Bool) → too_large c.n c.m ≡ false → misfits (code_lengths p) rest ≡ false → Fits c p × (rest ≡ false)
lent_fits c p rest e d =
    let s = sizes_small c.n c.m e in
    let r = alike (code_lengths p) rest d in
    (record { n_small = s.0; m_small = s.1; parts = parts_fit p r.0 }, r.1)
