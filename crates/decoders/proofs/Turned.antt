-- What the tests of a decoding before its rounds leave where none holds.
-- Assumes nothing.
use Prim.Native.Nat.{ℕ}
use mathlib.Core.Path.{◌≡◌}
use mathlib.Core.Bool.{Bool, false, ◌&&◌}
use mathlib.Core.List.{List, [], ◌∷◌}
use lib.Dec.{ltb}
use Rattle.std.specs.Prelude.{None}
use Rattle.calls.specs.declared.Refusal.{Refusal}
use Rattle.calls.specs.declared.Refusal.TheVariants.{WideCheck}
use Rattle.calls.specs.Refusal.{first_of}
use Rattle.calls.proofs.Refusals.{pass, both_pass}
use Rattle.graph.specs.declared.Code.{Code}
use Rattle.graph.specs.Parts.{Parts}
use Rattle.lent.specs.LentCode.{code_refusals}
use Rattle.lent.specs.Sound.{IsSound}
use Rattle.lent.proofs.SoundCode.{passed, work_fits}
use Rattle.decoders.specs.BeliefPropagation.{wide, tests}

module _ (c : Code) (p : Parts) (h pivots : ℕ) (rest : Bool) (limit : ℕ) where
  abbrev own : List (Bool × Refusal)
  own = (ltb 0 limit && wide c.m p.row, WideCheck) ∷ []

  -- where none of them holds
  module _ (e : first_of (tests c p h pivots rest limit) ≡ None) where
    pass_all : (first_of (code_refusals c p h pivots rest) ≡ None) × (first_of own ≡ None)
    pass_all = both_pass (code_refusals c p h pivots rest) own e

    pub tests_code : IsSound c p × (rest ≡ false)
    tests_code = passed c p h pivots rest pass_all.0

    pub tests_width : (ltb 0 limit && wide c.m p.row) ≡ false
    tests_width = (pass (ltb 0 limit && wide c.m p.row) WideCheck [] pass_all.1).0

    pub tests_work : (h ≡ 65536) × (pivots ≡ 256)
    tests_work = work_fits c p h pivots rest pass_all.0
