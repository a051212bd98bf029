-- What the steps of the test of a lent code leave: its sizes and lengths, then a code that refusals 2 to 7 pass.
-- Assumes nothing.
use Prim.Native.Nat.{ℕ}
use mathlib.Core.Path.{◌≡◌, sym, ◌∙◌}
use mathlib.Core.Bool.{Bool, false}
use mathlib.Core.List.{[], ◌∷◌, ◌++◌}
use Rattle.std.specs.Prelude.{Ok}
use Rattle.calls.specs.declared.Refusal.TheVariants.{Size, Length, Malformed, Misencoded}
use Rattle.calls.specs.Refusal.{first_of, answered, misfits}
use Rattle.calls.proofs.Refusals.{pass, alike, by_ok}
use Rattle.graph.specs.declared.Code.{Code}
use Rattle.graph.specs.Sizes.{too_large, code_lengths}
use Rattle.graph.specs.Parts.{Parts}
use Rattle.lent.specs.Malformed.{malformed}
use Rattle.lent.specs.Misencoded.{misencoded}
use Rattle.lent.specs.LentCode.{matrix_lengths}
use Rattle.lent.specs.Sound.{Fits, IsAccepted}
use Rattle.lent.proofs.Fits.{lent_fits}
use Rattle.lent.proofs.Formed.{formed, unused_pass}
use Rattle.lent.proofs.Encoded.{encoded}

module _ (c : Code) (p : Parts) where
  -- h and pivots are the lengths of the work parts, and `misfit` what the tests of the lengths say
  module _ (h pivots : ℕ) (rest : Bool) {misfit : Bool} {u : Unit {0}} (m : misfit ≡ misfits (code_lengths p ++ matrix_lengths h pivots) rest)
      (e : Ok u ≡ answered (first_of ((too_large c.n c.m, Size) ∷ (misfit, Length) ∷ [])) tt) where
    fit : Fits c p × (misfits (matrix_lengths h pivots) rest ≡ false)
    fit =
        let r = pass (too_large c.n c.m) Size ((misfit, Length) ∷ []) (by_ok (first_of ((too_large c.n c.m, Size) ∷ (misfit, Length) ∷ [])) tt e).0 in
        lent_fits c p (misfits (matrix_lengths h pivots) rest) r.0 (sym m ∙ (pass misfit Length [] r.1).0)

    pub early_fits : Fits c p
    early_fits = fit.0

    pub early_work : (h ≡ 65536) × (pivots ≡ 256)
    early_work = let a = (alike (matrix_lengths h pivots) rest fit.1).0 in (a.0, a.1.0)

  pub late_accepted : {u : Unit {0}} → Fits c p → Ok u ≡ answered (first_of ((malformed c p, Malformed) ∷ (misencoded c p, Misencoded) ∷ [])) tt → IsAccepted c p
  late_accepted f e =
      let wrong = pass (malformed c p) Malformed ((misencoded c p, Misencoded) ∷ []) (by_ok (first_of ((malformed c p, Malformed) ∷ (misencoded c p, Misencoded) ∷ [])) tt e).0 in
      let other = pass (misencoded c p) Misencoded [] wrong.1 in
      record { sound = record { fits = f; formed = formed c p wrong.0; encoded = encoded c p other.0 }; unused = unused_pass c p wrong.0 }
