-- What refusals 1 and 3 leave of a call that decodes a frame: a rate.
-- Assumes nothing.
use Prim.Native.Nat.{ℕ, ◌*◌}
use mathlib.Core.Path.{◌≡◌, sym, subst}
use mathlib.Core.List.{[], ◌∷◌}
use native.Mathlib.Omega.{arith}
use borrow.Author.Tests.{ltb-false}
use lib.Dec.{ltb}
use Rattle.std.specs.Prelude.{Ok}
use Rattle.calls.specs.declared.Refusal.TheVariants.{RateOrLayout, Length}
use Rattle.calls.specs.Refusal.{first_of, answered, misfit}
use Rattle.calls.proofs.Refusals.{pass, by_ok}
use Rattle.rates.specs.Rate.{IsRate, rate_of}
use Rattle.rates.proofs.Rates.{rates_are}
use Rattle.frames.specs.declared.decode.Asked.{Asked}
use Rattle.frames.specs.Decode.{decode_refusals, asked_of, floats_length}
use Rattle.frames.specs.Work.{words_length, bytes_length}

module _ (rate layout fallback metrics bits posteriors words bytes floats : ℕ) {asked : Asked}
    (e : Ok asked ≡ answered (first_of (decode_refusals rate layout fallback metrics bits posteriors words bytes floats)) (asked_of rate layout fallback)) where
  pub asked_rate : IsRate asked.rate
  asked_rate =
      let n = (rate_of rate).n in
      let b = by_ok (first_of (decode_refusals rate layout fallback metrics bits posteriors words bytes floats)) (asked_of rate layout fallback) e in
      let p =
      pass (ltb 3 rate) RateOrLayout
      ((ltb 7 layout, RateOrLayout)
      ∷ (ltb 1 fallback, RateOrLayout)
      ∷ (misfit ((metrics, n * 32) ∷ (bits, 256) ∷ (posteriors, n * 32) ∷ (words, words_length) ∷ (bytes, bytes_length) ∷ (floats, floats_length) ∷ []), Length)
      ∷ [])
      b.0 in
      subst (λ (x : Asked). IsRate x.rate) (sym b.1) (rates_are rate (let l = ltb-false 3 rate p.0 in omega (arith, l)))
