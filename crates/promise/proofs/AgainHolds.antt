-- What is promised of frames holds of a frame's decoding and of the encoding of its bits as the two calls' clauses say it.
-- Assumes nothing.
use Prim.Native.Nat.{ℕ}
use mathlib.Core.Path.{◌≡◌, sym, subst}
use mathlib.Core.List.{List}
use lib.Ieee.{Float}
use lib.ListN.{length}
use Rattle.promise.specs.Again.{Again}
use Rattle.promise.specs.FrameCalls.{Toned, encode_bits_at, Framed, decode_bits_prior_at}
use Rattle.promise.proofs.FrameFields.{frame_fields}

module _ (rate layout fallback : ℕ) (metrics prior : List Float) (bits tones : List ℕ) (posteriors words bytes floats : ℕ) where
  abbrev framed : Framed
  framed = decode_bits_prior_at rate layout metrics prior fallback bits posteriors words bytes floats

  abbrev toned : List ℕ → Toned
  toned b = encode_bits_at rate layout b tones words bytes

  -- of what the two calls give together
  abbrev Holds : Framed → Toned → Type 0
  Holds x y = Again rate layout metrics prior (length tones) (record { decoding = x.answer; encoding = y.answer }) y.tones

  both : Holds framed (toned framed.bits)
  both =
      let w = frame_fields rate layout fallback metrics prior bits posteriors words bytes floats tones in
      record {
        accepted = w.frame_tones;
        word = w.frame_words;
        zeros = w.frame_zeros;
        rounds = w.frame_rounds;
        count = w.frame_count;
        ten = w.frame_ten;
      }

  pub again_holds : (x : Framed) (y : Toned) → x ≡ framed → y ≡ toned x.bits → Holds x y
  again_holds x y d e =
      subst (λ (z : Toned). Holds x z) (sym e)
      (subst (λ (z : Framed). Holds z (toned z.bits)) (sym d) both)
