-- What is promised of frames: of every code that is not refused and has a position for each of a frame's symbols, and so of every rate and layout.
-- Assumes nothing.
use Rattle.std.specs.Prelude.{ℕ, ◌*◌, ◌<◌, ◌≤◌, ◌≡◌, false, List, Float, length}
use Rattle.lent.specs.Held.{Held}
use Rattle.lent.specs.LentCode.{NotRefused}
use Rattle.words.specs.K.{k_of}
use Rattle.layouts.specs.declared.BitMap.{BitMap}
use Rattle.rates.specs.declared.InfoSet.{InfoSet}
use Rattle.rates.specs.declared.Rate.{Rate}
use Rattle.rates.specs.Rate.{rate_of, IsRate}
use Rattle.rates.specs.RateCode.{rate_code}
use Rattle.decoders.specs.BeliefPropagation.{wide}
use Rattle.frames.specs.declared.decode.Fallback.{Fallback}
use Rattle.frames.specs.declared.layout.FrameLayout.{FrameLayout}
use Rattle.frames.specs.FrameDecodes.{FrameDecodes}
use Rattle.frames.specs.FrameTones.{Tones, FrameTones}

pub record Promised : Type 0 where
  -- the tones of all bits
  pub tones : (l : Held) (map : BitMap) → NotRefused l.code l.parts → 52 ≤ k_of l → Tones l map
  pub rate_tones : (r : Rate) (layout : FrameLayout) → IsRate r → FrameTones r layout
  -- the decoding of all metrics, with all priors and either fallback, where refusal 9 does not come
  pub decoding : (l : Held) (map : BitMap) (metrics prior : List Float) (fallback : Fallback) → NotRefused l.code l.parts → 52 ≤ k_of l
      → wide l.code.m l.parts.row ≡ false → length metrics ≡ l.code.n * 32 → FrameDecodes l map metrics prior fallback
  pub rate_decoding : (r : Rate) (layout : FrameLayout) (metrics prior : List Float) (fallback : Fallback) → IsRate r
      → wide (rate_code r layout.set).code.m (rate_code r layout.set).parts.row ≡ false → length metrics ≡ r.n * 32
      → FrameDecodes (rate_code r layout.set) layout.map metrics prior fallback
  -- and it never comes at the four rates: no check has more than 32 edges
  pub narrow : (rate : ℕ) → rate < 4 → (set : InfoSet) → wide (rate_code (rate_of rate) set).code.m (rate_code (rate_of rate) set).parts.row ≡ false
