-- The tones of a frame's 256 bits: its symbols, encoded. nb.rs, `encode_bits_at`.
-- Assumes nothing.
use Rattle.std.specs.Prelude.{ℕ, List}
use Rattle.lent.specs.Held.{Held}
use Rattle.words.specs.Encode.{encoded}
use Rattle.layouts.specs.declared.BitMap.{BitMap}
use Rattle.layouts.specs.Symbols.{symbols_of}
use Rattle.rates.specs.declared.Rate.{Rate}
use Rattle.rates.specs.RateCode.{rate_code}
use Rattle.frames.specs.declared.layout.FrameLayout.{FrameLayout}
use Rattle.frames.specs.SlotSymbols.{layout_in}

-- by a code and a map
unfoldable pub tones_in : Held → BitMap → List ℕ → List ℕ
tones_in l map bits = encoded l (symbols_of (layout_in l map) bits)

-- at a rate and in a layout
unfoldable pub tones_of : Rate → FrameLayout → List ℕ → List ℕ
tones_of rate layout bits = tones_in (rate_code rate layout.set) layout.map bits
