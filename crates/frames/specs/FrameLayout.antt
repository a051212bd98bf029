-- A frame's layout by its number. 4 × information set (0 echelon, 1 peeled by degree) + map (0 Plain, 1 Heavy, 2 Spread, 3 SpreadHeavy); nb.rs, `Layout`.
-- Assumes nothing.
use Rattle.std.specs.Prelude.{ℕ, zero, suc, ◌/◌, ◌%◌, Bool, List, [], ◌∷◌, ltb}
use Rattle.calls.specs.declared.Refusal.{Refusal}
use Rattle.calls.specs.declared.Refusal.TheVariants.{RateOrLayout}
use Rattle.layouts.specs.declared.BitMap.{BitMap}
use Rattle.layouts.specs.declared.BitMap.TheVariants.{Plain, Heavy, Spread, SpreadHeavy}
use Rattle.rates.specs.RateCode.{set_of}
use Rattle.frames.specs.declared.layout.FrameLayout.{FrameLayout}

-- a map by its number
abbrev pub map_of : ℕ → BitMap
map_of zero = Plain
map_of (suc zero) = Heavy
map_of (suc (suc zero)) = Spread
map_of (suc (suc (suc k))) = SpreadHeavy

unfoldable pub frame_layout : ℕ → FrameLayout
frame_layout number = record { set = set_of (number / 4); map = map_of (number % 4) }

-- 1: a layout above 7
abbrev pub layout_refusals : ℕ → List (Bool × Refusal)
layout_refusals number = (ltb 7 number, RateOrLayout) ∷ []
