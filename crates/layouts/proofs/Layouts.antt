-- Every map's tables are a layout, of every list of degrees.
-- Assumes nothing.
use Prim.Native.Nat.{ℕ, ◌*◌, ◌%◌}
use mathlib.Core.Path.{refl}
use mathlib.Core.List.{List}
use native.Mathlib.Omega.{arith}
use Rattle.lists.specs.EachOnce.{EachOnce}
use Rattle.lists.specs.Entry.{nth}
use Rattle.lists.specs.Values.{values}
use Rattle.lists.proofs.Computed.{equal1}
use Rattle.lists.proofs.EachOnce.{each_once_ext}
use Rattle.lists.proofs.PlacedOnce.{each_once_back}
use Rattle.lists.proofs.Values.{values_at}
use Rattle.layouts.specs.declared.BitMap.{BitMap}
use Rattle.layouts.specs.declared.BitMap.TheVariants.{Plain, Heavy, Spread, SpreadHeavy}
use Rattle.layouts.specs.Layout.{IsLayout}
use Rattle.layouts.specs.Maps.{pos_of, slot_of, layout_of}
use Rattle.layouts.specs.Slots.{strong, heavy}
use Rattle.layouts.proofs.DealtOnce.{spread_over_once}
use Rattle.layouts.proofs.StrongSlots.{strong_once, heavy_distinct}
use Rattle.layouts.proofs.TakenOnce.{taken_once}

-- ---- rules given by values

values_once : (n : ℕ) (f : ℕ → ℕ) → EachOnce n f → EachOnce n (nth (values n f))
values_once n f w = each_once_ext n (nth (values n f)) f (λ t h. values_at f n t 0 h) w

own_once : (n : ℕ) → EachOnce n (nth (values n (λ i. i)))
own_once n = values_once n (λ i. i) (record { inside = λ t h. h; distinct = λ t v h l q. q })

-- 53 · 157 = 32 · 260 + 1
spread_once : EachOnce 260 (λ i. 53 * i % 260)
spread_once = each_once_back 260 (λ i. 53 * i % 260) (λ p. 157 * p % 260) (λ t h. omega arith) (equal1 260 (λ i. 157 * (53 * i % 260) % 260) (λ i. i) tt)

-- ---- every map

pub pos_once : (map : BitMap) (degrees : List ℕ) → EachOnce 260 (nth (pos_of map degrees))
unfolding pos_of
pos_once Plain degrees = own_once 260
pos_once Heavy degrees = own_once 260
pos_once Spread degrees = values_once 260 (λ i. 53 * i % 260) spread_once
pos_once SpreadHeavy degrees = spread_over_once (heavy degrees) (heavy_distinct degrees)

pub slot_once : (map : BitMap) (degrees : List ℕ) → EachOnce 52 (nth (slot_of map degrees))
unfolding slot_of
slot_once Plain degrees = own_once 52
slot_once Heavy degrees = taken_once (strong degrees) (strong_once degrees)
slot_once Spread degrees = own_once 52
slot_once SpreadHeavy degrees = own_once 52

pub layout_held : (map : BitMap) (degrees : List ℕ) → IsLayout (layout_of map degrees)
unfolding layout_of
layout_held map degrees = record { positions = pos_once map degrees; inverse = refl; slots = slot_once map degrees }
