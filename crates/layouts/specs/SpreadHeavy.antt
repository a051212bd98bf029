-- SpreadHeavy: the variable bits are dealt over the heavy slots' symbols, first to bit 0 of each, then to bit 1, .., until bits or places run out; the other bits take the free
-- places, both ascending. nb.rs, `deal` in `Tables::new`.
-- Assumes nothing.
use Rattle.std.specs.Prelude.{ℕ, ◌+◌, ◌*◌, min, List, length, replicate}
use Rattle.lists.specs.Chain.{chain}
use Rattle.lists.specs.Completed.{completed}
use Rattle.lists.specs.Entry.{nth}
use Rattle.lists.specs.Placed.{placed}
use Rattle.lists.specs.Values.{values}
use Rattle.layouts.specs.VariableBits.{variable}

unfoldable pub places : List ℕ → List ℕ
places slots = chain 5 (λ k. values (length slots) (λ e. 5 * nth slots e + k))

-- how many bits are dealt: all, or as many as there are places
unfoldable pub dealt : List ℕ → ℕ
dealt slots = min 96 (length (places slots))

-- the place of the t-th
unfoldable pub deal : List ℕ → ℕ → ℕ
deal slots t = nth (places slots) t

unfoldable pub spread_over : List ℕ → List ℕ
spread_over slots = placed 260 (completed 260 (dealt slots) variable) (completed 260 (dealt slots) (deal slots)) (replicate 260 0)
