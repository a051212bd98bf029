-- The information slots of a code: its first 52 information positions, their degrees, the layout that a map makes by these, and a word's symbols in them. nb.rs, `Tables::new`, and
-- `decode_bits_prior_at` after the word.
-- Assumes nothing.
use Rattle.std.specs.Prelude.{ℕ, List, take}
use Rattle.lists.specs.Entry.{nth}
use Rattle.lists.specs.Values.{values}
use Rattle.lent.specs.Held.{Held}
use Rattle.lent.specs.LentCode.{graph_of}
use Rattle.words.specs.Degree.{degree_in}
use Rattle.words.specs.Encoding.{information_of}
use Rattle.words.specs.InfoOf.{own_symbols}
use Rattle.layouts.specs.declared.BitMap.{BitMap}
use Rattle.layouts.specs.Layout.{Layout}
use Rattle.layouts.specs.Maps.{layout_of}
use Rattle.layouts.specs.Symbols.{padded_bits}

abbrev pub slot_degree : Held → ℕ → ℕ
slot_degree l j = degree_in (graph_of l) (nth (information_of (graph_of l) l.parts.order) j)

unfoldable pub slot_degrees : Held → List ℕ
slot_degrees l = values 52 (slot_degree l)

unfoldable pub layout_in : Held → BitMap → Layout
layout_in l map = layout_of map (slot_degrees l)

-- a word's symbols in the slots, and its padded bits
unfoldable pub slot_symbols : Held → List ℕ → List ℕ
slot_symbols l word = take 52 (own_symbols l word)

unfoldable pub word_bits : Held → BitMap → List ℕ → List ℕ
word_bits l map word = padded_bits (layout_in l map) (slot_symbols l word)
