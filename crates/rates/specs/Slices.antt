-- How a code stands in two slices, one of u16 and one of u8: its parts one after another. Ours; functions below the public calls cite it.
-- Assumes nothing.
use Rattle.std.specs.Prelude.{ℕ, List, ◌++◌}
use Rattle.graph.specs.Parts.{Parts}

-- 512 + 257 + 257 + 512 + 256 + 256 + 256 = 2,306 entries
unfoldable pub code_words : Parts → List ℕ
code_words p = p.var ++ (p.row ++ (p.start ++ (p.col ++ (p.order ++ (p.parity ++ p.info)))))

-- 512 + 16,384 = 16,896 entries
unfoldable pub code_bytes : Parts → List ℕ
code_bytes p = p.coef ++ p.a
