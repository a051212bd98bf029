-- The information slots of a code that is sound: where its parts have them.
-- Assumes nothing.
use Prim.Native.Nat.{ℕ, ◌<◌, ◌≤◌}
use mathlib.Core.Path.{◌≡◌, ap}
use native.Mathlib.Omega.{arith}
use lib.ListN.{length}
use Rattle.lists.specs.Entry.{nth}
use Rattle.lent.specs.Held.{Held}
use Rattle.lent.specs.LentCode.{graph_of}
use Rattle.lent.specs.Sound.{IsSound}
use Rattle.words.specs.Degree.{degree_in}
use Rattle.words.specs.K.{k_of}
use Rattle.words.proofs.LentWords.{positions-length, positions_at, positions_inside}
use Rattle.frames.specs.SlotSymbols.{slot_degree}

module _ (l : Held) (w : IsSound l.code l.parts) (enough : 52 ≤ k_of l) (j : ℕ) (h : j < 52) where
  pub slot_long : j < length l.parts.info
  slot_long = omega (arith, positions-length l.code l.parts w, w.fits.n_small, w.fits.parts.info)

  pub slot_inside : nth l.parts.info j < l.code.n
  slot_inside = positions_inside l.code l.parts w j (omega (arith, positions-length l.code l.parts w))

  pub slot_degree_is : degree_in (graph_of l) (nth l.parts.info j) ≡ slot_degree l j
  slot_degree_is = ap (degree_in (graph_of l)) (positions_at l.code l.parts w j (omega (arith, positions-length l.code l.parts w)))
