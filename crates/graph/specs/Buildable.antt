-- What the refusals leave of the input of a build. Ours; no public call's contract cites it.
-- Assumes nothing.
use Rattle.std.specs.Prelude.{ℕ, ◌<◌, ◌≤◌, ◌≡◌, List, length}
use Rattle.lists.specs.Entry.{nth}
use Rattle.lists.specs.Total.{total}
use Rattle.graph.specs.Parts.{Parts}
use Rattle.graph.specs.New.{Work}

-- n degrees of at most m that sum to at most 512
pub record Buildable (n m : ℕ) (degrees : List ℕ) : Type 0 where
  pub n_small : n ≤ 256
  pub m_small : m ≤ 256
  pub long : length degrees ≡ n
  pub low : (v : ℕ) → v < n → nth degrees v ≤ m
  pub sum : total n (nth degrees) ≤ 512

-- parts of a code's lengths
pub record PartsFit (p : Parts) : Type 0 where
  pub var : length p.var ≡ 512
  pub coef : length p.coef ≡ 512
  pub row : length p.row ≡ 257
  pub start : length p.start ≡ 257
  pub col : length p.col ≡ 512
  pub order : length p.order ≡ 256
  pub parity : length p.parity ≡ 256
  pub info : length p.info ≡ 256
  pub a : length p.a ≡ 16384

pub record WorkFits (w : Work) : Type 0 where
  pub chk : length w.chk ≡ 65536
  pub load : length w.load ≡ 256
  pub own : length w.own ≡ 65536
  pub deg : length w.deg ≡ 256
