-- What refusals 2 to 7 leave of a lent code. Ours; laws and functions below the public calls cite it.
-- Assumes nothing.
use Rattle.std.specs.Prelude.{ℕ, ◌+◌, ◌<◌, ◌≤◌, ◌≡◌, false, length}
use Rattle.lists.specs.EachOnce.{EachOnce}
use Rattle.lists.specs.Entry.{nth}
use Rattle.graph.specs.declared.Code.{Code}
use Rattle.elimination.specs.Elimination.{infos, table}
use Rattle.graph.specs.Parts.{Parts}
use Rattle.lent.specs.Malformed.{unused_hold}
use Rattle.lent.specs.Misencoded.{reduced_in}
use Rattle.graph.specs.Buildable.{PartsFit}

-- sizes and lengths that fit
pub record Fits (c : Code) (p : Parts) : Type 0 where
  pub n_small : c.n ≤ 256
  pub m_small : c.m ≤ 256
  pub parts : PartsFit p

-- k lists' starts from 0 to the count, without falling
pub record Starts (k count : ℕ) (starts : ℕ → ℕ) : Type 0 where
  pub first : starts 0 ≡ 0
  pub rise : (i : ℕ) → i < k → starts i ≤ starts (i + 1)
  pub last : starts k ≡ count

-- a graph with a column order, as number 6 leaves it
pub record Formed (c : Code) (p : Parts) : Type 0 where
  pub few : c.edges ≤ 512
  pub rows : Starts c.m c.edges (nth p.row)
  pub vars : (e : ℕ) → e < c.edges → nth p.var e < c.n
  pub once : (i s t : ℕ) → i < c.m → nth p.row i + s < nth p.row (i + 1) → nth p.row i + t < nth p.row (i + 1)
      → nth p.var (nth p.row i + s) ≡ nth p.var (nth p.row i + t) → s ≡ t
  pub coefs : (e : ℕ) → e < c.edges → (0 < nth p.coef e) × (nth p.coef e < 32)
  pub columns : Starts c.n c.edges (nth p.start)
  pub places : EachOnce c.edges (nth p.col)
  pub own : (v j : ℕ) → v < c.n → nth p.start v + j < nth p.start (v + 1) → nth p.var (nth p.col (nth p.start v + j)) ≡ v
  pub order : EachOnce c.n (nth p.order)

-- parity, information and table as number 7 leaves them
pub record Encoded (c : Code) (p : Parts) : Type 0 where
  pub rank : c.rank ≡ (reduced_in c p).rank
  pub parity : (i : ℕ) → i < c.rank → nth p.parity i ≡ (reduced_in c p).pivot i
  pub info : (t : ℕ) → t < length (infos c.n (reduced_in c p)) → nth p.info t ≡ nth (infos c.n (reduced_in c p)) t
  pub a : (k : ℕ) → k < length (table c.n (reduced_in c p)) → nth p.a k ≡ nth (table c.n (reduced_in c p)) k

pub record IsSound (c : Code) (p : Parts) : Type 0 where
  pub fits : Fits c p
  pub formed : Formed c p
  pub encoded : Encoded c p

-- a lent code that refusals 2 to 7 pass, and no other is one (`accepted` in proofs/SoundCode.antt, `sound_passes` in proofs/SoundPasses.antt): the type `Sound` holds it
pub record IsAccepted (c : Code) (p : Parts) : Type 0 where
  pub sound : IsSound c p
  pub unused : unused_hold c p ≡ false
