-- What is promised of peeling (docs/PROMISE.md), of every code that is not refused, whatever the preferences are and whichever of equal picks is taken: the picks, the column
-- order that they give, and that "both information sets" of a code "have the same" words.
-- Assumes nothing.
use Rattle.std.specs.Prelude.{ℕ, ◌<◌, ◌≤◌, ◌≡◌, ◌↔◌, Bool, true, false, List, ℤ, pos, ◌≤ℤ◌, length, get_or}
use Rattle.lists.specs.EachOnce.{EachOnce}
use Rattle.lists.specs.Entry.{nth}
use Rattle.elimination.specs.Graph.{Graph}
use Rattle.graph.specs.declared.Code.{Code}
use Rattle.graph.specs.Parts.{Parts}
use Rattle.lent.specs.LentCode.{NotRefused}
use Rattle.lent.specs.Misencoded.{graph_in}
use Rattle.words.specs.Encoding.{information_of, encoding, info_symbols}
use Rattle.words.specs.Word.{Symbols}
use Rattle.peeling.specs.Best.{Key}
use Rattle.peeling.specs.Peeling.{Known, freed, pick_of, peeled, picks_of}
use Rattle.peeling.specs.WithPeeledInfo.{order_of, code_in, parts_in}

-- symbol w is not better than b: it frees no more checks, of those that free as many it is not preferred, and of equal ones the last is b, or the first
pub record NotBetter (last : Bool) (key : ℕ → Key) (w b : ℕ) : Type 0 where
  pub frees : (key w).0 ≤ (key b).0
  pub prefers : (key w).0 ≡ (key b).0 → (key w).1 ≤ℤ (key b).1
  pub later : last ≡ true → (key w).0 ≡ (key b).0 → (key w).1 ≡ (key b).1 → w ≤ b
  pub earlier : last ≡ false → (key w).0 ≡ (key b).0 → (key w).1 ≡ (key b).1 → b ≤ w

module _ (last : Bool) (c : Code) (p : Parts) (prefer : List ℤ) where
  abbrev g : Graph
  g = graph_in c p

  abbrev picks : List ℕ
  picks = picks_of last g prefer

  abbrev order : List ℕ
  order = order_of last c p prefer

  -- the peeled code
  abbrev d : Code
  d = code_in c p order

  abbrev q : Parts
  q = parts_in c p order

  pub record PeeledWell : Type 0 where
    -- the picks are distinct positions
    pub positions : (t : ℕ) → t < length picks → nth picks t < c.n
    pub distinct : (s t : ℕ) → s < length picks → t < length picks → nth picks s ≡ nth picks t → s ≡ t
    -- peeling ends with every symbol known
    pub known : (v : ℕ) → v < c.n → (peeled last g prefer c.n).known v ≡ true
    -- whatever is known, no unknown symbol is better than the one that is picked
    pub best : (known : Known) (w : ℕ) → w < c.n → known w ≡ false → NotBetter last (λ v. (freed g known v, get_or prefer v (pos 0))) w (pick_of last g prefer known)
    -- the new column order holds each position once
    pub each_once : EachOnce c.n (nth order)
    -- the peeled code is not refused
    pub not_refused : NotRefused d q
    -- and has the same words: n symbols below 32 are the encoding of their own information symbols in the one exactly when they are in the other
    pub same_words : (x : List ℕ) → Symbols c.n x
        → (x ≡ encoding g p.order (info_symbols g p.order x)) ↔ (x ≡ encoding (graph_in d q) q.order (info_symbols (graph_in d q) q.order x))
    -- its information positions are among the picks
    pub infos : (t : ℕ) → t < length (information_of (graph_in d q) q.order)
        → (u : ℕ) × (u < length picks) × (nth picks u ≡ nth (information_of (graph_in d q) q.order) t)

-- with `last` as in Best
abbrev pub Promised : Type 0
Promised = (last : Bool) (c : Code) (p : Parts) (prefer : List ℤ) → NotRefused c p → PeeledWell last c p prefer
