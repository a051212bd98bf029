-- A lent code whose parity, information and table are claimed as in Unique.antt passes number 7; with a graph that number 6 leaves it is not refused.
-- Assumes nothing.
use Prim.Native.Nat.{ℕ, ◌+◌, ◌-◌, ◌*◌, ◌<◌}
use mathlib.Core.Path.{◌≡◌, sym, ap, ◌∙◌}
use mathlib.Core.Bool.{false}
use mathlib.Core.List.{List, map}
use native.Mathlib.Omega.{arith}
use lib.ListN.{length, length-map}
use Rattle.lists.specs.Chain.{chain, start_of}
use Rattle.lists.specs.Entry.{nth}
use Rattle.lists.proofs.Chain.{chain_place, chain_at, start_even}
use Rattle.lists.proofs.Values.{values_at, map_entries}
use Rattle.elimination.specs.Elimination.{State, infos, table}
use Rattle.elimination.specs.Held.{held}
use Rattle.graph.specs.declared.Code.{Code}
use Rattle.graph.specs.Parts.{Parts}
use Rattle.lent.specs.LentCode.{NotRefused}
use Rattle.lent.specs.Malformed.{unused_hold}
use Rattle.lent.specs.Misencoded.{graph_in, reduced_in, misencoded}
use Rattle.lent.specs.Sound.{Fits, Formed, Encoded}
use Rattle.lent.proofs.Encoded.{formed_small, formed_inside}
use Rattle.lent.proofs.SoundPasses.{encoded_passes, sound_passes}
use Rattle.words.specs.Encoding.{information_of}
use Rattle.words.proofs.Unique.{Claimed, Given, unique}

-- the parts of a lent code, as a claim; the table stands row by row
abbrev pub ClaimedIn : Code → Parts → Type 0
ClaimedIn c p = Claimed (graph_in c p) p.order c.rank (nth p.parity) (nth p.info) (λ i t. nth p.a (i * (c.n - c.rank) + t))

-- a table's entry, of any state
table_at : (n : ℕ) (s : State) (a : List ℕ) (k : ℕ) → k ≡ length (infos n s) → ((i t : ℕ) → i < s.rank → t < k → nth a (i * k + t) ≡ s.matrix i (nth (infos n s) t))
    → (e : ℕ) → e < length (table n s) → nth a e ≡ nth (table n s) e
unfolding table
table_at n s a k q same e h =
    let i = x.0 in
    let j = x.1 in
    let jl : j < k = omega (arith, x.3, length-map (infos n s) (s.matrix i), q) in
    ap (nth a) (x.4 ∙ ap (λ (y : ℕ). y + j) (start_even k i row (λ l b. length-map (infos n s) (s.matrix l) ∙ sym q)))
    ∙ same i j x.2 jl
    ∙ sym (ap (λ (l : List ℕ). nth l j) (map_entries (s.matrix i) 0 (infos n s)) ∙ values_at (λ t. s.matrix i (nth (infos n s) t)) (length (infos n s)) j 0 (omega (arith, jl, q)))
    ∙ sym (chain_at row s.rank i j 0 x.2 x.3)
    ∙ ap (nth (chain s.rank row)) (sym x.4)
  where
    row : ℕ → List ℕ
    row i = map (s.matrix i) (infos n s)

    x : (i : ℕ) × (j : ℕ) × (i < s.rank) × (j < length (row i)) × (e ≡ start_of row i + j)
    x = chain_place row s.rank e h

module _ (c : Code) (p : Parts) (f : Formed c p) (d : ClaimedIn c p) where
  given : Given (graph_in c p) p.order c.rank (nth p.parity) (nth p.info) (λ i t. nth p.a (i * (c.n - c.rank) + t))
  unfolding held
  given = unique (graph_in c p) p.order (formed_small c p f) (formed_inside c p f) f.order d

  pub unique_encoded : Encoded c p
  unfolding held information_of
  unique_encoded = record {
    rank = given.rank;
    parity = given.pivots;
    info = λ t h. given.infos t (omega (arith, given.count));
    a = table_at c.n (reduced_in c p) p.a (c.n - c.rank) given.count (λ i t l h. given.table i t (omega (arith, given.rank)) h);
  }

  pub unique_passes : misencoded c p ≡ false
  unique_passes = encoded_passes c p unique_encoded

  pub unique_not_refused : Fits c p → unused_hold c p ≡ false → NotRefused c p
  unique_not_refused fits u = sound_passes c p (record { fits = fits; formed = f; encoded = unique_encoded }) u
