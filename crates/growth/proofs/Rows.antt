-- Laws of a table's rows: their lengths and entries, and what a push makes of them.
-- Assumes nothing.
use Prim.Native.Nat.{ℕ, ◌+◌, ◌-◌, ◌*◌, ◌<◌, ◌≤◌}
use mathlib.Core.Path.{◌≡◌, refl, ap, sym, ◌∙◌, fun_ext}
use mathlib.Core.List.{List, [], ◌∷◌, ◌++◌}
use mathlib.Core.Logic.{⊎_elim, ◌≢◌}
use native.Mathlib.Omega.{arith}
use lib.ListN.{length, set, take, drop, length-set, length-take, length-drop, get_or-eq_default}
use lib.Seq.{get_or-set_same, get_or-set_other, drop-set-add, drop-set-lt, take-set-le}
use Rattle.lists.specs.Entry.{nth}
use Rattle.lists.proofs.Cases.{same_or_not, less_or_not}
use Rattle.lists.proofs.Choice.{pick_same, pick_other}
use Rattle.lists.proofs.Keep.{push_more}
use Rattle.growth.specs.Adjacency.{pushed}
use Rattle.growth.specs.IsTable.{IsTable}
use Rattle.growth.specs.Rows.{rows, SameSlices, growth_of}
use Rattle.growth.specs.declared.table.Table.{Table}
use Rattle.field.specs.declared.splitmix64.SplitMix64.{SplitMix64}

pub rows-length : (cells counts : List ℕ) (r : ℕ) → IsTable cells counts → r < 256 → length (rows cells counts r) ≡ nth counts r
unfolding rows
rows-length cells counts r t h = let a = t.short r in let b = t.wide in simp (length-take, length-drop) (omega arith)

-- the counts are the rows' lengths, also past the table
pub counts_are : (cells counts : List ℕ) → IsTable cells counts → (λ (r : ℕ). length (rows cells counts r)) ≡ nth counts
unfolding rows
counts_are cells counts t = fun_ext (λ r. ⊎_elim (λ h. rows-length cells counts r t h) (λ h. past r h) (less_or_not r 256))
  where
    past : (r : ℕ) → 256 ≤ r → length (rows cells counts r) ≡ nth counts r
    past r h =
        let z : nth counts r ≡ 0 = get_or-eq_default counts 0 (omega (arith, t.long)) in
        rw z

pub rows_none : (cells counts : List ℕ) → ((r : ℕ) → nth counts r ≡ 0) → rows cells counts ≡ (λ (r : ℕ). [])
unfolding rows
rows_none cells counts h = fun_ext (λ r. ap (λ (k : ℕ). take k (drop (r * 256) cells)) (h r))

-- ---- x behind the entries of row r

module _ (cells counts : List ℕ) (r x : ℕ) (t : IsTable cells counts) (h : r < 256) (b : nth counts r < 256) where
  abbrev cells' : List ℕ
  cells' = set cells (r * 256 + nth counts r) x

  abbrev counts' : List ℕ
  counts' = set counts r (nth counts r + 1)

  here : rows cells' counts' r ≡ rows cells counts r ++ x ∷ []
  unfolding rows
  here =
      let l : r < length counts = omega (arith, t.long) in
      let q : nth counts r < length (drop (r * 256) cells) = simp length-drop (omega (arith, t.wide)) in
      rw (get_or-set_same counts r (nth counts r + 1) 0 l, drop-set-add, push_more (drop (r * 256) cells) (nth counts r) x q)

  there : (q : ℕ) → q ≢ r → rows cells' counts' q ≡ rows cells counts q
  unfolding rows
  there q n =
      rw (get_or-set_other counts r q (nth counts r + 1) 0 n)
      (⊎_elim (λ l. ap (take (nth counts q)) (drop-set-lt (q * 256) cells (r * 256 + nth counts r) x l)) (λ l. far l) (less_or_not (r * 256 + nth counts r) (q * 256)))
    where
      far : q * 256 ≤ r * 256 + nth counts r → take (nth counts q) (drop (q * 256) cells') ≡ take (nth counts q) (drop (q * 256) cells)
      far l =
          let i : ℕ = r * 256 + nth counts r - q * 256 in
          let e : r * 256 + nth counts r ≡ q * 256 + i = omega arith in
          let s : nth counts q ≤ i = omega (arith, t.short q, n) in
          ap (λ (p : ℕ). take (nth counts q) (drop (q * 256) (set cells p x))) e
          ∙ ap (take (nth counts q)) (drop-set-add (q * 256) cells i x)
          ∙ take-set-le (nth counts q) (drop (q * 256) cells) i x s

  pub rows_push : rows cells' counts' ≡ pushed (rows cells counts) r x
  unfolding pushed
  rows_push =
      fun_ext
      (λ q. ⊎_elim
      (λ e. ap (rows cells' counts') e ∙ here ∙ sym (pick_same q r (rows cells counts r ++ x ∷ []) (rows cells counts q) e))
      (λ n. there q n ∙ sym (pick_other q r (rows cells counts r ++ x ∷ []) (rows cells counts q) n))
      (same_or_not q r))

-- an entry and a count are written
pub table_set : (cells counts : List ℕ) (i x r k : ℕ) → IsTable cells counts → r < 256 → k ≤ 256 → IsTable (set cells i x) (set counts r k)
table_set cells counts i x r k t h b = record {
  long = length-set counts r k ∙ t.long;
  wide = length-set cells i x ∙ t.wide;
  short = λ q. ⊎_elim
      (λ e. rw e (let z = get_or-set_same counts r k 0 (omega (arith, t.long)) in omega arith))
      (λ n. let z = get_or-set_other counts r q k 0 n in omega (arith, t.short q))
      (same_or_not q r);
}

-- ---- tables

-- two tables on the slices that they began on, and after one turn more
pub slices_start : (a b : Table) → SameSlices a a × SameSlices b b
slices_start a b = (record { cells = refl; counts = refl }, record { cells = refl; counts = refl })

pub slices_on : (a b c x y z : Table) → SameSlices b c × SameSlices y z → SameSlices a b × SameSlices x y → SameSlices a c × SameSlices x z
slices_on a b c x y z q p = (after a b c q.0 p.0, after x y z q.1 p.1)
  where
    after : (a b c : Table) → SameSlices b c → SameSlices a b → SameSlices a c
    after a b c q p = record { cells = q.cells ∙ p.cells; counts = q.counts ∙ p.counts }

-- what holds of tables holds of tables equal to them
pub growth_by : (a b a' b' : Table) (g g' : SplitMix64) → a' ≡ a → b' ≡ b → g' ≡ g → growth_of a' b' g' ≡ growth_of a b g
growth_by a b a' b' g g' p q r = rw (p, q, r)

pub slices_by : (a b b' x y y' : Table) → b' ≡ b → y' ≡ y → SameSlices a b × SameSlices x y → SameSlices a b' × SameSlices x y'
slices_by a b b' x y y' e f s = rw (e, f) s
