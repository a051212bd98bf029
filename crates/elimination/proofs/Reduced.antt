-- Elimination of a graph's check matrix: of any graph whose coefficients are below 32, and of one that stands in parts.
-- Assumes nothing.
use mathlib.Core.Path.{◌≡◌, sym, ap, ◌∙◌}
use mathlib.Core.Bool.{not}
use mathlib.Core.List.{List, map}
use Prim.Native.Nat.{ℕ, ◌+◌, ◌*◌, ◌<◌, ◌≤◌}
use native.Mathlib.Nat.{le_refl}
use native.Mathlib.Omega.{arith}
use lib.Dec.{eqb}
use lib.ListN.{length}
use Rattle.lists.specs.Among.{among}
use Rattle.lists.specs.Chain.{chain}
use Rattle.lists.specs.Entry.{nth}
use Rattle.lists.specs.Keep.{keep_below}
use Rattle.lists.specs.Laid.{laid}
use Rattle.lists.specs.Values.{values}
use Rattle.lists.proofs.AnyBelow.{any_below_ext}
use Rattle.lists.proofs.Chain.{chain_ext}
use Rattle.lists.proofs.Keep.{keep_below_ext}
use Rattle.lists.proofs.Laid.{laid_at, fill_at}
use Rattle.lists.proofs.Values.{values_ext, map_entries}
use Rattle.elimination.specs.Graph.{Graph, check_count}
use Rattle.elimination.specs.Matrix.{matrix_of}
use Rattle.elimination.specs.Elimination.{State, eliminated, reduced, infos, table}
use Rattle.elimination.specs.Held.{held}
use Rattle.elimination.specs.Standing.{Stands}
use Rattle.elimination.proofs.Eliminated.{Eliminated, eliminated_is}
use Rattle.elimination.proofs.Entries.{Small, matrix_lt, held_small}
use Rattle.elimination.proofs.Held.{held_checks}
use Rattle.elimination.proofs.Infos.{info_inside}
use Rattle.elimination.proofs.Alike.{eliminated_order}

pub reduced_is : (g : Graph) (order : List ℕ) → Small g → ((t : ℕ) → t < g.n → nth order t < g.n)
    → Eliminated (check_count g) g.n (nth order) (matrix_of g) g.n (reduced g order)
unfolding reduced
reduced_is g order w inside = eliminated_is (check_count g) g.n (nth order) (matrix_of g) inside (matrix_lt g w) g.n (le_refl g.n)

-- of the order the first n entries count
pub reduced_order : (g : Graph) (p q : List ℕ) → ((t : ℕ) → t < g.n → nth p t ≡ nth q t) → reduced g p ≡ reduced g q
unfolding reduced
reduced_order g p q e = eliminated_order (check_count g) g.n (nth p) (nth q) (matrix_of g) e

-- ---- in parts

pub reduced-held : (n m : ℕ) (var coef row order : List ℕ) → eliminated m (nth order) (matrix_of (held n m var coef row)) n ≡ reduced (held n m var coef row) order
unfolding reduced held
reduced-held n m var coef row order = ap (λ (k : ℕ). eliminated k (nth order) (matrix_of (held n m var coef row)) n) (sym (held_checks n m var coef row))

pub held_eliminated : (n m : ℕ) (var coef row order : List ℕ) → ((c : ℕ) → c < m → nth row c ≤ nth row (c + 1)) → ((e : ℕ) → e < nth row m → nth coef e < 32)
    → ((t : ℕ) → t < n → nth order t < n) → Eliminated m n (nth order) (matrix_of (held n m var coef row)) n (reduced (held n m var coef row) order)
held_eliminated n m var coef row order up small inside =
    rw (← reduced-held n m var coef row order)
    (eliminated_is m n (nth order) (matrix_of (held n m var coef row)) inside (matrix_lt (held n m var coef row) (held_small var coef row n m up small)) n (le_refl n))

module _ {m n r : ℕ} {s : State} {part h parity : List ℕ} (w : Stands m n s part h parity r) where
  -- the pivots that stand in the part
  pivot_at : (t : ℕ) → t < r → nth parity t ≡ s.pivot t
  pivot_at t l = fill_at s.pivot r part parity t 0 l w.pivots

  among_same : (j : ℕ) → among r (nth parity) j ≡ among s.rank s.pivot j
  unfolding among
  among_same j =
      any_below_ext r (λ t. eqb (nth parity t) j) (λ t. eqb (s.pivot t) j) (λ t l. ap (λ (x : ℕ). eqb x j) (pivot_at t l))
      ∙ ap (λ (k : ℕ). among k s.pivot j) w.rank

  pub infos_same : keep_below (λ j. not (among r (nth parity) j)) n ≡ infos n s
  unfolding infos
  infos_same = keep_below_ext (λ j. not (among r (nth parity) j)) (λ j. not (among s.rank s.pivot j)) n (λ j l. ap not (among_same j))

  pub pivots_same : parity ≡ laid (values s.rank s.pivot) part
  pivots_same = w.pivots ∙ ap (λ (k : ℕ). laid (values k s.pivot) part) w.rank

  module _ (fits : s.rank ≤ m) (k : ℕ) (info info₀ : List ℕ) (count : k ≡ length (infos n s)) (front : info ≡ laid (infos n s) info₀) where
    info_at : (t : ℕ) → t < k → nth info t ≡ nth (infos n s) t
    info_at t l = ap (λ (x : List ℕ). nth x t) front ∙ laid_at (infos n s) info₀ t 0 (omega arith)

    pub info_below : (t : ℕ) → t < k → nth info t < n
    info_below t l = rw (info_at t l) (info_inside n s t (omega arith))

    row_same : (i : ℕ) → i < r → values k (λ t. nth h (i * 256 + nth info t)) ≡ map (s.matrix i) (infos n s)
    row_same i l =
        values_ext k (λ t. nth h (i * 256 + nth info t)) (λ t. s.matrix i (nth (infos n s) t)) 0
        (λ t b. w.holds.same i (nth info t) (omega (arith, w.rank)) (info_below t b) ∙ ap (s.matrix i) (info_at t b))
        ∙ ap (λ (x : ℕ). values x (λ t. s.matrix i (nth (infos n s) t))) count
        ∙ sym (map_entries (s.matrix i) 0 (infos n s))

    pub table_same : chain r (λ i. values k (λ t. nth h (i * 256 + nth info t))) ≡ table n s
    unfolding table
    table_same =
        chain_ext r (λ i. values k (λ t. nth h (i * 256 + nth info t))) (λ i. map (s.matrix i) (infos n s)) row_same
        ∙ ap (λ (x : ℕ). chain x (λ i. map (s.matrix i) (infos n s))) w.rank
