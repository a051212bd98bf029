-- The edges' coefficients and variables inside their bounds, of any graph and of one that stands in parts; the check matrix then has field elements.
-- Assumes nothing.
use mathlib.Core.Path.{ap}
use mathlib.Core.Logic.{⊎_elim}
use mathlib.Core.List.{List, [], ◌∷◌, foldl}
use Prim.Native.Nat.{ℕ, suc, ◌+◌, ◌-◌, ◌<◌, ◌≤◌}
use native.Mathlib.Nat.{le_refl}
use native.Mathlib.Omega.{arith}
use lib.Dec.{lit<}
use lib.Bits.{bit_xor}
use lib.ListN.{length, get_or, get_or-eq_default}
use Rattle.lists.specs.Entry.{nth}
use Rattle.lists.proofs.Cases.{same_or_not, less_or_not}
use Rattle.lists.proofs.Choice.{pick_same, pick_other}
use Rattle.lists.proofs.Rising.{rises}
use Rattle.lists.proofs.Values.{values_at, values-length}
use Rattle.field.proofs.Sum.{xor32}
use Rattle.elimination.specs.Graph.{Edge, Graph, check_count, check}
use Rattle.elimination.specs.Matrix.{entry_turn, entry, matrix_of}
use Rattle.elimination.specs.Held.{held}
use Rattle.elimination.proofs.Held.{held_checks, held-check}

-- each coefficient is below 32
abbrev pub Small : Graph → Type 0
Small g = (c t : ℕ) → c < check_count g → t < length (check g c) → (get_or (check g c) t (0, 0)).1 < 32

-- each variable is below n
abbrev pub Inside : Graph → Type 0
Inside g = (c t : ℕ) → c < check_count g → t < length (check g c) → (get_or (check g c) t (0, 0)).0 < g.n

sum_lt : (j s : ℕ) (es : List Edge) → s < 32 → ((t : ℕ) → t < length es → (get_or es t (0, 0)).1 < 32) → foldl (entry_turn j) s es < 32
sum_lt j s [] h w = h
sum_lt j s (e ∷ es) h w = sum_lt j (entry_turn j s e) es turn (λ t l. w (suc t) (omega arith))
  where
    turn : entry_turn j s e < 32
    turn =
        ⊎_elim
        (λ q. rw (pick_same e.0 j (bit_xor s e.1) s q) (xor32 s e.1 h (w 0 (omega arith))))
        (λ q. rw (pick_other e.0 j (bit_xor s e.1) s q) h)
        (same_or_not e.0 j)

pub matrix_lt : (g : Graph) → Small g → (i j : ℕ) → matrix_of g i j < 32
unfolding matrix_of entry
matrix_lt g w i j =
    ⊎_elim
    (λ h. sum_lt j 0 (check g i) (lit< tt) (λ t. w i t h))
    (λ h. rw (get_or-eq_default g.checks [] h) (lit< tt))
    (less_or_not i (check_count g))

module _ (var coef row : List ℕ) where
  abbrev edge : ℕ → ℕ → Edge
  edge c j = (nth var (nth row c + j), nth coef (nth row c + j))

  -- what holds of each edge in the parts holds of each edge of the graph that they hold
  held_each : (P : Edge → Type 0) (n m : ℕ) → ((c : ℕ) → c < m → nth row c ≤ nth row (c + 1)) → ((e : ℕ) → e < nth row m → P (nth var e, nth coef e))
      → (c t : ℕ) → c < check_count (held n m var coef row) → t < length (check (held n m var coef row) c) → P (get_or (check (held n m var coef row) c) t (0, 0))
  held_each P n m up w c t h l =
      let b : c < m = omega (arith, h, held_checks n m var coef row) in
      let e = held-check n m var coef row c b in
      let k : t < nth row (c + 1) - nth row c = omega (arith, ap length e, values-length (edge c) (nth row (c + 1) - nth row c), l) in
      let top = rises m (nth row) up (c + 1) m (omega arith) (le_refl m) in
      rw (e, values_at (edge c) (nth row (c + 1) - nth row c) t (0, 0) k) (w (nth row c + t) (omega arith))

  pub held_small : (n m : ℕ) → ((c : ℕ) → c < m → nth row c ≤ nth row (c + 1)) → ((e : ℕ) → e < nth row m → nth coef e < 32) → Small (held n m var coef row)
  held_small n m up = held_each (λ e. e.1 < 32) n m up

  pub held_inside : (n m : ℕ) → ((c : ℕ) → c < m → nth row c ≤ nth row (c + 1)) → ((e : ℕ) → e < nth row m → nth var e < n) → Inside (held n m var coef row)
  unfolding held
  held_inside n m up = held_each (λ e. e.0 < n) n m up
