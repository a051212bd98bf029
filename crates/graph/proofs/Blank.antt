-- A cleared table holds no entries.
-- Assumes nothing.
use Prim.Native.Nat.{ℕ}
use mathlib.Core.Path.{◌≡◌, ap, ◌∙◌}
use mathlib.Core.List.{List, []}
use native.Mathlib.Omega.{arith}
use lib.ListN.{length, replicate, length-replicate}
use Rattle.lists.specs.Entry.{nth}
use Rattle.lists.proofs.Blank.{blank_at}
use Rattle.growth.specs.IsTable.{IsTable}
use Rattle.growth.specs.Rows.{rows}
use Rattle.growth.proofs.Rows.{rows_none}

module _ (cells counts : List ℕ) (k : ℕ) (cleared : counts ≡ replicate k 0) where
  pub blank_counts : (r : ℕ) → nth counts r ≡ 0
  blank_counts r = ap (λ (l : List ℕ). nth l r) cleared ∙ blank_at k r 0

  pub blank_table : length cells ≡ 65536 → k ≡ 256 → IsTable cells counts
  blank_table w e = record {
    long = ap length cleared ∙ length-replicate {A = ℕ} k 0 ∙ e;
    wide = w;
    short = λ r. omega (arith, blank_counts r);
  }

  pub blank_rows : (r : ℕ) → rows cells counts r ≡ []
  blank_rows r = ap (λ (f : ℕ → List ℕ). f r) (rows_none cells counts blank_counts)
