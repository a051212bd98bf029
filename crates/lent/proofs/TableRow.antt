-- A row of the table beside a row of the matrix, as the code lends both, is that row's entries at their places.
-- Assumes nothing.
use mathlib.Core.Path.{◌≡◌, ap, ap₂, ◌∙◌}
use mathlib.Core.Bool.{not}
use mathlib.Core.List.{List}
use Prim.Native.Nat.{ℕ, ◌+◌, ◌*◌, ◌<◌, ◌≤◌}
use native.Mathlib.Omega.{arith}
use lib.Dec.{eqb}
use lib.ListN.{length, take, drop}
use lib.Seq.{length-take-le, get_or-take}
use Rattle.lists.specs.AnyBelow.{any_below}
use Rattle.lists.specs.Entry.{nth}
use Rattle.lists.proofs.AnyBelow.{any_below_ext}
use Rattle.lists.proofs.ListSearch.{middle_at}
use Rattle.elimination.proofs.TableRows.{factor}

-- m and n are the lengths of the two rows, written as the code's bounds give them
pub row_lent : (a h info : List ℕ) (i at k m n : ℕ) → m ≡ k → n ≡ 256 → k ≤ length info → ((t : ℕ) → t < k → nth info t < 256)
    → any_below (length (take k info)) (λ t. not (eqb (nth (take m (drop at a)) t) (nth (take n (drop (i * 256) h)) (nth (take k info) t))))
    ≡ any_below k (λ t. not (eqb (nth a (at + t)) (factor h info i t)))
row_lent a h info i at k m n p q long inside =
    let row : List ℕ = take n (drop (i * 256) h) in
    ap (λ (x : ℕ). any_below x (λ t. not (eqb (nth (take m (drop at a)) t) (nth row (nth (take k info) t))))) (length-take-le k info long)
    ∙ any_below_ext k (λ t. not (eqb (nth (take m (drop at a)) t) (nth row (nth (take k info) t)))) (λ t. not (eqb (nth a (at + t)) (factor h info i t)))
    (λ t b. ap not (ap₂ eqb (middle_at a at m t (omega (arith, p, b)))
    (ap (nth row) (get_or-take k info t 0 b) ∙ middle_at h (i * 256) n (nth info t) (omega (arith, q, inside t b)))))
