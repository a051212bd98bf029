-- Marks of the numbers met so far, as a loop keeps them that looks for an entry met twice: no two of those marked are the same.
-- Assumes nothing.
use Prim.Native.Nat.{ℕ, ◌+◌, ◌<◌}
use mathlib.Core.Path.{◌≡◌, sym, ◌∙◌}
use mathlib.Core.Bool.{Bool, true, false}
use mathlib.Core.List.{List}
use borrow.Author.Tests.{eq-eqb, ne_eqb}
use lib.Dec.{eqb}
use lib.ListN.{get_or, set, replicate}
use Rattle.lists.specs.AnyBelow.{any_below}
use Rattle.lists.specs.EachOnce.{repeated}
use Rattle.lists.specs.Marks.{Marks}
use Rattle.lists.proofs.AnyBelow.{any_below_start, any_below_on, any_below_hit, any_below_end, any_below_none}
use Rattle.lists.proofs.Among.{among-true, among-false}
use Rattle.lists.proofs.Marks.{marks_start, marks_on}

-- the marks of the first k numbers, no two of which are the same
pub record Marked (n : ℕ) (f : ℕ → ℕ) (k : ℕ) (seen : List Bool) : Type 0 where
  pub marks : Marks n f k seen
  pub fresh : repeated k f ≡ false

-- entry t is one met before
abbrev met : (ℕ → ℕ) → ℕ → Bool
met f t = any_below t (λ v. eqb (f t) (f v))

module _ (n : ℕ) (f : ℕ → ℕ) where
  pub marked_start : Marked n f 0 (replicate n false)
  unfolding repeated
  marked_start = record { marks = marks_start n f; fresh = any_below_start (met f) }

  module _ {k : ℕ} {seen : List Bool} (h : f k < n) (w : Marked n f k seen) where
    pub marked_on : get_or seen (f k) false ≡ false → Marked n f (k + 1) (set seen (f k) true)
    unfolding repeated
    marked_on e = record {
      marks = marks_on n f k seen h w.marks;
      fresh = any_below_on k (met f) (any_below_none k (λ v. eqb (f k) (f v)) (λ v l. ne_eqb (f k) (f v) (λ q. among-false k f (f k) (sym (w.marks.marked (f k) h) ∙ e) v l (sym q)))) w.fresh;
    }

    pub marked_hit : (m : ℕ) → k < m → get_or seen (f k) false ≡ true → true ≡ repeated m f
    unfolding repeated
    marked_hit m l e =
        let r = among-true k f (f k) (sym (w.marks.marked (f k) h) ∙ e) in
        any_below_hit m k (met f) l (sym (any_below_hit k r.0 (λ v. eqb (f k) (f v)) r.1 (eq-eqb (f k) (f r.0) (sym r.2))))

  pub marked_end : (m k : ℕ) {seen : List Bool} → k ≡ m → Marked n f k seen → false ≡ repeated m f
  unfolding repeated
  marked_end m k e w = any_below_end m k (met f) e w.fresh
