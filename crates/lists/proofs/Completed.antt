-- r numbers below n, no two the same, and the others after them are each number below n once.
-- Assumes nothing.
use mathlib.Core.Path.{◌≡◌, sym, ◌∙◌}
use mathlib.Core.Bool.{true, not}
use mathlib.Core.Logic.{◌⊎◌, inl, inr, ⊎_elim}
use Prim.Native.Nat.{ℕ, ◌+◌, ◌-◌, ◌<◌, ◌≤◌}
use native.Mathlib.Omega.{arith}
use borrow.Author.Tests.{not-true}
use lib.ListN.{length}
use Rattle.lists.specs.Among.{among}
use Rattle.lists.specs.EachOnce.{EachOnce}
use Rattle.lists.specs.Entry.{nth}
use Rattle.lists.proofs.Among.{among-false, others_count}
use Rattle.lists.proofs.Cases.{less_or_not}
use Rattle.lists.proofs.Choice.{pick_less, pick_not_less}
use Rattle.lists.proofs.Keep.{keep_below_passes, keep_below_ascends}
use Rattle.lists.proofs.Rising.{rises_apart}
use Rattle.lists.specs.Completed.{rest, completed}

module _ (n r : ℕ) (f : ℕ → ℕ) where
  pub completed_first : (t : ℕ) → t < r → completed n r f t ≡ f t
  unfolding completed
  completed_first t h = pick_less t r _ _ h

  pub completed-rest : (t : ℕ) → r ≤ t → completed n r f t ≡ nth (rest n r f) (t - r)
  unfolding completed
  completed-rest t h = pick_not_less t r _ _ h

  module _ (a : (t : ℕ) → t < r → f t < n) (d : (t v : ℕ) → t < r → v < r → f t ≡ f v → t ≡ v) where
    pub rest_count : r + length (rest n r f) ≡ n
    unfolding rest
    rest_count = others_count n r f a d

    rest_passes : (t : ℕ) → t < length (rest n r f) → (nth (rest n r f) t < n) × (not (among r f (nth (rest n r f) t)) ≡ true)
    unfolding rest
    rest_passes t h = keep_below_passes (λ j. not (among r f j)) n t h

    rest_distinct : (t v : ℕ) → t < length (rest n r f) → v < length (rest n r f) → nth (rest n r f) t ≡ nth (rest n r f) v → t ≡ v
    unfolding rest
    rest_distinct = rises_apart (length (rest n r f)) (nth (rest n r f)) (keep_below_ascends (λ j. not (among r f j)) n)

    apart : (t v : ℕ) → t < r → v < length (rest n r f) → f t ≡ nth (rest n r f) v → ⊥
    apart t v h l e = among-false r f (nth (rest n r f) v) (not-true _ (rest_passes v l).1) t h e

    pub completed_once : EachOnce n (completed n r f)
    completed_once = record { inside = inside; distinct = λ t v h l q. distinct t v h l q (less_or_not t r) (less_or_not v r) }
      where
        inside : (t : ℕ) → t < n → completed n r f t < n
        inside t h =
            ⊎_elim
            (λ l. omega (arith, completed_first t l, a t l))
            (λ l. omega (arith, completed-rest t l, (rest_passes (t - r) (omega (arith, rest_count))).0))
            (less_or_not t r)

        distinct : (t v : ℕ) → t < n → v < n → completed n r f t ≡ completed n r f v → (t < r) ⊎ (r ≤ t) → (v < r) ⊎ (r ≤ v) → t ≡ v
        distinct t v h l q (inl x) (inl y) = d t v x y (sym (completed_first t x) ∙ q ∙ completed_first v y)
        distinct t v h l q (inl x) (inr y) = absurd (apart t (v - r) x (omega (arith, rest_count)) (sym (completed_first t x) ∙ q ∙ completed-rest v y))
        distinct t v h l q (inr x) (inl y) = absurd (apart v (t - r) y (omega (arith, rest_count)) (sym (completed_first v y) ∙ sym q ∙ completed-rest t x))
        distinct t v h l q (inr x) (inr y) =
            let e = rest_distinct (t - r) (v - r) (omega (arith, rest_count)) (omega (arith, rest_count)) (sym (completed-rest t x) ∙ q ∙ completed-rest v y) in
            omega (arith, e, x, y)
