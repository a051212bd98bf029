-- Laws of the loop over a list's entries in place: what stands at a position before, at and after the turns that are done.
-- Assumes nothing.
use Prim.Native.Nat.{ℕ, zero, suc, ◌≤◌, ◌<◌}
use mathlib.Core.Path.{◌≡◌, refl, ap, ◌∙◌}
use mathlib.Core.List.{List}
use mathlib.Core.Logic.{⊎_elim}
use native.Mathlib.Omega.{arith}
use native.Mathlib.Nat.{eq-or-lt_of_le, le_of_suc-le-suc, not-suc-le-zero}
use lib.ListN.{length, get_or, length-set}
use lib.Seq.{get_or-set_same, get_or-set_other}
use Rattle.lists.specs.Iter.{iter}
use Rattle.lists.specs.Each.{each}

module _ {A : Type 0} (d : A) (g : ℕ → A → A) where
  pub each-length : (n : ℕ) (l : List A) → length (each d n g l) ≡ length l
  unfolding iter each
  each-length zero l = refl
  each-length (suc n) l = rw (length-set, each-length n l)

  pub each_after : (n : ℕ) (l : List A) (j : ℕ) → n ≤ j → get_or (each d n g l) j d ≡ get_or l j d
  unfolding iter each
  each_after zero l j h = refl
  each_after (suc n) l j h = get_or-set_other (each d n g l) n j _ d (λ e. omega arith) ∙ each_after n l j (omega arith)

  pub each_at : (n : ℕ) (l : List A) (j : ℕ) → j < n → j < length l → get_or (each d n g l) j d ≡ g j (get_or l j d)
  unfolding iter each
  each_at zero l j h b = absurd (not-suc-le-zero h)
  each_at (suc n) l j h b =
      ⊎_elim
      (λ e. rw e (get_or-set_same (each d n g l) n (g n (get_or (each d n g l) n d)) d (rw each-length (omega arith)) ∙ ap (g n) (each_after n l n (omega arith))))
      (λ k. get_or-set_other (each d n g l) n j (g n (get_or (each d n g l) n d)) d (λ e. omega arith) ∙ each_at n l j k b)
      (eq-or-lt_of_le (le_of_suc-le-suc h))
