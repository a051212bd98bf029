-- Sums and multiples of symbols: their lengths and entries, the same list added twice, and two lists added in either order; and entries of two lists combined in any way.
-- Assumes nothing.
use Prim.Native.Nat.{ℕ, max, ◌<◌, ◌≤◌}
use mathlib.Core.Path.{◌≡◌, refl, sym, ap, ap₂, ◌∙◌}
use mathlib.Core.Logic.{⊎_elim}
use mathlib.Core.List.{List, map}
use native.Mathlib.Omega.{arith}
use lib.Bits.{bit_xor, xor_comm, xor_self, xor_zero_r, xor_lt, xor_assoc}
use lib.ListN.{length, get_or, length-map, get_or-eq_default, get_or-map}
use lib.Seq.{ext_get_or}
use Rattle.lists.specs.Entry.{nth}
use Rattle.lists.specs.Values.{values}
use Rattle.lists.proofs.Cases.{less_or_not}
use Rattle.lists.proofs.Values.{values-length, values_at}
use Rattle.field.specs.Field.{product}
use Rattle.field.proofs.Product.{product-zero}
use Rattle.words.specs.Linear.{sum_of, multiple_of}

-- ---- two lists combined position by position

-- as long as the longer, a missing symbol being 0
abbrev pub combined : (ℕ → ℕ → ℕ) → List ℕ → List ℕ → List ℕ
combined f x y = values (max (length x) (length y)) (λ j. f (nth x j) (nth y j))

-- at every position, also past the end
pub combined_at : (f : ℕ → ℕ → ℕ) → f 0 0 ≡ 0 → (x y : List ℕ) (j : ℕ) → nth (combined f x y) j ≡ f (nth x j) (nth y j)
combined_at f zeros x y j =
    ⊎_elim
    (λ h. values_at rule (max (length x) (length y)) j 0 h)
    (λ h. get_or-eq_default (combined f x y) 0 (omega (arith, h, values-length rule (max (length x) (length y))))
    ∙ sym (ap₂ f (get_or-eq_default x 0 (omega (arith, h))) (get_or-eq_default y 0 (omega (arith, h))) ∙ zeros))
    (less_or_not j (max (length x) (length y)))
  where
    rule : ℕ → ℕ
    rule j = f (nth x j) (nth y j)

-- ---- sums

pub sum_length : (x y : List ℕ) → length (sum_of x y) ≡ max (length x) (length y)
unfolding sum_of
sum_length x y = values-length (λ j. bit_xor (nth x j) (nth y j)) (max (length x) (length y))

-- of lists of one length it is as long as they are
pub sum_alike : (x y : List ℕ) → length x ≡ length y → sum_of x y ≡ values (length x) (λ j. bit_xor (nth x j) (nth y j))
unfolding sum_of
sum_alike x y e = ap (λ (n : ℕ). values n (λ j. bit_xor (nth x j) (nth y j))) (omega (arith, e))

-- at every position, also past the end
pub sum_at : (x y : List ℕ) (v : ℕ) → nth (sum_of x y) v ≡ bit_xor (nth x v) (nth y v)
unfolding sum_of
sum_at = combined_at bit_xor refl

pub sum_small : (x y : List ℕ) → ((v : ℕ) → nth x v < 32) → ((v : ℕ) → nth y v < 32) → (v : ℕ) → nth (sum_of x y) v < 32
sum_small x y a b v = rw (sum_at x y v) (xor_lt 5 (nth x v) (nth y v) (a v) (b v))

sums_at : (x y z : List ℕ) (v : ℕ) → nth (sum_of (sum_of x y) z) v ≡ bit_xor (nth x v) (bit_xor (nth y v) (nth z v))
sums_at x y z v = sum_at (sum_of x y) z v ∙ ap (λ (a : ℕ). bit_xor a (nth z v)) (sum_at x y v) ∙ xor_assoc (nth x v) (nth y v) (nth z v)

-- added twice, where it is no longer than what it is added to
pub sum_twice : (x y : List ℕ) → length y ≤ length x → sum_of (sum_of x y) y ≡ x
sum_twice x y h =
    ext_get_or 0 (sum_of (sum_of x y) y) x (omega (arith, sum_length (sum_of x y) y, sum_length x y))
    (λ v l. sums_at x y y v ∙ ap (bit_xor (nth x v)) (xor_self (nth y v)) ∙ xor_zero_r (nth x v))

pub sum_swap : (x y z : List ℕ) → sum_of (sum_of x y) z ≡ sum_of (sum_of x z) y
sum_swap x y z =
    ext_get_or 0 (sum_of (sum_of x y) z) (sum_of (sum_of x z) y)
    (omega (arith, sum_length (sum_of x y) z, sum_length x y, sum_length (sum_of x z) y, sum_length x z))
    (λ v l. sums_at x y z v ∙ ap (bit_xor (nth x v)) (xor_comm (nth y v) (nth z v)) ∙ sym (sums_at x z y v))

-- ---- multiples

pub multiple_at : (d : ℕ) (x : List ℕ) (j : ℕ) → nth (multiple_of d x) j ≡ product d (nth x j)
unfolding multiple_of
multiple_at d x j = ap (get_or (map (product d) x) j) (sym (product-zero d)) ∙ get_or-map (product d) x j 0

pub multiple_length : (d : ℕ) (x : List ℕ) → length (multiple_of d x) ≡ length x
unfolding multiple_of
multiple_length d x = length-map x (product d)
