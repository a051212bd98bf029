-- One value at one slot and 0 at all others, its multiples, and the symbols of a multiple of its encoding.
-- Assumes nothing.
use Prim.Native.Nat.{ℕ, ◌%◌, ◌<◌}
use mathlib.Core.Path.{◌≡◌, sym, ap, ◌∙◌}
use mathlib.Core.Logic.{◌≢◌, ⊎_elim}
use mathlib.Core.List.{List}
use native.Mathlib.Nat.{mod-eq_of_lt}
use native.Mathlib.Omega.{arith}
use lib.ListN.{length, set, replicate, length-set, length-replicate}
use lib.Seq.{ext_get_or, get_or-set_same, get_or-set_other}
use Rattle.lists.specs.Entry.{nth}
use Rattle.lists.proofs.Blank.{blank_at}
use Rattle.lists.proofs.Cases.{same_or_not}
use Rattle.field.specs.Field.{product}
use Rattle.field.proofs.Product.{product_comm, product-zero, one_product}
use Rattle.elimination.specs.Graph.{Graph}
use Rattle.words.specs.Encoding.{information_of, symbol}
use Rattle.words.specs.Linear.{multiple_of}
use Rattle.words.proofs.Sums.{multiple_at, multiple_length}
use Rattle.words.proofs.Encodings.{encoding_info}
use Rattle.candidates.specs.ListWord.{unit_codeword}

product_one : (d : ℕ) → d < 32 → product d 1 ≡ d
product_one d h = product_comm d 1 ∙ one_product d h

-- ---- d at slot s of k

module _ (k s d : ℕ) (h : d < 32) (inside : s < k) where
  abbrev one : ℕ → List ℕ
  one x = set (replicate k 0) s x

  one_at : (x t : ℕ) → t ≡ s → nth (one x) t ≡ x
  one_at x t e = ap (nth (one x)) e ∙ get_or-set_same (replicate k 0) s x 0 (omega (arith, length-replicate {A = ℕ} k 0))

  one_other : (x t : ℕ) → t ≢ s → nth (one x) t ≡ 0
  one_other x t n = get_or-set_other (replicate k 0) s t x 0 n ∙ blank_at k t 0

  pub unit_same : (t : ℕ) → t ≡ s → symbol (set (replicate k 0) s d) t ≡ d
  unit_same t e = ap (λ (x : ℕ). x % 32) (one_at d t e) ∙ mod-eq_of_lt h

  pub unit_other : (t : ℕ) → t ≢ s → symbol (set (replicate k 0) s d) t ≡ 0
  unit_other t n = ap (λ (x : ℕ). x % 32) (one_other d t n)

  one-length : (x : ℕ) → length (one x) ≡ k
  one-length x = length-set (replicate k 0) s x ∙ length-replicate k 0

  pub unit_multiple : multiple_of d (set (replicate k 0) s 1) ≡ set (replicate k 0) s d
  unit_multiple =
      ext_get_or 0 (multiple_of d (one 1)) (one d) (multiple_length d (one 1) ∙ one-length 1 ∙ sym (one-length d))
      (λ t l. multiple_at d (one 1) t
      ∙ ⊎_elim
      (λ e. ap (product d) (one_at 1 t e) ∙ product_one d h ∙ sym (one_at d t e))
      (λ n. ap (product d) (one_other 1 t n) ∙ product-zero d ∙ sym (one_other d t n))
      (same_or_not t s))

-- ---- a multiple of its encoding, at the information positions

module _ (g : Graph) (order : List ℕ) (s d t : ℕ) (inside : s < length (information_of g order)) (l : t < length (information_of g order)) where
  abbrev k : ℕ
  k = length (information_of g order)

  at_slot : nth (multiple_of d (unit_codeword g order s)) (nth (information_of g order) t) ≡ product d (symbol (set (replicate k 0) s 1) t)
  unfolding unit_codeword
  at_slot =
      multiple_at d (unit_codeword g order s) (nth (information_of g order) t)
      ∙ ap (product d) (encoding_info g order (set (replicate k 0) s 1) t l)

  pub multiple_same : d < 32 → t ≡ s → nth (multiple_of d (unit_codeword g order s)) (nth (information_of g order) t) ≡ d
  multiple_same h e = at_slot ∙ ap (product d) (unit_same k s 1 (omega arith) inside t e) ∙ product_one d h

  pub multiple_other : t ≢ s → nth (multiple_of d (unit_codeword g order s)) (nth (information_of g order) t) ≡ 0
  multiple_other n = at_slot ∙ ap (product d) (unit_other k s 1 (omega arith) inside t n) ∙ product-zero d
