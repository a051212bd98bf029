-- A matrix in a part, changed column by column: below column j it is the new one, from there on the old one.
-- Assumes nothing.
use mathlib.Core.Path.{◌≡◌, refl, sym, ap, ◌∙◌}
use mathlib.Core.Logic.{◌≢◌, ◌⊎◌, inl, inr, ⊎_elim}
use mathlib.Core.List.{List}
use Prim.Native.Nat.{ℕ, ◌+◌, ◌-◌, ◌*◌, ◌<◌, ◌≤◌}
use native.Mathlib.Nat.{le_refl}
use native.Mathlib.Omega.{arith}
use borrow.Rule.Slice.PartMut.{put_mid}
use lib.ListN.{length, set, take, drop, length-take, length-drop}
use lib.Seq.{get_or-set_same, get_or-set_other, lt-length-set, get_or-take, get_or-drop}
use Rattle.lists.specs.Entry.{nth}
use Rattle.lists.specs.Changed.{changed}
use Rattle.lists.specs.Laid.{laid_from}
use Rattle.lists.proofs.Cases.{same_or_not, less_or_not}
use Rattle.lists.proofs.Laid.{from_before, from_own, from_after}
use Rattle.lists.proofs.InPlace.{put_laid}
use Rattle.lists.proofs.Changed.{changed_at, changed_other}
use Rattle.elimination.specs.Matrix.{Matrix}
use Rattle.elimination.specs.Elimination.{swapped}
use Rattle.elimination.specs.Standing.{Holds}
use Rattle.elimination.proofs.Swapped.{swapped_r, swapped_p, swapped_other}

-- the matrix that stands in a part
abbrev pub flat : List ℕ → Matrix
flat l i j = nth l (i * 256 + j)

pub holds_flat : (m n : ℕ) (l : List ℕ) → Holds m n (flat l) l
holds_flat m n l = record { same = λ i j a b. refl }

-- a part holds every matrix with the same entries
pub holds_ext : {m n : ℕ} {g t : Matrix} {l : List ℕ} → Holds m n g l → ((i j : ℕ) → i < m → j < n → g i j ≡ t i j) → Holds m n t l
holds_ext w e = record { same = λ i j a b. w.same i j a b ∙ e i j a b }

pub record Columns (m n : ℕ) (g t : Matrix) (j : ℕ) (l : List ℕ) : Type 0 where
  pub done : (i q : ℕ) → i < m → q < j → nth l (i * 256 + q) ≡ t i q
  pub rest : (i q : ℕ) → i < m → j ≤ q → q < n → nth l (i * 256 + q) ≡ g i q

module _ {m n : ℕ} {g t : Matrix} where
  -- column j is the new one's, and the others are as they were
  columns_on : {j : ℕ} {l k : List ℕ} → Columns m n g t j l → n ≤ 256 → j < n → ((i : ℕ) → i < m → nth k (i * 256 + j) ≡ t i j)
      → ((i q : ℕ) → q < 256 → q ≢ j → nth k (i * 256 + q) ≡ nth l (i * 256 + q)) → Columns m n g t (j + 1) k
  columns_on {j} w hn hj a b = record {
    done = λ i q hi hq. ⊎_elim (λ e. rw e (a i hi)) (λ d. b i q (omega arith) d ∙ w.done i q hi (omega (arith, d))) (same_or_not q j);
    rest = λ i q hi l hq. b i q (omega arith) (omega arith) ∙ w.rest i q hi (omega arith) hq;
  }

-- ---- a row is changed

-- a row in the place of row i
pub row_put : {m n : ℕ} {g : Matrix} {h : List ℕ} (i : ℕ) (row : List ℕ) (f : ℕ → ℕ) → Holds m n g h → n ≤ 256 → i * 256 + n ≤ length h → n ≡ length row
    → ((j : ℕ) → j < n → nth row j ≡ f j) → Holds m n (changed g i f) (put_mid (i * 256) (i * 256 + n - i * 256) h row)
row_put {m} {n} {g} {h} i row f w hn b l e = record { same = λ a j ha hj. ap (λ (k : List ℕ). nth k (a * 256 + j)) (put_laid (i * 256) n h row l) ∙ go a j ha hj (same_or_not a i) (less_or_not a i) }
  where
    go : (a j : ℕ) → a < m → j < n → (a ≡ i) ⊎ (a ≢ i) → (a < i) ⊎ (i ≤ a) → nth (laid_from (i * 256) row h) (a * 256 + j) ≡ changed g i f a j
    go a j ha hj (inl q) _ =
        rw q (from_own (i * 256) j row h 0 (omega arith) (omega arith) ∙ e j hj ∙ sym (ap (λ (x : ℕ → ℕ). x j) (changed_at g i f i refl)))
    go a j ha hj (inr d) (inl k) =
        from_before (i * 256) (a * 256 + j) row h 0 (omega arith) (omega arith) ∙ w.same a j ha hj ∙ sym (ap (λ (x : ℕ → ℕ). x j) (changed_other g i f a d))
    go a j ha hj (inr d) (inr k) =
        from_after (i * 256) (a * 256 + j) row h 0 (omega (arith, d)) (omega arith) ∙ w.same a j ha hj ∙ sym (ap (λ (x : ℕ → ℕ). x j) (changed_other g i f a d))

-- and row i as it stands
pub row_is : {m n : ℕ} {g : Matrix} {h : List ℕ} (i k : ℕ) → Holds m n g h → i < m → n ≤ k → (j : ℕ) → j < n → nth (take (i * 256 + k - i * 256) (drop (i * 256) h)) j ≡ g i j
row_is {m} {n} {g} {h} i k w hi b j hj =
    let q : i * 256 + k - i * 256 ≡ k = omega arith in
    ap (λ (x : ℕ). nth (take x (drop (i * 256) h)) j) q ∙ get_or-take k (drop (i * 256) h) j 0 (omega arith) ∙ get_or-drop (i * 256) h j 0 ∙ w.same i j hi hj

pub row_length : (h : List ℕ) (at k : ℕ) → at + k ≤ length h → length (take (at + k - at) (drop at h)) ≡ k
row_length h at k b = simp (length-take, length-drop) (omega arith)

-- ---- two are exchanged

pub swapped-set : {m n : ℕ} {g : Matrix} {r p j : ℕ} {l : List ℕ} → Columns m n g (swapped r p g) j l → n ≤ 256 → j < n → r < m → p < m
    → r * 256 + j < length l → p * 256 + j < length l → Columns m n g (swapped r p g) (j + 1) (set (set l (r * 256 + j) (nth l (p * 256 + j))) (p * 256 + j) (nth l (r * 256 + j)))
swapped-set {m} {n} {g} {r} {p} {j} {l} w hn hj hr hp a b =
    columns_on w hn hj
    (λ i h. ⊎_elim
    (λ d. rw d (get_or-set_same k (p * 256 + j) y 0 (lt-length-set l (r * 256 + j) x b) ∙ w.rest r j hr (le_refl j) hj ∙ sym (ap (λ (f : ℕ → ℕ). f j) (swapped_p r p g))))
    (λ d. get_or-set_other k (p * 256 + j) (i * 256 + j) y 0 (omega (arith, d)) ∙ first i h d)
    (same_or_not i p))
    (λ i q h d. get_or-set_other k (p * 256 + j) (i * 256 + q) y 0 (omega arith) ∙ get_or-set_other l (r * 256 + j) (i * 256 + q) x 0 (omega arith))
  where
    x : ℕ
    x = nth l (p * 256 + j)

    y : ℕ
    y = nth l (r * 256 + j)

    k : List ℕ
    k = set l (r * 256 + j) x

    first : (i : ℕ) → i < m → i ≢ p → nth k (i * 256 + j) ≡ swapped r p g i j
    first i h d =
        ⊎_elim
        (λ e. rw e (get_or-set_same l (r * 256 + j) x 0 a ∙ w.rest p j hp (le_refl j) hj ∙ sym (ap (λ (f : ℕ → ℕ). f j) (swapped_r r p g))))
        (λ e. get_or-set_other l (r * 256 + j) (i * 256 + j) x 0 (omega (arith, e)) ∙ w.rest i j h (le_refl j) hj ∙ sym (ap (λ (f : ℕ → ℕ). f j) (swapped_other r p g i e d)))
        (same_or_not i r)
