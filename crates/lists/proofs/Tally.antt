-- How many numbers below a bound pass a test: one more where the test passes one number more, and at most one more for each step of the bound.
-- Assumes nothing.
use mathlib.Core.Path.{◌≡◌, sym, ap, ◌∙◌}
use mathlib.Core.Logic.{◌≢◌, ⊎_elim}
use mathlib.Core.Bool.{Bool, true, false}
use mathlib.Core.List.{List, [], ◌∷◌}
use Prim.Native.Nat.{ℕ, zero, suc, ◌+◌, ◌<◌, ◌≤◌}
use native.Mathlib.Nat.{not-suc-le-zero, le_of_suc-le-suc, eq-or-lt_of_le, add-zero, add-suc}
use native.Mathlib.Numerals.{add-one}
use native.Mathlib.Omega.{arith}
use lib.ListN.{length, length-append}
use Rattle.lists.specs.Choice.{pick}
use Rattle.lists.specs.Keep.{keep, keep_below}
use Rattle.lists.specs.Total.{total}
use Rattle.lists.specs.Values.{values}
use Rattle.lists.proofs.Cases.{same_or_not, true_or_false}
use Rattle.lists.proofs.Choice.{pick-true, pick-false}
use Rattle.lists.proofs.Keep.{keep-append, keep_one, keep_below_yes, keep_below_no, keep_below_ext, keep_below_empty, keep_below-length, keep_below_up}
use Rattle.lists.proofs.Total.{total_none, total-suc}
use Rattle.lists.proofs.Values.{values_none, values_more}

-- a test that passes one number more
module _ (f g : ℕ → Bool) (p : ℕ) (new : f p ≡ false) (there : g p ≡ true) (same : (j : ℕ) → j ≢ p → g j ≡ f j) where
  pub one_more : (n : ℕ) → p < n → length (keep_below g n) ≡ suc (length (keep_below f n))
  one_more zero h = absurd (not-suc-le-zero h)
  one_more (suc n) h =
      ⊎_elim
      (λ e.
      let a = ap length (keep_below_yes g n (ap g e ∙ there)) ∙ length-append (keep_below g n) (n ∷ []) in
      let b = ap length (keep_below_no f n (ap f e ∙ new)) in
      let c = ap length (keep_below_ext g f n (λ j l. same j (λ q. omega arith))) in
      omega arith)
      (λ k.
      let i = one_more n (omega (arith, k)) in
      let q = same n k in
      ⊎_elim
      (λ y.
      let a = ap length (keep_below_yes g n y) ∙ length-append (keep_below g n) (n ∷ []) in
      let b = ap length (keep_below_yes f n (sym q ∙ y)) ∙ length-append (keep_below f n) (n ∷ []) in
      omega arith)
      (λ y.
      let a = ap length (keep_below_no g n y) in
      let b = ap length (keep_below_no f n (sym q ∙ y)) in
      omega arith)
      (true_or_false (g n)))
      (same_or_not n p)

module _ (test : ℕ → Bool) where
  pub tally_yes : (m : ℕ) → test m ≡ true → length (keep_below test (suc m)) ≡ suc (length (keep_below test m))
  tally_yes m t = let a = ap length (keep_below_yes test m t) ∙ length-append (keep_below test m) (m ∷ []) in omega arith

  pub tally_past : (m n : ℕ) → m ≤ n → length (keep_below test n) + m ≤ length (keep_below test m) + n
  tally_past m zero h = let e : m ≡ 0 = omega arith in rw e (omega arith)
  tally_past m (suc n) h =
      ⊎_elim
      (λ e. rw e (omega arith))
      (λ l.
      let i = tally_past m n (le_of_suc-le-suc l) in
      ⊎_elim
      (λ t. let a = tally_yes n t in omega arith)
      (λ t. let a = ap length (keep_below_no test n t) in omega arith)
      (true_or_false (test n)))
      (eq-or-lt_of_le h)

  -- where all pass
  pub tally_all : (m : ℕ) → ((j : ℕ) → j < m → test j ≡ true) → length (keep_below test m) ≡ m
  unfolding keep_below
  tally_all zero h = omega arith
  tally_all (suc m) h = let a = tally_yes m (h m (omega arith)) in let i = tally_all m (λ j l. h j (omega arith)) in omega arith

  -- where none passes
  pub tally_none : (m : ℕ) → ((j : ℕ) → j < m → test j ≡ false) → length (keep_below test m) ≡ 0
  tally_none zero h = keep_below_empty test
  tally_none (suc m) h = ap length (keep_below_no test m (h m (omega arith))) ∙ tally_none m (λ j l. h j (omega arith))

  -- where fewer pass than there are, one does not
  pub tally_left : (m : ℕ) → length (keep_below test m) < m → (u : ℕ) × (u < m) × (test u ≡ false)
  tally_left zero h = absurd (not-suc-le-zero h)
  tally_left (suc m) h =
      ⊎_elim
      (λ t. let a = tally_yes m t in let r = tally_left m (omega arith) in (r.0, omega (arith, r.1), r.2))
      (λ t. (m, omega arith, t))
      (true_or_false (test m))

  -- where as many pass as there are, each does
  pub tally_full : (m j : ℕ) → length (keep_below test m) ≡ m → j < m → test j ≡ true
  tally_full zero j e h = absurd (not-suc-le-zero h)
  tally_full (suc m) j e h =
      ⊎_elim
      (λ t. let a = tally_yes m t in ⊎_elim (λ q. ap test q ∙ t) (λ l. tally_full m j (omega arith) l) (eq-or-lt_of_le (le_of_suc-le-suc h)))
      (λ t. let a = ap length (keep_below_no test m t) in absurd (omega (arith, keep_below-length test m)))
      (true_or_false (test m))

-- a test that passes whatever another one does, and one number more
module _ (f g : ℕ → Bool) where
  pub tally_most : (n : ℕ) → ((j : ℕ) → j < n → f j ≡ true → g j ≡ true) → length (keep_below f n) ≤ length (keep_below g n)
  tally_most zero e = let a = keep_below_empty f in omega arith
  tally_most (suc n) e =
      let i = tally_most n (λ j l. e j (omega arith)) in
      ⊎_elim
      (λ t. omega (arith, tally_yes f n t, tally_yes g n (e n (omega arith) t)))
      (λ t. let a = ap length (keep_below_no f n t) in omega (arith, keep_below_up g (suc n) n (omega arith)))
      (true_or_false (f n))

  pub tally_fewer : (n p : ℕ) → p < n → f p ≡ false → g p ≡ true → ((j : ℕ) → j < n → f j ≡ true → g j ≡ true) → length (keep_below f n) < length (keep_below g n)
  tally_fewer zero p h new there e = absurd (not-suc-le-zero h)
  tally_fewer (suc n) p h new there e =
      ⊎_elim
      (λ q.
      let a = ap length (keep_below_no f n (ap f (sym q) ∙ new)) in
      let b = tally_yes g n (ap g (sym q) ∙ there) in
      omega (arith, tally_most n (λ j l. e j (omega arith))))
      (λ l.
      let i = tally_fewer n p l new there (λ j l. e j (omega arith)) in
      ⊎_elim
      (λ t. omega (arith, tally_yes f n t, tally_yes g n (e n (omega arith) t)))
      (λ t. let a = ap length (keep_below_no f n t) in omega (arith, keep_below_up g (suc n) n (omega arith)))
      (true_or_false (f n)))
      (eq-or-lt_of_le (le_of_suc-le-suc h))

-- ---- of values, and of a window

-- as many as pass of the list of values
pub tally_values : (test : ℕ → Bool) (f : ℕ → ℕ) (n : ℕ) → length (keep_below (λ j. test (f j)) n) ≡ length (keep test (values n f))
unfolding keep
tally_values test f zero = keep_below_empty (λ j. test (f j)) ∙ ap (λ (l : List ℕ). length (keep test l)) (sym (values_none f))
tally_values test f (suc n) =
    let i = tally_values test f n in
    let more = ap (λ (k : ℕ). values k f) (sym (add-one n)) ∙ values_more f n in
    let a = ap (λ (l : List ℕ). length (keep test l)) more ∙ ap length (keep-append test (values n f) (f n ∷ [])) ∙ length-append (keep test (values n f)) (keep test (f n ∷ [])) in
    let o = ap length (keep_one test (f n)) in
    ⊎_elim
    (λ t. omega (arith, tally_yes (λ j. test (f j)) n t, ap length (pick-true (test (f n)) (f n ∷ []) [] t)))
    (λ t. omega (arith, ap length (keep_below_no (λ j. test (f j)) n t), ap length (pick-false {A = List ℕ} (test (f n)) (f n ∷ []) [] t)))
    (true_or_false (test (f n)))

-- a test that passes none but k numbers from `from` on, and of these as another test says
module _ (test f : ℕ → Bool) (from k : ℕ)
    (before : (e : ℕ) → e < from → test e ≡ false)
    (same : (j : ℕ) → j < k → test (from + j) ≡ f j)
    (after : (e : ℕ) → from + k ≤ e → test e ≡ false) where
  window_in : (j : ℕ) → j ≤ k → length (keep_below test (from + j)) ≡ length (keep_below f j)
  window_in zero h = ap (λ (m : ℕ). length (keep_below test m)) (add-zero from) ∙ tally_none test from before ∙ sym (keep_below_empty f)
  window_in (suc j) h =
      let i = window_in j (omega arith) in
      let e = same j h in
      let s = ap (λ (m : ℕ). length (keep_below test m)) (add-suc from j) in
      ⊎_elim
      (λ t. omega (arith, tally_yes f j t, tally_yes test (from + j) (e ∙ t)))
      (λ t. omega (arith, ap length (keep_below_no f j t), ap length (keep_below_no test (from + j) (e ∙ t))))
      (true_or_false (f j))

  pub tally_window : (m : ℕ) → from + k ≤ m → length (keep_below test m) ≡ length (keep_below f k)
  tally_window zero h = ap (λ (m : ℕ). length (keep_below test m)) (omega arith) ∙ window_in k (omega arith)
  tally_window (suc m) h =
      ⊎_elim
      (λ e. ap (λ (m : ℕ). length (keep_below test m)) (sym e) ∙ window_in k (omega arith))
      (λ l. ap length (keep_below_no test m (after m (le_of_suc-le-suc l))) ∙ tally_window m (le_of_suc-le-suc l))
      (eq-or-lt_of_le h)

-- ---- as a sum

pub tally_total : (test : ℕ → Bool) (m : ℕ) → length (keep_below test m) ≡ total m (λ k. pick (test k) 1 0)
tally_total test zero = keep_below_empty test ∙ sym (total_none (λ k. pick (test k) 1 0))
tally_total test (suc m) =
    let i = tally_total test m in
    let a = total-suc (λ k. pick (test k) 1 0) m in
    ⊎_elim
    (λ t. omega (arith, tally_yes test m t, pick-true {A = ℕ} (test m) 1 0 t))
    (λ t. omega (arith, ap length (keep_below_no test m t), pick-false {A = ℕ} (test m) 1 0 t))
    (true_or_false (test m))
