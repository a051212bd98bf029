-- The candidates are all combinations of the generators: each step changes one digit of the reflected binary code, and every number of w digits is a code of one.
-- Assumes nothing.
use Prim.Native.Nat.{ℕ, zero, suc, ◌+◌, ◌*◌, ◌/◌, ◌%◌, ◌^◌, ◌<◌, ◌≤◌}
use mathlib.Core.Path.{◌≡◌, refl, sym, ap, ap₂, subst, ◌∙◌}
use mathlib.Core.Logic.{◌≢◌, ◌⊎◌, inl, inr, ⊎_elim}
use mathlib.Core.List.{List}
use native.Mathlib.Nat.{pow-suc, div-add-mod', div-eq_of_lt}
use native.Mathlib.Numerals.{add-one, one-add}
use native.Mathlib.Omega.{arith}
use lib.Bits.{differ, xor_step, xor_lt}
use lib.Count.{count_trailing_zeros}
use lib.Dec.{eqb}
use lib.Ieee.{Float}
use lib.ListN.{length}
use lib.Pow.{pow_pos, pow_mono, shr-shr}
use Rattle.lists.specs.Choice.{pick}
use Rattle.lists.specs.EachOnce.{EachOnce}
use Rattle.lists.specs.Iter.{iter}
use Rattle.lists.proofs.Cases.{same_or_not}
use Rattle.lists.proofs.Choice.{pick_same, pick_other}
use Rattle.lists.proofs.Computed.{equal2}
use Rattle.lists.proofs.EachOnce.{each_once_has}
use Rattle.lists.proofs.Iter.{iter_ext}
use Rattle.field.proofs.Sum.{mod2}
use Rattle.words.specs.Linear.{sum_of}
use Rattle.words.proofs.Sums.{sum_length, sum_twice, sum_swap}
use Rattle.candidates.specs.Gray.{gray, digit, combination}
use Rattle.candidates.specs.Tried.{tried}
use Rattle.candidates.proofs.Stepping.{digit_cases, trailing_even, trailing_odd, trailing_below, word_start, word_on}

-- ---- digits

digit-zero : (c : ℕ) → digit c 0 ≡ c % 2
digit-zero c = omega arith

digit-suc : (c j : ℕ) → digit c (suc j) ≡ digit (c / 2) j
digit-suc c j = ap (λ (k : ℕ). c / 2 ^ k % 2) (sym (one-add j)) ∙ ap (λ (x : ℕ). x % 2) (sym (shr-shr c 1 j))

-- c and c' differ in digit t and in no other
pub record Differ (t c c' : ℕ) : Type 0 where
  pub at : digit c t + digit c' t ≡ 1
  pub others : (j : ℕ) → j ≢ t → digit c j ≡ digit c' j

-- in the lowest digit
differ_low : (c c' : ℕ) → c / 2 ≡ c' / 2 → c % 2 + c' % 2 ≡ 1 → Differ 0 c c'
differ_low c c' e f = record { at = omega (arith, digit-zero c, digit-zero c'); others = go }
  where
    go : (j : ℕ) → j ≢ 0 → digit c j ≡ digit c' j
    go zero n = absurd (n refl)
    go (suc j) n = digit-suc c j ∙ ap (λ (x : ℕ). digit x j) e ∙ sym (digit-suc c' j)

-- in a higher one
differ_high : (t c c' : ℕ) → Differ t (c / 2) (c' / 2) → c % 2 ≡ c' % 2 → Differ (suc t) c c'
differ_high t c c' w e = record { at = ap₂ (λ (x y : ℕ). x + y) (digit-suc c t) (digit-suc c' t) ∙ w.at; others = go }
  where
    go : (j : ℕ) → j ≢ suc t → digit c j ≡ digit c' j
    go zero n = digit-zero c ∙ e ∙ sym (digit-zero c')
    go (suc j) n = digit-suc c j ∙ w.others j (λ q. n (ap suc q)) ∙ sym (digit-suc c' j)

-- ---- the code

-- from its half's
gray_parts : (i : ℕ) → gray i ≡ gray (i / 2) * 2 + (i % 2 + i / 2 % 2) % 2
unfolding gray
gray_parts i = xor_step i (i / 2) ∙ ap (λ (x : ℕ). gray (i / 2) * 2 + x) (equal2 2 differ (λ a b. (a + b) % 2) tt (i % 2) (i / 2 % 2) (mod2 i) (mod2 (i / 2)))

gray_half : (i : ℕ) → gray i / 2 ≡ gray (i / 2)
gray_half i = omega (arith, gray_parts i)

gray_low : (i d a : ℕ) → i % 2 ≡ d → i / 2 ≡ a → gray i % 2 ≡ (d + a % 2) % 2
gray_low i d a e f = let m : gray i % 2 ≡ (i % 2 + i / 2 % 2) % 2 = omega (arith, gray_parts i) in m ∙ ap₂ (λ (x y : ℕ). (x + y % 2) % 2) e f

-- the lowest digit stays where the next number is even, and else changes

gray_even : (i : ℕ) → (i + 1) % 2 ≡ 0 → gray i % 2 ≡ gray (i + 1) % 2
gray_even i e = gray_low i 1 (i / 2) (omega arith) refl ∙ turned (i / 2) ∙ sym (gray_low (i + 1) 0 (i / 2 + 1) e (omega arith))
  where
    turned : (a : ℕ) → (1 + a % 2) % 2 ≡ (0 + (a + 1) % 2) % 2
    turned a = omega arith

gray_uneven : (i : ℕ) → (i + 1) % 2 ≡ 1 → gray i % 2 + gray (i + 1) % 2 ≡ 1
gray_uneven i e = ap₂ (λ (x y : ℕ). x + y) (gray_low i 0 (i / 2) (omega arith) refl) (gray_low (i + 1) 1 (i / 2) e (omega arith)) ∙ turned (i / 2)
  where
    turned : (a : ℕ) → (0 + a % 2) % 2 + (1 + a % 2) % 2 ≡ 1
    turned a = omega arith

-- the next number's code differs in the digit at which the next number has its lowest 1
pub gray_step : (k i : ℕ) → i + 1 < 2 ^ k → Differ (count_trailing_zeros k (i + 1)) (gray i) (gray (i + 1))
gray_step zero i h = absurd (omega arith)
gray_step (suc k) i h =
    let q = pow-suc 2 k in
    ⊎_elim
    (λ e.
    let m : (i + 1) / 2 ≡ i / 2 + 1 = omega arith in
    subst (λ (t : ℕ). Differ t (gray i) (gray (i + 1))) (sym (trailing_even k (i + 1) e ∙ ap (λ (n : ℕ). suc (count_trailing_zeros k n)) m))
    (differ_high (count_trailing_zeros k (i / 2 + 1)) (gray i) (gray (i + 1))
    (rw (gray_half i, gray_half (i + 1), m) (gray_step k (i / 2) (omega arith)))
    (gray_even i e)))
    (λ e.
    let m : (i + 1) / 2 ≡ i / 2 = omega arith in
    subst (λ (t : ℕ). Differ t (gray i) (gray (i + 1))) (sym (trailing_odd k (i + 1) e))
    (differ_low (gray i) (gray (i + 1)) (gray_half i ∙ sym (gray_half (i + 1) ∙ ap gray m)) (gray_uneven i e)))
    (digit_cases (i + 1))

-- the codes of the numbers of w digits are these numbers, each once

same_low : (a b c : ℕ) → (a % 2 + c % 2) % 2 ≡ (b % 2 + c % 2) % 2 → a % 2 ≡ b % 2
same_low a b c e = omega arith

gray_one : (w i j : ℕ) → i < 2 ^ w → j < 2 ^ w → gray i ≡ gray j → i ≡ j
gray_one zero i j h l e = omega arith
gray_one (suc w) i j h l e =
    let q = pow-suc 2 w in
    let m = gray_one w (i / 2) (j / 2) (omega arith) (omega arith) (sym (gray_half i) ∙ ap (λ (x : ℕ). x / 2) e ∙ gray_half j) in
    let d = same_low i j (j / 2) (sym (gray_low i (i % 2) (j / 2) refl m) ∙ ap (λ (x : ℕ). x % 2) e ∙ gray_low j (j % 2) (j / 2) refl refl) in
    sym (div-add-mod' i 2) ∙ ap₂ (λ (x y : ℕ). x * 2 + y) m d ∙ div-add-mod' j 2

pub gray_once : (w : ℕ) → EachOnce (2 ^ w) gray
unfolding gray
gray_once w = record { inside = λ i h. xor_lt w i (i / 2) h (omega arith); distinct = gray_one w }

-- ---- combinations

module _ (gens : ℕ → List ℕ) (base : List ℕ) where
  -- generator j as digit j of c says
  abbrev more : ℕ → ℕ → List ℕ → List ℕ
  more c j x = pick (eqb (digit c j) 1) (sum_of x (gens j)) x

  more_yes : (c j : ℕ) (x : List ℕ) → digit c j ≡ 1 → more c j x ≡ sum_of x (gens j)
  more_yes c j x e = pick_same (digit c j) 1 (sum_of x (gens j)) x e

  more_no : (c j : ℕ) (x : List ℕ) → digit c j ≡ 0 → more c j x ≡ x
  more_no c j x e = pick_other (digit c j) 1 (sum_of x (gens j)) x (λ q. omega arith)

  pub combination_yes : (w c : ℕ) → digit c w ≡ 1 → combination gens base (suc w) c ≡ sum_of (combination gens base w c) (gens w)
  unfolding combination iter
  combination_yes w c e = more_yes c w (combination gens base w c) e

  pub combination_no : (w c : ℕ) → digit c w ≡ 0 → combination gens base (suc w) c ≡ combination gens base w c
  unfolding combination iter
  combination_no w c e = more_no c w (combination gens base w c) e

  pub combination_start : (c : ℕ) → combination gens base 0 c ≡ base
  unfolding combination iter
  combination_start c = refl

  combination_none : (w : ℕ) → combination gens base w 0 ≡ base
  combination_none zero = combination_start 0
  combination_none (suc w) = combination_no w 0 (ap (λ (x : ℕ). x % 2) (div-eq_of_lt (pow_pos w))) ∙ combination_none w

  combination_ext : (w c c' : ℕ) → ((j : ℕ) → j < w → digit c j ≡ digit c' j) → combination gens base w c ≡ combination gens base w c'
  unfolding combination
  combination_ext w c c' e = iter_ext w (more c) (more c') base (λ j h x. ap (λ (d : ℕ). pick (eqb d 1) (sum_of x (gens j)) x) (e j h))

  -- it is no shorter than the base
  combination_long : (w c : ℕ) → length base ≤ length (combination gens base w c)
  combination_long zero c = omega (arith, ap length (combination_start c))
  combination_long (suc w) c =
      ⊎_elim
      (λ e. omega (arith, combination_long w c, ap length (combination_no w c e)))
      (λ e. omega (arith, combination_long w c, ap length (combination_yes w c e), sum_length (combination gens base w c) (gens w)))
      (digit_cases (c / 2 ^ w))

  -- of numbers that differ in one digit, whose generator is no longer than the base
  pub combination_differ : (w t c c' : ℕ) → t < w → length (gens t) ≤ length base → Differ t c c' → combination gens base w c' ≡ sum_of (combination gens base w c) (gens t)
  unfolding combination iter
  combination_differ zero t c c' h f d = absurd (omega arith)
  combination_differ (suc w) t c c' h f d = go (λ l. combination_differ w t c c' l f d) (same_or_not w t) (digit_cases (c / 2 ^ w))
    where
      x : List ℕ
      x = combination gens base w c

      y : List ℕ
      y = combination gens base w c'

      -- t is the last digit: what is below is the same
      low : w ≡ t → y ≡ x
      low e = combination_ext w c' c (λ j l. sym (d.others j (λ q. omega arith)))

      both : w ≡ t → digit c w + digit c' w ≡ 1
      both e = ap (λ (j : ℕ). digit c j + digit c' j) e ∙ d.at

      go : (t < w → y ≡ sum_of x (gens t)) → (w ≡ t) ⊎ (w ≢ t) → (digit c w ≡ 0) ⊎ (digit c w ≡ 1) → more c' w y ≡ sum_of (more c w x) (gens t)
      go ih (inl e) (inl z) = more_yes c' w y (omega (arith, both e)) ∙ ap₂ sum_of (low e) (ap gens e) ∙ ap (λ (l : List ℕ). sum_of l (gens t)) (sym (more_no c w x z))
      go ih (inl e) (inr z) =
          more_no c' w y (omega (arith, both e)) ∙ low e ∙ sym (sum_twice x (gens t) (omega (arith, f, combination_long w c))) ∙ ap (λ (j : ℕ). sum_of (sum_of x (gens j)) (gens t)) (sym e)
          ∙ ap (λ (l : List ℕ). sum_of l (gens t)) (sym (more_yes c w x z))
      go ih (inr n) (inl z) = more_no c' w y (sym (d.others w n) ∙ z) ∙ ih (omega (arith, n)) ∙ ap (λ (l : List ℕ). sum_of l (gens t)) (sym (more_no c w x z))
      go ih (inr n) (inr z) =
          more_yes c' w y (sym (d.others w n) ∙ z) ∙ ap (λ (l : List ℕ). sum_of l (gens w)) (ih (omega (arith, n))) ∙ sum_swap x (gens t) (gens w)
          ∙ ap (λ (l : List ℕ). sum_of l (gens t)) (sym (more_yes c w x z))

  -- ---- the candidates

  -- the first w generators are no longer than the base
  module _ (metrics : List Float) (w : ℕ) (few : w ≤ 16) (fit : (j : ℕ) → j < w → length (gens j) ≤ length base) where
    pub candidates_are : (i : ℕ) → i < 2 ^ w → (tried metrics gens base i).word ≡ combination gens base w (gray i)
    unfolding gray
    candidates_are zero h = word_start metrics gens base ∙ sym (combination_none w)
    candidates_are (suc i) h =
        let t = count_trailing_zeros 32 (i + 1) in
        let below : t < w = trailing_below 32 w (i + 1) (omega arith) (omega arith) (omega arith) in
        let n = add-one i in
        ap (λ (k : ℕ). (tried metrics gens base k).word) (sym n)
        ∙ word_on metrics gens base i
        ∙ ap (λ (x : List ℕ). sum_of x (gens t)) (candidates_are i (omega arith))
        ∙ sym (combination_differ w t (gray i) (gray (i + 1)) below (fit t below)
        (gray_step 32 i (omega (arith, pow_mono {i = w} {j = 32} (omega arith)))))
        ∙ ap (λ (k : ℕ). combination gens base w (gray k)) n

    -- every combination is one of them
    pub each_tried : (c : ℕ) → c < 2 ^ w → (i : ℕ) × (i < 2 ^ w) × ((tried metrics gens base i).word ≡ combination gens base w c)
    each_tried c h =
        let r = each_once_has (2 ^ w) gray (gray_once w) c h in
        (r.0, r.1, candidates_are r.0 r.1 ∙ ap (combination gens base w) r.2)
