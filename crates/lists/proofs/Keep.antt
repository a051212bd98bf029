-- Laws of what passes a test: how it is made up, and which numbers are there.
-- Assumes nothing.
use Prim.Native.Nat.{ℕ, zero, suc, ◌+◌, ◌<◌, ◌≤◌}
use mathlib.Core.Path.{◌≡◌, refl, ap, ap₂, sym, ◌∙◌}
use mathlib.Core.Bool.{Bool, true, false, not, ◌&&◌}
use mathlib.Core.List.{List, [], ◌∷◌, ◌++◌, append_assoc, append-nil}
use mathlib.Core.Logic.{⊎_elim, ◌⊎◌}
use native.Mathlib.Nat.{not-suc-le-zero, le_of_suc-le-suc, le_of_lt, le_refl, le_step, eq-or-lt_of_le}
use native.Mathlib.Numerals.{add-one}
use native.Mathlib.Omega.{arith}
use lib.ListN.{length, get_or, set, take, length-append, get_or-append}
use lib.Seq.{take-suc-set, get_or-append_seam, get_or_at}
use Rattle.lists.specs.Choice.{pick}
use Rattle.lists.specs.Iter.{iter}
use Rattle.lists.specs.Keep.{keep, keep_below}
use Rattle.lists.proofs.Cases.{true_or_false}
use Rattle.lists.proofs.Choice.{pick-true, pick-false}
use Rattle.lists.proofs.Iter.{iter_ext}
use Rattle.lists.proofs.Rising.{rises}

-- ---- of a list

module _ (test : ℕ → Bool) where
  pub keep-append : (a b : List ℕ) → keep test (a ++ b) ≡ keep test a ++ keep test b
  unfolding keep
  keep-append [] b = refl
  keep-append (x ∷ a) b = rw (keep-append a b, append_assoc)

  pub keep_one : (x : ℕ) → keep test (x ∷ []) ≡ pick (test x) (x ∷ []) []
  unfolding keep
  keep_one x = append-nil _

-- x put at place w of a part of which w places are used
pub push_more {ℓ} : {A : Type ℓ} (out : List A) (w : ℕ) (x : A) → w < length out → take (w + 1) (set out w x) ≡ take w out ++ x ∷ []
push_more out w x h = rw (add-one, take-suc-set)

-- ---- of the numbers below m

module _ (test : ℕ → Bool) where
  pub keep_below_yes : (m : ℕ) → test m ≡ true → keep_below test (suc m) ≡ keep_below test m ++ m ∷ []
  unfolding keep_below
  keep_below_yes m t = rw (pick-true (test m) (m ∷ []) [] t)

  pub keep_below_no : (m : ℕ) → test m ≡ false → keep_below test (suc m) ≡ keep_below test m
  unfolding keep_below
  keep_below_no m t = rw (pick-false (test m) (m ∷ []) [] t, append-nil)

  pub keep_below_none : keep_below test 0 ≡ []
  unfolding keep_below
  keep_below_none = refl

  pub keep_below_empty : length (keep_below test 0) ≡ 0
  unfolding keep_below
  keep_below_empty = refl

  pub keep_below-length : (m : ℕ) → length (keep_below test m) ≤ m
  unfolding keep_below
  keep_below-length zero = omega arith
  keep_below-length (suc m) =
      ⊎_elim
      (λ t. rw (keep_below_yes m t, length-append) (omega (arith, keep_below-length m)))
      (λ t. rw (keep_below_no m t) (omega (arith, keep_below-length m)))
      (true_or_false (test m))

  pub keep_below_up : (m k : ℕ) → k ≤ m → length (keep_below test k) ≤ length (keep_below test m)
  keep_below_up m k h = rises m (λ i. length (keep_below test i)) (λ i l. rw add-one (one i)) k m h (le_refl m)
    where
      one : (i : ℕ) → length (keep_below test i) ≤ length (keep_below test (suc i))
      one i = ⊎_elim (λ t. rw (keep_below_yes i t, length-append) (omega arith)) (λ t. rw (keep_below_no i t) (omega arith)) (true_or_false (test i))

  -- of an entry where m is there too: it is the last one or stands before it
  last_or_before : (m t : ℕ) → test m ≡ true → t < length (keep_below test (suc m)) → (t ≡ length (keep_below test m)) ⊎ (t < length (keep_below test m))
  last_or_before m t y h = let e = ap length (keep_below_yes m y) ∙ length-append (keep_below test m) (m ∷ []) in eq-or-lt_of_le (omega arith)

  -- a number below m that passes is there, after those below it
  pub keep_below_at : (m j : ℕ) → j < m → test j ≡ true → (length (keep_below test j) < length (keep_below test m)) × (get_or (keep_below test m) (length (keep_below test j)) 0 ≡ j)
  keep_below_at zero j h p = absurd (not-suc-le-zero h)
  keep_below_at (suc m) j h p =
      let old = keep_below test m in
      ⊎_elim
      (λ e. rw (keep_below_yes m (rw e at p), e) (appended (length old) (omega arith), get_or-append_seam old m [] 0))
      (λ l.
      let r = keep_below_at m j l p in
      ⊎_elim
      (λ y. rw (keep_below_yes m y) (appended (length (keep_below test j)) (le_of_lt r.0), get_or-append old (m ∷ []) 0 (length (keep_below test j)) r.0 ∙ r.1))
      (λ n. rw (keep_below_no m n) r)
      (true_or_false (test m)))
      (eq-or-lt_of_le (le_of_suc-le-suc h))
    where
      appended : (t : ℕ) → t ≤ length (keep_below test m) → t < length (keep_below test m ++ m ∷ [])
      appended t l = rw length-append (omega arith)

  pub keep_below_has : (m j : ℕ) → j < m → test j ≡ true → (t : ℕ) × (t < length (keep_below test m)) × (get_or (keep_below test m) t 0 ≡ j)
  keep_below_has m j h p = let r = keep_below_at m j h p in (length (keep_below test j), r.0, r.1)

  -- what is there is a number below m that passes
  pub keep_below_passes : (m t : ℕ) → t < length (keep_below test m) → (get_or (keep_below test m) t 0 < m) × (test (get_or (keep_below test m) t 0) ≡ true)
  keep_below_passes zero t h = absurd (omega (arith, keep_below-length 0))
  keep_below_passes (suc m) t h =
      let old = keep_below test m in
      ⊎_elim
      (λ y. ⊎_elim
      (λ e. rw (keep_below_yes m y, get_or_at old m [] 0 t (sym e)) (le_refl (suc m), y))
      (λ l. let r = keep_below_passes m t l in rw (keep_below_yes m y, get_or-append old (m ∷ []) 0 t l) (le_step r.0, r.1))
      (last_or_before m t y h))
      (λ n. let r = keep_below_passes m t (rw (keep_below_no m n) at h) in rw (keep_below_no m n) (le_step r.0, r.1))
      (true_or_false (test m))

  -- and they ascend
  pub keep_below_ascends : (m t v : ℕ) → t < v → v < length (keep_below test m) → get_or (keep_below test m) t 0 < get_or (keep_below test m) v 0
  keep_below_ascends zero t v l h = absurd (omega (arith, keep_below-length 0))
  keep_below_ascends (suc m) t v l h =
      let old = keep_below test m in
      ⊎_elim
      (λ y. ⊎_elim
      (λ e.
      let b : t < length old = omega arith in
      rw (keep_below_yes m y, get_or_at old m [] 0 v (sym e), get_or-append old (m ∷ []) 0 t b) (keep_below_passes m t b).0)
      (λ k.
      let b : t < length old = omega arith in
      rw (keep_below_yes m y, get_or-append old (m ∷ []) 0 v k, get_or-append old (m ∷ []) 0 t b) (keep_below_ascends m t v l k))
      (last_or_before m v y h))
      (λ n. rw (keep_below_no m n) (keep_below_ascends m t v l (rw (keep_below_no m n) at h)))
      (true_or_false (test m))

-- ---- tests that agree, and a test and its contrary

pub keep_ext : (f g : ℕ → Bool) (l : List ℕ) → ((x : ℕ) → f x ≡ g x) → keep f l ≡ keep g l
unfolding keep
keep_ext f g [] e = refl
keep_ext f g (x ∷ l) e = rw (e x, keep_ext f g l e)

pub keep_below_ext : (f g : ℕ → Bool) (m : ℕ) → ((j : ℕ) → j < m → f j ≡ g j) → keep_below f m ≡ keep_below g m
unfolding keep_below
keep_below_ext f g zero e = refl
keep_below_ext f g (suc m) e = rw (e m (le_refl (suc m)), keep_below_ext f g m (λ j h. e j (le_step h)))

-- each number below m passes or not
pub keep_below_split : (test : ℕ → Bool) (m : ℕ) → length (keep_below test m) + length (keep_below (λ j. not (test j)) m) ≡ m
unfolding keep_below
keep_below_split test zero = refl
keep_below_split test (suc m) =
    let i = keep_below_split test m in
    let old = keep_below test m in
    let others = keep_below (λ j. not (test j)) m in
    ⊎_elim
    (λ y.
    let a = ap length (keep_below_yes test m y) ∙ length-append old (m ∷ []) in
    let b = ap length (keep_below_no (λ j. not (test j)) m (ap not y)) in
    omega arith)
    (λ n.
    let a = ap length (keep_below_no test m n) in
    let b = ap length (keep_below_yes (λ j. not (test j)) m (ap not n)) ∙ length-append others (m ∷ []) in
    omega arith)
    (true_or_false (test m))

-- ---- the entries of a list that pass

module _ (test : ℕ → Bool) where
  pub keep_yes : (x : ℕ) (l : List ℕ) → test x ≡ true → keep test (x ∷ l) ≡ x ∷ keep test l
  unfolding keep
  keep_yes x l t = ap (λ (a : List ℕ). a ++ keep test l) (pick-true (test x) (x ∷ []) [] t)

  pub keep_no : (x : ℕ) (l : List ℕ) → test x ≡ false → keep test (x ∷ l) ≡ keep test l
  unfolding keep
  keep_no x l t = ap (λ (a : List ℕ). a ++ keep test l) (pick-false (test x) (x ∷ []) [] t)

  -- where all pass
  pub keep_all : ((x : ℕ) → test x ≡ true) → (l : List ℕ) → keep test l ≡ l
  unfolding keep
  keep_all e [] = refl
  keep_all e (x ∷ l) = keep_yes x l (e x) ∙ ap (λ (a : List ℕ). x ∷ a) (keep_all e l)

  pub keep-length : (l : List ℕ) → length (keep test l) ≤ length l
  unfolding keep
  keep-length [] = omega arith
  keep-length (x ∷ l) = ⊎_elim (λ y. rw (keep_yes x l y) (omega (arith, keep-length l))) (λ n. rw (keep_no x l n) (omega (arith, keep-length l))) (true_or_false (test x))

  -- an entry of the list that passes
  abbrev pub Passed : List ℕ → ℕ → Type 0
  Passed l x = (test x ≡ true) × ((u : ℕ) × (u < length l) × (get_or l u 0 ≡ x))

  later : (y x : ℕ) (l : List ℕ) → Passed l x → Passed (y ∷ l) x
  later y x l r = (r.0, (suc r.1.0, omega (arith, r.1.1), r.1.2))

  pub keep_passes : (l : List ℕ) (t : ℕ) → t < length (keep test l) → Passed l (get_or (keep test l) t 0)
  unfolding keep
  keep_passes [] t h = absurd (not-suc-le-zero h)
  keep_passes (x ∷ l) zero h =
      ⊎_elim
      (λ y. rw (keep_yes x l y) (y, (0, omega arith, refl)))
      (λ n. rw (keep_no x l n) (later x (get_or (keep test l) 0 0) l (keep_passes l 0 (rw (keep_no x l n) at h))))
      (true_or_false (test x))
  keep_passes (x ∷ l) (suc t) h =
      ⊎_elim
      (λ y. rw (keep_yes x l y) (later x (get_or (keep test l) t 0) l (keep_passes l t (le_of_suc-le-suc (rw (keep_yes x l y) at h)))))
      (λ n. rw (keep_no x l n) (later x (get_or (keep test l) (suc t) 0) l (keep_passes l (suc t) (rw (keep_no x l n) at h))))
      (true_or_false (test x))

-- of the numbers below m that pass a test, those that pass another
pub keep-keep_below : (f test : ℕ → Bool) (m : ℕ) → keep test (keep_below f m) ≡ keep_below (λ e. f e && test e) m
unfolding keep_below keep
keep-keep_below f test zero = refl
keep-keep_below f test (suc m) =
    keep-append test (keep_below f m) (pick (f m) (m ∷ []) [])
    ∙ ap (λ (l : List ℕ). l ++ keep test (pick (f m) (m ∷ []) [])) (keep-keep_below f test m)
    ∙ ap (λ (l : List ℕ). keep_below (λ e. f e && test e) m ++ l) (one (f m) refl)
  where
    one : (t : Bool) → f m ≡ t → keep test (pick (f m) (m ∷ []) []) ≡ pick (f m && test m) (m ∷ []) []
    one true e = rw (e, pick-true {A = List ℕ} true (m ∷ []) [] refl) (keep_one test m)
    one false e = rw (e, pick-false {A = List ℕ} false (m ∷ []) [] refl)

-- a loop that passes over what fails a test is one over what passes it
pub keep_below-iter {ℓ} : {S : Type ℓ} (test : ℕ → Bool) (f : ℕ → S → S) (m : ℕ) (s : S)
    → iter m (λ k t. pick (test k) (f k t) t) s ≡ iter (length (keep_below test m)) (λ e t. f (get_or (keep_below test m) e 0) t) s
unfolding iter
keep_below-iter test f zero s = ap (λ (n : ℕ). iter n (λ e t. f (get_or (keep_below test 0) e 0) t) s) (sym (keep_below_empty test))
keep_below-iter {S = S} test f (suc m) s =
    ⊎_elim
    (λ y.
    let l = keep_below test m in
    let e = keep_below_yes test m y in
    pick-true (test m) (f m done) done y
    ∙ ap (f m) (keep_below-iter test f m s)
    ∙ ap₂ f (sym (get_or-append_seam l m [] 0)) (iter_ext (length l) (λ e t. f (get_or l e 0) t) (λ e t. f (get_or (l ++ m ∷ []) e 0) t) s (λ e h t. ap (λ (k : ℕ). f k t) (sym (get_or-append l (m ∷ []) 0 e h))))
    ∙ ap (λ (n : ℕ). iter n (λ e t. f (get_or (l ++ m ∷ []) e 0) t) s) (sym (length-append l (m ∷ []) ∙ add-one (length l)))
    ∙ ap (λ (k : List ℕ). iter (length k) (λ e t. f (get_or k e 0) t) s) (sym e))
    (λ n.
    pick-false (test m) (f m done) done n ∙ keep_below-iter test f m s
    ∙ ap (λ (k : List ℕ). iter (length k) (λ e t. f (get_or k e 0) t) s) (sym (keep_below_no test m n)))
    (true_or_false (test m))
  where
    done : S
    done = iter m (λ k t. pick (test k) (f k t) t) s
