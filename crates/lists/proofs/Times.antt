-- Laws of how often a number stands in a list: in a list's parts, at an entry, and where each stands at most once.
-- Assumes nothing.
use mathlib.Core.Path.{◌≡◌, refl, sym, ap, ◌∙◌}
use mathlib.Core.Logic.{◌≢◌, ⊎_elim}
use mathlib.Core.Bool.{Bool, true, false, true≢false}
use mathlib.Core.List.{List, [], ◌∷◌, ◌++◌, reverse, reverse-cons}
use Prim.Native.Nat.{ℕ, zero, suc, ◌+◌, ◌<◌, ◌≤◌}
use native.Mathlib.Nat.{add-zero, not-suc-le-zero, le_of_suc-le-suc, zero-lt-suc}
use native.Mathlib.Numerals.{add-one}
use native.Mathlib.Omega.{arith}
use borrow.Author.Tests.{eq-eqb, ne_eqb}
use lib.Dec.{eqb}
use lib.ListN.{length, take, length-append}
use lib.Seq.{take_all}
use Rattle.lists.specs.Choice.{pick}
use Rattle.lists.specs.Keep.{keep, keep_below}
use Rattle.lists.specs.Entry.{nth}
use Rattle.lists.specs.Times.{times}
use Rattle.lists.specs.Total.{total}
use Rattle.lists.specs.Values.{values}
use Rattle.lists.specs.Chain.{chain}
use Rattle.lists.proofs.Cases.{same_or_not, less_or_not, true_or_false}
use Rattle.lists.proofs.Choice.{pick-true, pick-false, pick_same, pick_other}
use Rattle.lists.proofs.Fold.{take_more}
use Rattle.lists.proofs.Keep.{keep_yes, keep_no, keep_below_yes, keep_below_no, keep_below_empty, keep_below_ext}
use Rattle.lists.proofs.Values.{values_none, values-length, values_at, values_more}
use Rattle.lists.proofs.Chain.{chain_none, chain-suc}
use Rattle.lists.proofs.Total.{total_none, total-suc, total_ext, total-zero, total_plus}

pub times_none : (x : ℕ) → times x [] ≡ 0
unfolding times
times_none x = refl

pub times_same : (x y : ℕ) (l : List ℕ) → x ≡ y → times x (y ∷ l) ≡ 1 + times x l
unfolding times
times_same x y l e = rw (pick_same {A = ℕ} x y 1 0 e)

pub times_other : (x y : ℕ) (l : List ℕ) → x ≢ y → times x (y ∷ l) ≡ times x l
unfolding times
times_other x y l n = rw (pick_other {A = ℕ} x y 1 0 n) (omega arith)

pub times-append : (x : ℕ) (a b : List ℕ) → times x (a ++ b) ≡ times x a + times x b
unfolding times
times-append x [] b = omega arith
times-append x (y ∷ a) b = let e = times-append x a b in omega arith

pub times-length : (x : ℕ) (l : List ℕ) → times x l ≤ length l
times-length x [] = let n = times_none x in omega arith
times-length x (y ∷ l) =
    let i = times-length x l in
    ⊎_elim (λ e. let s = times_same x y l e in omega arith) (λ n. let o = times_other x y l n in omega arith) (same_or_not x y)

-- an entry stands there
pub times_at : (l : List ℕ) (t : ℕ) → t < length l → 0 < times (nth l t) l
times_at [] t h = absurd (not-suc-le-zero h)
times_at (x ∷ l) zero h = let e = times_same x x l refl in omega arith
times_at (x ∷ l) (suc t) h =
    let q = times_at l t (le_of_suc-le-suc h) in
    let a = times-append (nth l t) (x ∷ []) l in
    omega arith

-- a list of which no number is an entry
pub times_empty : (l : List ℕ) → ((x : ℕ) → times x l ≡ 0) → l ≡ []
times_empty [] h = refl
times_empty (y ∷ l) h = absurd (let a = times_same y y l refl in let b = h y in omega arith)

-- entries are distinct where no number stands twice
pub times_distinct : (l : List ℕ) → ((x : ℕ) → times x l ≤ 1) → (t v : ℕ) → t < length l → v < length l → nth l t ≡ nth l v → t ≡ v
times_distinct [] o t v h k e = absurd (not-suc-le-zero h)
times_distinct (x ∷ l) o zero zero h k e = refl
times_distinct (x ∷ l) o zero (suc v) h k e =
    absurd
    (let a = times_at l v (le_of_suc-le-suc k) in
    let b = times_same (nth l v) x l (sym e) in
    let c = o (nth l v) in
    omega arith)
times_distinct (x ∷ l) o (suc t) zero h k e =
    absurd
    (let a = times_at l t (le_of_suc-le-suc h) in
    let b = times_same (nth l t) x l e in
    let c = o (nth l t) in
    omega arith)
times_distinct (x ∷ l) o (suc t) (suc v) h k e =
    ap suc
    (times_distinct l
    (λ y. let a = times-append y (x ∷ []) l in let b = o y in omega arith)
    t v
    (le_of_suc-le-suc h)
    (le_of_suc-le-suc k)
    e)

-- ---- of what passes a test

pub times-keep : (x : ℕ) (test : ℕ → Bool) (l : List ℕ) → times x (keep test l) ≤ times x l
unfolding keep
times-keep x test [] = omega arith
times-keep x test (y ∷ l) =
    let i = times-keep x test l in
    let a = times-append x (pick (test y) (y ∷ []) []) (keep test l) in
    let n = times_none x in
    let t = times-append x (y ∷ []) l in
    ⊎_elim
    (λ e. let z = ap (times x) (pick-true (test y) (y ∷ []) [] e) in omega arith)
    (λ e. let z = ap (times x) (pick-false (test y) (y ∷ []) [] e) in omega arith)
    (true_or_false (test y))

-- what is there is a number below m that passes
pub times-keep_below : (test : ℕ → Bool) (m x : ℕ) → 0 < times x (keep_below test m) → (x < m) × (test x ≡ true)
unfolding keep_below
times-keep_below test zero x h = absurd (let n = times_none x in omega arith)
times-keep_below test (suc m) x h =
    let n = times_none x in
    ⊎_elim
    (λ e.
    let a = ap (times x) (keep_below_yes test m e) ∙ times-append x (keep_below test m) (m ∷ []) in
    ⊎_elim
    (λ q. (omega arith, ap test q ∙ e))
    (λ q.
    let o = times_other x m [] q in
    let i = times-keep_below test m x (omega arith) in
    (omega arith, i.1))
    (same_or_not x m))
    (λ e.
    let a = ap (times x) (keep_below_no test m e) in
    let i = times-keep_below test m x (omega arith) in
    (omega arith, i.1))
    (true_or_false (test m))

-- ---- how often each number stands in a list, summed over the numbers

total_one : (y n : ℕ) → (n ≤ y → total n (λ x. times x (y ∷ [])) ≡ 0) × (y < n → total n (λ x. times x (y ∷ [])) ≡ 1)
total_one y zero = ((λ h. total_none (λ x. times x (y ∷ []))), (λ h. absurd (not-suc-le-zero h)))
total_one y (suc n) =
    let i = total_one y n in
    let a = total-suc (λ x. times x (y ∷ [])) n in
    let z = times_none n in (
      (λ h.
          let o = times_other n y [] (λ e. omega arith) in
          let e = i.0 (omega arith) in
          omega arith),
      (λ h. ⊎_elim
          (λ e. let s = times_same n y [] e in let q = i.0 (omega arith) in omega arith)
          (λ k. let o = times_other n y [] k in let q = i.1 (omega (arith, k)) in omega arith)
          (same_or_not n y)),
    )

-- a list of numbers below n
pub total-times : (n : ℕ) (l : List ℕ) → ((x : ℕ) → 0 < times x l → x < n) → total n (λ x. times x l) ≡ length l
total-times n [] h = total_ext n (λ x. times x []) (λ _. 0) (λ x q. times_none x) ∙ total-zero n
total-times n (y ∷ l) h =
    let i = total-times n l (λ x q. h x (let t = times-append x (y ∷ []) l in omega arith)) in
    let o = (total_one y n).1 (h y (let s = times_same y y l refl in omega arith)) in
    let a = total_ext n (λ x. times x (y ∷ l)) (λ x. times x (y ∷ []) + times x l) (λ x q. times-append x (y ∷ []) l) in
    let p = total_plus n (λ x. times x (y ∷ [])) (λ x. times x l) in
    omega arith

-- what stands in a list stands at a place
pub times_has : (x : ℕ) (l : List ℕ) → 0 < times x l → (t : ℕ) × (t < length l) × (nth l t ≡ x)
times_has x [] h = absurd (omega (arith, times_none x))
times_has x (y ∷ l) h =
    ⊎_elim
    (λ e. (0, zero-lt-suc (length l), sym e))
    (λ k. let r = times_has x l (omega (arith, times_other x y l k)) in (suc r.0, omega (arith, r.1), r.2))
    (same_or_not x y)

-- as often as there are places of it
pub times_places : (l : List ℕ) (x k : ℕ) → k ≤ length l → length (keep_below (λ e. eqb (nth l e) x) k) ≡ times x (take k l)
times_places l x zero h = keep_below_empty (λ e. eqb (nth l e) x) ∙ sym (times_none x)
times_places l x (suc k) h =
    let i = times_places l x k (omega arith) in
    let m : take (suc k) l ≡ take k l ++ nth l k ∷ [] = ap (λ (j : ℕ). take j l) (sym (add-one k)) ∙ take_more 0 l k (nth l k) h refl in
    let a = ap (times x) m ∙ times-append x (take k l) (nth l k ∷ []) in
    ⊎_elim
    (λ e.
    let y = ap length (keep_below_yes (λ e. eqb (nth l e) x) k (eq-eqb (nth l k) x e)) ∙ length-append (keep_below (λ e. eqb (nth l e) x) k) (k ∷ []) in
    omega (arith, times_same x (nth l k) [] (sym e), times_none x))
    (λ d.
    let y = ap length (keep_below_no (λ e. eqb (nth l e) x) k (ne_eqb (nth l k) x d)) in
    omega (arith, times_other x (nth l k) [] (λ q. d (sym q)), times_none x))
    (same_or_not (nth l k) x)

-- in lists one after another
pub times-chain : (x n : ℕ) (f : ℕ → List ℕ) → times x (chain n f) ≡ total n (λ k. times x (f k))
times-chain x zero f = ap (times x) (chain_none f) ∙ times_none x ∙ sym (total_none (λ k. times x (f k)))
times-chain x (suc n) f =
    ap (times x) (chain-suc f n) ∙ times-append x (chain n f) (f n)
    ∙ ap (λ (k : ℕ). k + times x (f n)) (times-chain x n f) ∙ sym (total-suc (λ k. times x (f k)) n)

-- ---- lists of the same entries

-- no number stands twice where entries are distinct
pub times_once : (l : List ℕ) → ((t v : ℕ) → t < length l → v < length l → nth l t ≡ nth l v → t ≡ v) → (x : ℕ) → times x l ≤ 1
times_once [] d x = omega (arith, times_none x)
times_once (y ∷ l) d x =
    let i = times_once l (λ t v h k e. omega (arith, d (suc t) (suc v) (omega arith) (omega arith) e)) x in
    ⊎_elim
    (λ e. ⊎_elim
    (λ q. let r = times_has x l q in absurd (omega (arith, d 0 (suc r.0) (zero-lt-suc (length l)) (omega (arith, r.1)) (sym e ∙ sym r.2))))
    (λ q. omega (arith, times_same x y l e))
    (less_or_not 0 (times x l)))
    (λ n. omega (arith, times_other x y l n))
    (same_or_not x y)

-- each entry of a is one of b
abbrev pub Inside : List ℕ → List ℕ → Type 0
Inside a b = (t : ℕ) → t < length a → (u : ℕ) × (u < length b) × (nth b u ≡ nth a t)

inside_times : (a b : List ℕ) → Inside a b → (x : ℕ) → 0 < times x a → 0 < times x b
inside_times a b w x h =
    let r = times_has x a h in
    let s = w r.0 r.1 in
    let e : nth b s.0 ≡ x = s.2 ∙ r.2 in
    rw e at (times_at b s.0 s.1)

pub times_alike : (a b : List ℕ) → ((x : ℕ) → times x a ≤ 1) → ((x : ℕ) → times x b ≤ 1) → Inside a b → Inside b a → (x : ℕ) → times x a ≡ times x b
times_alike a b f g v w x =
    ⊎_elim
    (λ h. omega (arith, f x, g x, inside_times a b v x h))
    (λ (h : times x a ≤ 0). ⊎_elim (λ l. absurd (omega (arith, inside_times b a w x l))) (λ l. omega arith) (less_or_not 0 (times x b)))
    (less_or_not 0 (times x a))

-- of numbers below n
pub times_lengths : (n : ℕ) (a b : List ℕ) → ((x : ℕ) → 0 < times x a → x < n) → ((x : ℕ) → times x a ≡ times x b) → length a ≡ length b
times_lengths n a b h e =
    sym (total-times n a h) ∙ total_ext n (λ x. times x a) (λ x. times x b) (λ x _. e x) ∙ total-times n b (λ x k. h x (omega (arith, e x)))

-- ---- of a list reversed

pub times-reverse : (x : ℕ) (l : List ℕ) → times x (reverse l) ≡ times x l
times-reverse x [] = refl
times-reverse x (y ∷ l) =
    let a = ap (times x) (reverse-cons y l) ∙ times-append x (reverse l) (y ∷ []) in
    let b = times-append x (y ∷ []) l in
    let i = times-reverse x l in
    omega arith

-- ---- of what passes a test, and of values

-- a number that passes stands there as often as before, another does not
pub times_pass : (x : ℕ) (test : ℕ → Bool) (l : List ℕ) → test x ≡ true → times x (keep test l) ≡ times x l
unfolding keep
times_pass x test [] e = refl
times_pass x test (y ∷ l) e =
    let i = times_pass x test l e in
    let a = times-append x (pick (test y) (y ∷ []) []) (keep test l) in
    let b = times-append x (y ∷ []) l in
    ⊎_elim
    (λ t. omega (arith, ap (times x) (pick-true (test y) (y ∷ []) [] t)))
    (λ t. omega (arith, ap (times x) (pick-false (test y) (y ∷ []) [] t), times_none x, times_other x y [] (λ q. true≢false (sym e ∙ ap test q ∙ t))))
    (true_or_false (test y))

pub times_fail : (x : ℕ) (test : ℕ → Bool) (l : List ℕ) → test x ≡ false → times x (keep test l) ≡ 0
unfolding keep
times_fail x test [] e = times_none x
times_fail x test (y ∷ l) e =
    let i = times_fail x test l e in
    let a = times-append x (pick (test y) (y ∷ []) []) (keep test l) in
    ⊎_elim
    (λ t. omega (arith, ap (times x) (pick-true (test y) (y ∷ []) [] t), times_none x, times_other x y [] (λ q. true≢false (sym t ∙ ap test (sym q) ∙ e))))
    (λ t. omega (arith, ap (times x) (pick-false (test y) (y ∷ []) [] t), times_none x))
    (true_or_false (test y))

-- of lists of the same entries as many pass
pub times_kept : (n : ℕ) (test : ℕ → Bool) (a b : List ℕ) → ((x : ℕ) → 0 < times x a → x < n) → ((x : ℕ) → times x a ≡ times x b) → length (keep test a) ≡ length (keep test b)
times_kept n test a b h e =
    times_lengths n (keep test a) (keep test b) (λ x l. h x (omega (arith, times-keep x test a)))
    (λ x. ⊎_elim (λ t. omega (arith, e x, times_pass x test a t, times_pass x test b t)) (λ t. omega (arith, times_fail x test a t, times_fail x test b t)) (true_or_false (test x)))

pub times-values : (x n : ℕ) (f : ℕ → ℕ) → length (keep_below (λ j. eqb (f j) x) n) ≡ times x (values n f)
times-values x n f =
    alike
    ∙ times_places (values n f) x n (omega (arith, values-length f n))
    ∙ ap (times x) (take_all n (values n f) (omega (arith, values-length f n)))
  where
    alike : length (keep_below (λ j. eqb (f j) x) n) ≡ length (keep_below (λ e. eqb (nth (values n f) e) x) n)
    alike = ap length (keep_below_ext (λ j. eqb (f j) x) (λ e. eqb (nth (values n f) e) x) n (λ j h. ap (λ (k : ℕ). eqb k x) (sym (values_at f n j 0 h))))

-- where a test passes one number less, as many less pass as it stands there
pub times_less : (f g : ℕ → Bool) (p : ℕ) → f p ≡ true → g p ≡ false → ((x : ℕ) → x ≢ p → g x ≡ f x) → (l : List ℕ) → length (keep g l) + times p l ≡ length (keep f l)
unfolding keep
times_less f g p there gone same [] = omega (arith, times_none p)
times_less f g p there gone same (x ∷ l) =
    let i = times_less f g p there gone same l in
    ⊎_elim
    (λ e. omega (arith, times_same p x l (sym e), ap length (keep_yes f x l (ap f e ∙ there)), ap length (keep_no g x l (ap g e ∙ gone))))
    (λ d.
    let o = times_other p x l (λ q. d (sym q)) in
    ⊎_elim
    (λ t. omega (arith, ap length (keep_yes f x l t), ap length (keep_yes g x l (same x d ∙ t))))
    (λ t. omega (arith, ap length (keep_no f x l t), ap length (keep_no g x l (same x d ∙ t))))
    (true_or_false (f x)))
    (same_or_not x p)

-- ---- in the first of given values, as a loop counts

module _ (x : ℕ) (f : ℕ → ℕ) where
  pub times_start : times x (values 0 f) ≡ 0
  times_start = ap (times x) (values_none f) ∙ times_none x

  pub times_met : (j : ℕ) → x ≡ f j → times x (values (j + 1) f) ≡ times x (values j f) + 1
  times_met j e = ap (times x) (values_more f j) ∙ times-append x _ _ ∙ ap (λ (k : ℕ). times x (values j f) + k) (times_same x (f j) [] e ∙ ap (λ (k : ℕ). 1 + k) (times_none x))

  pub times_passed : (j : ℕ) → (x ≡ f j → ⊥) → times x (values (j + 1) f) ≡ times x (values j f)
  times_passed j n =
      ap (times x) (values_more f j) ∙ times-append x _ _ ∙ ap (λ (k : ℕ). times x (values j f) + k) (times_other x (f j) [] n ∙ times_none x) ∙ add-zero _
