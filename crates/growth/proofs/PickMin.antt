-- Laws of the choice among candidates: one of least load there always is, so that the choice is a candidate.
-- Assumes nothing.
use Prim.Native.Nat.{ℕ, ◌%◌, min, ◌<◌, ◌≤◌}
use mathlib.Core.Path.{◌≡◌, refl, sym, ◌∙◌}
use mathlib.Core.Bool.{Bool, true}
use mathlib.Core.List.{List, [], ◌∷◌, foldl}
use mathlib.Core.Logic.{⊎_elim, ◌⊎◌, inl, inr}
use native.Mathlib.Nat.{not-suc-le-zero, mod-lt, min-eq_left, min-eq_right}
use native.Mathlib.Omega.{arith}
use borrow.Author.Tests.{eq-eqb}
use lib.Dec.{eqb}
use lib.ListN.{length, length-append}
use Rattle.lists.specs.Keep.{keep}
use Rattle.lists.specs.Entry.{nth}
use Rattle.lists.specs.Times.{times}
use Rattle.lists.proofs.Cases.{less_or_not}
use Rattle.lists.proofs.Choice.{pick-true}
use Rattle.lists.proofs.Times.{times_at, times-keep}
use Rattle.growth.specs.PickMin.{lower, least, lightest, pick_min}

keep_more : (test : ℕ → Bool) (x : ℕ) (l : List ℕ) → length (keep test l) ≤ length (keep test (x ∷ l))
unfolding keep
keep_more test x l = simp length-append (omega arith)

keep_first : (test : ℕ → Bool) (x : ℕ) (l : List ℕ) → test x ≡ true → 0 < length (keep test (x ∷ l))
unfolding keep
keep_first test x l e = simp (length-append, pick-true (test x) (x ∷ []) [] e) (omega arith)

-- the least of s and the loads is s, or some candidate has it
attained : (load : ℕ → ℕ) (s : ℕ) (l : List ℕ) → (foldl (lower load) s l ≡ s) ⊎ (0 < length (keep (λ c. eqb (load c) (foldl (lower load) s l)) l))
attained load s [] = inl refl
attained load s (x ∷ l) =
    ⊎_elim
    (λ e. ⊎_elim
    (λ h. inr (keep_first _ x l (eq-eqb _ _ (sym (e ∙ min-eq_right (omega arith))))))
    (λ h. inl (e ∙ min-eq_left h))
    (less_or_not (load x) s))
    (λ h. inr (let m = keep_more (λ c. eqb (load c) (foldl (lower load) s (x ∷ l))) x l in omega arith))
    (attained load (min s (load x)) l)

pub lightest_some : (load : ℕ → ℕ) (cand : List ℕ) → 0 < length cand → 0 < length (lightest load cand)
unfolding lightest least
lightest_some load [] h = absurd (not-suc-le-zero h)
lightest_some load (x ∷ l) h = ⊎_elim (λ e. keep_first _ x l (eq-eqb _ _ (sym e))) (λ q. q) (attained load (load x) (x ∷ l))

-- a choice is a candidate
pub pick_in : (load : ℕ → ℕ) (cand : List ℕ) (draw : ℕ) → 0 < length cand → 0 < times (pick_min load cand draw) cand
unfolding pick_min
pick_in load cand draw h =
    let s = lightest_some load cand h in
    let a = times_at (lightest load cand) (draw % length (lightest load cand)) (mod-lt draw s) in
    let k = fewer in
    omega arith
  where
    fewer : times (pick_min load cand draw) (lightest load cand) ≤ times (pick_min load cand draw) cand
    fewer = unfold lightest in times-keep (pick_min load cand draw) _ cand

-- ---- of a list of those of least load

module _ (load : ℕ → ℕ) (cand best : List ℕ) (w draw : ℕ) (e : best ≡ lightest load cand) (n : w ≡ length best) (some : 0 < length cand) where
  pub best_some : 0 < w
  best_some = rw (n, e) (lightest_some load cand some)

  pub best_in : draw % w < length best
  best_in = rw (← n) (mod-lt draw best_some)

  pub best_is : nth best (draw % w) ≡ pick_min load cand draw
  unfolding pick_min
  best_is = rw (n, e)
