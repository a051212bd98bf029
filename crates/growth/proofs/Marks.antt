-- Laws of marks: how many are free, which numbers are not marked, and what an entry met does to them.
-- Assumes nothing.
use Prim.Native.Nat.{ℕ, suc, ◌+◌, ◌<◌, ◌≤◌}
use mathlib.Core.Path.{◌≡◌, ap, sym}
use mathlib.Core.Bool.{Bool, true, false, not}
use mathlib.Core.Logic.{⊎_elim}
use mathlib.Core.List.{List, [], ◌∷◌, ◌++◌, foldl}
use native.Mathlib.Omega.{arith}
use borrow.Author.Tests.{not-true}
use lib.ListN.{length, get_or, set, drop, get_or-replicate, length-append}
use lib.Seq.{get_or-set_same, get_or-set_other, drop-cons}
use Rattle.std.proofs.lemmas.List.{drop_all}
use native.Mathlib.Numerals.{add-one}
use Rattle.lists.specs.Times.{times}
use Rattle.lists.proofs.Cases.{true_or_false}
use Rattle.lists.proofs.Choice.{pick-true, pick-false}
use Rattle.lists.proofs.Keep.{keep_below-length}
use Rattle.lists.proofs.Tally.{one_more, tally_past, tally_all}
use Rattle.lists.proofs.Times.{times-keep_below}
use Rattle.growth.specs.Search.{Found, meet, unmarked, clear}
use Rattle.growth.specs.Rows.{free}

-- what is listed is below m and not marked
pub unmarked_in : (seen : List Bool) (m x : ℕ) → 0 < times x (unmarked seen m) → (x < m) × (get_or seen x false ≡ false)
unfolding unmarked
unmarked_in seen m x h = let b = times-keep_below (λ c. not (get_or seen c false)) m x h in (b.0, not-true (get_or seen x false) b.1)

-- without marks all are listed
pub unmarked-clear : (m : ℕ) → m ≤ 256 → length (unmarked clear m) ≡ m
unfolding unmarked
unmarked-clear m b = tally_all (λ c. not (get_or clear c false)) m (λ c h. ap not (get_or-replicate 256 c false false (omega arith)))

-- a mark takes one
pub unmarked-set : (seen : List Bool) (m p : ℕ) → p < length seen → p < m → get_or seen p false ≡ false → length (unmarked (set seen p true) m) + 1 ≡ length (unmarked seen m)
unfolding unmarked
unmarked-set seen m p l h e =
    let a = one_more (λ c. not (get_or (set seen p true) c false)) (λ c. not (get_or seen c false)) p
    (ap not (get_or-set_same seen p true false l))
    (ap not e)
    (λ c n. ap not (sym (get_or-set_other seen p c true false n)))
    m h in
    omega arith

-- ---- how many are free

pub free-clear : free clear ≡ 256
unfolding free
free-clear = unmarked-clear 256 (omega arith)

pub free-le : (seen : List Bool) → free seen ≤ 256
unfolding free unmarked
free-le seen = keep_below-length (λ c. not (get_or seen c false)) 256

pub free-set : (seen : List Bool) (p : ℕ) → length seen ≡ 256 → p < 256 → get_or seen p false ≡ false → free (set seen p true) + 1 ≡ free seen
unfolding free
free-set seen p l h e = unmarked-set seen 256 p (omega arith) h e

-- where none of the first m is left, m marks are taken
pub free_past : (seen : List Bool) (m : ℕ) → m ≤ 256 → length (unmarked seen m) ≡ 0 → free seen + m ≤ 256
unfolding free unmarked
free_past seen m b e = let a = tally_past (λ c. not (get_or seen c false)) m 256 b in omega arith

-- ---- an entry met

pub meet_new : (seen : List Bool) (l : List ℕ) (x : ℕ) → get_or seen x false ≡ false → ◌≡◌ {A = Found} (meet (seen, l) x) (set seen x true, l ++ x ∷ [])
unfolding meet
meet_new seen l x e = pick-false (get_or seen x false) (seen, l) (set seen x true, l ++ x ∷ []) e

pub meet_old : (seen : List Bool) (l : List ℕ) (x : ℕ) → get_or seen x false ≡ true → ◌≡◌ {A = Found} (meet (seen, l) x) (seen, l)
unfolding meet
meet_old seen l x e = pick-true (get_or seen x false) (seen, l) (set seen x true, l ++ x ∷ []) e

pub meet_balance : (s : Found) (x : ℕ) → length s.0 ≡ 256 → x < 256 → free (meet s x).0 + length (meet s x).1 ≡ free s.0 + length s.1
meet_balance s x l h =
    ⊎_elim
    (λ e. let m = meet_old s.0 s.1 x e in ap (λ (t : Found). free t.0 + length t.1) m)
    (λ e.
    let m = ap (λ (t : Found). free t.0 + length t.1) (meet_new s.0 s.1 x e) in
    let a = length-append s.1 (x ∷ []) in
    omega (arith, free-set s.0 x l h e))
    (true_or_false (get_or s.0 x false))

-- a loop over a list's entries, of which those from j on are to come
pub fold_rest : (f : Found → ℕ → Found) (s t : Found) (l : List ℕ) (j : ℕ) → j < length l → f s (get_or l j 0) ≡ t → foldl f t (drop (j + 1) l) ≡ foldl f s (drop j l)
fold_rest f s t l j h e = rw (drop-cons l j 0, add-one) (ap (λ (u : Found). foldl f u (drop (suc j) l)) (sym e))

pub fold_none : (f : Found → ℕ → Found) (s : Found) (l : List ℕ) (j : ℕ) → length l ≤ j → foldl f s (drop j l) ≡ s
fold_none f s l j h = ap (foldl f s) (drop_all j l h)
