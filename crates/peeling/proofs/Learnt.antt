-- The edges of a variable's list, taken off the counts of their checks one after another.
-- Assumes nothing.
use mathlib.Core.Path.{◌≡◌, refl, sym, ap, ap₂, ◌∙◌}
use mathlib.Core.Logic.{⊎_elim}
use mathlib.Core.Bool.{Bool, true, false, ◌&&◌, and-false}
use mathlib.Core.List.{List}
use Prim.Native.Nat.{ℕ, ◌+◌, ◌-◌, ◌<◌, ◌≤◌}
use native.Mathlib.Numerals.{add-one}
use native.Mathlib.Omega.{arith}
use borrow.Author.Tests.{lt-ltb, le-ltb, le-leb, lt-leb}
use lib.Dec.{leb, ltb}
use lib.ListN.{length, set}
use lib.Seq.{get_or-set_same, get_or-set_other}
use Rattle.lists.specs.Entry.{nth}
use Rattle.lists.specs.Keep.{keep_below}
use Rattle.lists.proofs.Cases.{same_or_not, less_or_not}
use Rattle.lists.proofs.Keep.{keep_below_empty, keep_below_no, keep_below_up}
use Rattle.lists.proofs.Rising.{rises}
use Rattle.lists.proofs.Tally.{tally_yes}
use Rattle.peeling.specs.Peelable.{edges_on}

module _ (row col : List ℕ) (from : ℕ) where
  -- edge j of the list stands in check c
  abbrev on : ℕ → ℕ → Bool
  on c j = leb (nth row c) (nth col (from + j)) && ltb (nth col (from + j)) (nth row (c + 1))

  -- how many of the first k do
  abbrev pub done : ℕ → ℕ → ℕ
  done c k = length (keep_below (on c) k)

  pub done_start : (c : ℕ) → done c 0 ≡ 0
  done_start c = keep_below_empty (on c)

  on_yes : (c j : ℕ) → nth row c ≤ nth col (from + j) → nth col (from + j) < nth row (c + 1) → on c j ≡ true
  on_yes c j a b = ap₂ (λ (x y : Bool). x && y) (le-leb _ _ a) (lt-ltb _ _ b)

  -- the edge stands in no other check
  on_no : (m c d j : ℕ) → ((i : ℕ) → i < m → nth row i ≤ nth row (i + 1)) → c < m → d < m → (c ≡ d → ⊥) → nth row d ≤ nth col (from + j) → nth col (from + j) < nth row (d + 1) → on c j ≡ false
  on_no m c d j up hc hd n a b =
      ⊎_elim
      (λ l. ap (λ (x : Bool). leb (nth row c) (nth col (from + j)) && x) (le-ltb (nth col (from + j)) (nth row (c + 1)) (omega (arith, rises m (nth row) up (c + 1) d (omega arith) (omega arith)))) ∙ and-false (leb (nth row c) (nth col (from + j))))
      (λ l. ap (λ (x : Bool). x && ltb (nth col (from + j)) (nth row (c + 1))) (lt-leb (nth row c) (nth col (from + j)) (omega (arith, rises m (nth row) up (d + 1) c (omega (arith, n)) (omega arith)))))
      (less_or_not c d)

  module _ (m : ℕ) (up : (i : ℕ) → i < m → nth row i ≤ nth row (i + 1)) (k d : ℕ) (hd : d < m) (a : nth row d ≤ nth col (from + k)) (b : nth col (from + k) < nth row (d + 1)) where
    -- there is one more to take off check d
    pub done_more : done d (k + 1) ≡ done d k + 1
    done_more = ap (λ (i : ℕ). done d i) (add-one k) ∙ tally_yes (on d) k (on_yes d k a b) ∙ sym (add-one (done d k))

    pub done_other : (c : ℕ) → c < m → (c ≡ d → ⊥) → done c (k + 1) ≡ done c k
    done_other c h n = ap (λ (i : ℕ). done c i) (add-one k) ∙ ap length (keep_below_no (on c) k (on_no m c d k up h hd n a b))

    pub done_on : (given now : List ℕ) → d < length now → ((c : ℕ) → c < m → nth now c + done c k ≡ nth given c) → 0 < nth now d
        → (c : ℕ) → c < m → nth (set now d (nth now d - 1)) c + done c (k + 1) ≡ nth given c
    done_on given now i all p c h =
        ⊎_elim
        (λ s.
        let q = ap (nth (set now d (nth now d - 1))) s ∙ get_or-set_same now d _ 0 i in
        let r = ap (λ (x : ℕ). done x (k + 1)) s ∙ done_more in
        omega (arith, q, r, all d hd, ap (nth given) s))
        (λ n. omega (arith, get_or-set_other now d c (nth now d - 1) 0 n, done_other c h n, all c h))
        (same_or_not c d)

  pub done_room : (c k n : ℕ) → k ≤ n → done c k ≤ done c n
  done_room c k n h = keep_below_up (on c) n k h

pub done_end : (row start col : List ℕ) (v c : ℕ) → edges_on row start col v c ≡ done row col (nth start v) c (nth start (v + 1) - nth start v)
unfolding edges_on
done_end row start col v c = refl
