-- The best of the unknown symbols is an unknown symbol, is a matter of the keys below n alone, and no unknown symbol is better: none frees more checks, of those
-- that free as many none is preferred, and of equal ones it is the last or the first.
-- Assumes nothing.
use Prim.Native.Nat.{ℕ, suc, ◌<◌, ◌≤◌}
use mathlib.Core.Path.{◌≡◌, refl, sym, ap, ap₂, subst, ◌∙◌}
use mathlib.Core.Bool.{Bool, true, false, not, ◌&&◌, true≢false, false≢true}
use mathlib.Core.Logic.{⊎_elim}
use native.Mathlib.Nat.{le_refl, le_of_suc-le-suc, eq-or-lt_of_le}
use native.Mathlib.Omega.{arith}
use borrow.Author.Tests.{ltb-true, ltb-false, eqb-true, eq-eqb, not-true}
use lib.Dec.{eqb, ltb}
use lib.IntN.{ℤ}
use lib.Signed.{lt_z, le_z, ◌≤ℤ◌, ◌<ℤ◌, ≤ℤ_refl, clash_ℤ}
use Rattle.lists.specs.Choice.{pick}
use Rattle.lists.specs.Iter.{iter}
use Rattle.lists.specs.Lowest.{lowest}
use Rattle.lists.proofs.Cases.{true_or_false, less_or_not, neither, either, both}
use Rattle.lists.proofs.Choice.{pick-true, pick-false}
use Rattle.lists.proofs.Iter.{iter_keeps, iter_agree}
use Rattle.lists.proofs.Lowest.{lowest_is, lowest_ext}
use Rattle.peeling.specs.Best.{Key, overtakes, replaces, best}
use Rattle.peeling.specs.Promise.{NotBetter}
use Rattle.peeling.proofs.SignedOrder.{<ℤ_≤ℤ, le_z-true, le_z-false, lt_z-true, lt_z-false, ≤ℤ_trans}

-- ---- of two keys

overtakes_yes : (last : Bool) (x y : ℤ) → overtakes last x y ≡ true → (x ≤ℤ y) × (last ≡ false → x <ℤ y)
unfolding overtakes
overtakes_yes true x y e = (le_z-true (sym (pick-true true (le_z x y) (lt_z x y) refl) ∙ e), λ q. absurd (true≢false q))
overtakes_yes false x y e = let h : x <ℤ y = lt_z-true (sym (pick-false false (le_z x y) (lt_z x y) refl) ∙ e) in (<ℤ_≤ℤ h, λ q. h)

overtakes_no : (last : Bool) (x y : ℤ) → overtakes last x y ≡ false → (y ≤ℤ x) × (last ≡ true → y <ℤ x)
unfolding overtakes
overtakes_no true x y e = let h : y <ℤ x = le_z-false (sym (pick-true true (le_z x y) (lt_z x y) refl) ∙ e) in (<ℤ_≤ℤ h, λ q. h)
overtakes_no false x y e = (lt_z-false (sym (pick-false false (le_z x y) (lt_z x y) refl) ∙ e), λ q. absurd (false≢true q))

module _ (last : Bool) where
  -- y is taken over x, which stands before it
  replaces_yes : (x y : Key) → replaces last x y ≡ true → (x.0 ≤ y.0) × (x.0 ≡ y.0 → (x.1 ≤ℤ y.1) × (last ≡ false → x.1 <ℤ y.1))
  unfolding replaces
  replaces_yes x y e =
      ⊎_elim
      (λ t. let h = ltb-true x.0 y.0 t in (omega arith, λ q. absurd (omega arith)))
      (λ t. let r = both (eqb x.0 y.0) (overtakes last x.1 y.1) t in (omega (arith, eqb-true x.0 y.0 r.0), λ q. overtakes_yes last x.1 y.1 r.1))
      (either (ltb x.0 y.0) (eqb x.0 y.0 && overtakes last x.1 y.1) e)

  -- and is not
  replaces_no : (x y : Key) → replaces last x y ≡ false → (y.0 ≤ x.0) × (y.0 ≡ x.0 → (y.1 ≤ℤ x.1) × (last ≡ true → y.1 <ℤ x.1))
  unfolding replaces
  replaces_no x y e =
      let r = neither (ltb x.0 y.0) (eqb x.0 y.0 && overtakes last x.1 y.1) e in (
        ltb-false x.0 y.0 r.0,
        λ q. overtakes_no last x.1 y.1 (ap (λ (t : Bool). t && overtakes last x.1 y.1) (sym (eq-eqb x.0 y.0 (sym q))) ∙ r.1),
      )

-- ---- of all

module _ (last : Bool) (n : ℕ) where
  module _ (known : ℕ → Bool) (key : ℕ → Key) where
    -- an unknown symbol below n
    abbrev New : ℕ → Type 0
    New b = (b < n) × (known b ≡ false)

    abbrev first : ℕ
    first = lowest (λ v. not (known v)) n 0

    abbrev test : ℕ → ℕ → Bool
    test v b = not (known v) && replaces last (key b) (key v)

    abbrev turn : ℕ → ℕ → ℕ
    turn v b = pick (test v b) v b

    first_new : (u : ℕ) → u < n → known u ≡ false → New first
    first_new u h e =
        let w = lowest_is (λ v. not (known v)) n 0 in
        ⊎_elim
        (λ l. (l, not-true (known first) (w.found (omega arith))))
        (λ l. absurd (false≢true (sym (w.none u (omega arith) (omega arith)) ∙ ap not e)))
        (less_or_not first n)

    turn_new : (v : ℕ) → v < n → (b : ℕ) → New b → New (turn v b)
    turn_new v h b q =
        ⊎_elim
        (λ t. subst New (sym (pick-true (test v b) v b t)) (h, not-true (known v) (both (not (known v)) (replaces last (key b) (key v)) t).0))
        (λ t. subst New (sym (pick-false (test v b) v b t)) q)
        (true_or_false (test v b))

    pub best_new : (u : ℕ) → u < n → known u ≡ false → (best last n known key < n) × (known (best last n known key) ≡ false)
    unfolding best
    best_new u h e = iter_keeps (λ _. New) n turn first (first_new u h e) turn_new

    -- ---- none is better

    -- after k turns: no unknown symbol below k is better, and none from k on stands before
    record Most (k b : ℕ) : Type 0 where
      most : (w : ℕ) → w < k → known w ≡ false → NotBetter last key w b
      ahead : (w : ℕ) → k ≤ w → w < n → known w ≡ false → b ≤ w

    start : Most 0 first
    start = record {
      most = λ w h e. absurd (omega arith);
      ahead = λ w h l e.
          ⊎_elim
          (λ b. absurd (false≢true (sym ((lowest_is (λ v. not (known v)) n 0).none w (omega arith) b) ∙ ap not e)))
          (λ b. b)
          (less_or_not w first);
    }

    -- v is no candidate or is not better
    stays : (v b : ℕ) → Most v b → (known v ≡ false → NotBetter last key v b) → Most (suc v) b
    stays v b m q = record {
      most = λ w h e. ⊎_elim (λ s. subst (λ (x : ℕ). NotBetter last key x b) (sym s) (q (ap known (sym s) ∙ e))) (λ l. m.most w l e) (eq-or-lt_of_le (le_of_suc-le-suc h));
      ahead = λ w h l e. m.ahead w (omega arith) l e;
    }

    not_better : (v b : ℕ) → v < n → Most v b → known v ≡ false → replaces last (key b) (key v) ≡ false → NotBetter last key v b
    not_better v b h m e t =
        let r = replaces_no last (key b) (key v) t in
        record {
          frees = r.0;
          prefers = λ q. (r.1 q).0;
          later = λ l q s. clash_ℤ ((r.1 q).1 l) (subst (λ (x : ℤ). (key b).1 ≤ℤ x) (sym s) (≤ℤ_refl (key b).1));
          earlier = λ l q s. m.ahead v (omega arith) h e;
        }

    taken : (v b : ℕ) → Most v b → replaces last (key b) (key v) ≡ true → Most (suc v) v
    taken v b m t =
        let r = replaces_yes last (key b) (key v) t in
        record {
          most = λ w h e.
              ⊎_elim
              (λ (s : w ≡ v). subst (λ (x : ℕ). NotBetter last key x v) (sym s) (record { frees = le_refl (key v).0; prefers = λ q. ≤ℤ_refl (key v).1; later = λ l q z. le_refl v; earlier = λ l q z. le_refl v }))
              (λ (l : w < v).
              let o = m.most w l e in
              record {
                frees = omega (arith, o.frees, r.0);
                prefers = λ q. ≤ℤ_trans (o.prefers (omega (arith, o.frees, r.0, q))) (r.1 (omega (arith, o.frees, r.0, q))).0;
                later = λ _ q z. omega arith;
                earlier = λ i q z.
                    let up = (r.1 (omega (arith, o.frees, r.0, q))).1 i in
                    clash_ℤ up (subst (λ (x : ℤ). x ≤ℤ (key b).1) z (o.prefers (omega (arith, o.frees, r.0, q))));
              })
              (eq-or-lt_of_le (le_of_suc-le-suc h));
          ahead = λ w h l e. omega arith;
        }

    step : (v : ℕ) → v < n → (b : ℕ) → Most v b → Most (suc v) (turn v b)
    step v h b m =
        ⊎_elim
        (λ t. subst (Most (suc v)) (sym (pick-true (test v b) v b t)) (taken v b m (both (not (known v)) (replaces last (key b) (key v)) t).1))
        (λ t. subst (Most (suc v)) (sym (pick-false (test v b) v b t))
        (stays v b m (λ e. not_better v b h m e (ap (λ (x : Bool). not x && replaces last (key b) (key v)) (sym e) ∙ t))))
        (true_or_false (test v b))

    pub best_most : (w : ℕ) → w < n → known w ≡ false → NotBetter last key w (best last n known key)
    unfolding best
    best_most w h e = (iter_keeps Most n turn first start step).most w h e

  pub best_ext : (known known' : ℕ → Bool) (key key' : ℕ → Key) → ((v : ℕ) → v < n → known v ≡ known' v) → ((v : ℕ) → v < n → key v ≡ key' v)
      → (u : ℕ) → u < n → known u ≡ false → best last n known key ≡ best last n known' key'
  unfolding best
  best_ext known known' key key' same keys u h e =
      iter_agree (New known key) n (turn known key) (turn known' key') (first known key) (first_new known key u h e) (turn_new known key)
      (λ v l b q. ap (λ (t : Bool). pick t v b) (ap₂ (λ (x y : Bool). not x && y) (same v l) (ap₂ (replaces last) (keys b q.0) (keys v l))))
      ∙ ap (iter n (turn known' key')) (lowest_ext (λ v. not (known v)) (λ v. not (known' v)) n 0 (λ i a b. ap not (same i (omega arith))))
