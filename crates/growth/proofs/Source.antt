-- The candidates as nb.rs finds them: it drops the variable's own checks, and where none are left falls back on the layer before and on all other checks.
-- Fresh candidates need none of the three, so these are the candidates of the definition.
-- Assumes nothing.
use Prim.Native.Nat.{ℕ, zero, suc, ◌<◌, ◌≤◌}
use mathlib.Core.Path.{◌≡◌, refl, ap, sym, ◌∙◌, subst}
use mathlib.Core.Bool.{Bool, true, false, not, ◌&&◌}
use mathlib.Core.List.{List, [], ◌∷◌}
use mathlib.Core.Logic.{⊎_elim}
use native.Mathlib.Omega.{arith}
use borrow.Author.Tests.{eq-eqb, ne_eqb}
use lib.Dec.{eqb}
use lib.ListN.{length, get_or, get_or-replicate}
use Rattle.lists.specs.Choice.{pick}
use Rattle.lists.specs.Keep.{keep, keep_below}
use Rattle.lists.specs.Times.{times}
use Rattle.lists.proofs.Cases.{same_or_not}
use Rattle.lists.proofs.Choice.{pick-true, pick-false, pick_same, pick_other}
use Rattle.lists.proofs.Keep.{keep_below_ext}
use Rattle.lists.proofs.Times.{times_same, times-append, times-length}
use Rattle.growth.specs.Adjacency.{Adjacency}
use Rattle.growth.specs.Search.{unmarked, clear, Reach, begin, new_c, new_v, rest, onward, none}
use Rattle.growth.specs.Served.{Good}
use Rattle.growth.proofs.Breadth.{candidates, turn_none, turn_all, turn_last, turn_on}
use Rattle.growth.proofs.Candidates.{Fresh, candidates_for, searched_fresh}

-- c is no check of v's own
abbrev pub other : Adjacency → ℕ → ℕ → Bool
other g v c = eqb (times c (g.var v)) 0

-- without v's own checks, and all others where none are left
abbrev pub dropped : ℕ → Adjacency → ℕ → List ℕ → List ℕ
dropped m g v l = pick (none (keep (other g v) l)) (keep_below (other g v) m) (keep (other g v) l)

-- the search, with the layer before
unfoldable pub sourced : ℕ → ℕ → Adjacency → ℕ → List ℕ → Reach → List ℕ
sourced zero m g v last s = []
sourced (suc fuel) m g v last s =
    pick (not (none (rest m g s)) && none (new_c g s).1) (rest m g s)
    (pick (none (rest m g s)) (dropped m g v (pick (none (new_c g s).1) last (new_c g s).1))
    (pick (none (new_v g s).1) (rest m g s)
    (sourced fuel m g v (new_c g s).1 (onward g s))))

abbrev pub sourced_for : ℕ → Adjacency → ℕ → ℕ → List ℕ
sourced_for m g v k = pick (eqb k 0) (keep_below (other g v) m) (sourced 257 m g v [] (begin v))

keep-other : (g : Adjacency) (v : ℕ) (l : List ℕ) → ((c : ℕ) → 0 < times c l → times c (g.var v) ≡ 0) → keep (other g v) l ≡ l
unfolding keep
keep-other g v [] h = refl
keep-other g v (x ∷ l) h =
    let a = times_same x x l refl in
    let e = pick_same (times x (g.var v)) 0 (x ∷ []) [] (h x (omega arith)) in
    let i = keep-other g v l (λ c q. h c (let t = times-append c (x ∷ []) l in omega arith)) in
    rw (e, i)

and_true : (a b : Bool) → a ≡ false → b ≡ true → (not a && b) ≡ true
and_true a b p q = rw (p, q)

and_false : (a b : Bool) → b ≡ false → (not a && b) ≡ false
and_false true b q = refl
and_false false b q = q

module _ (m : ℕ) (g : Adjacency) (v : ℕ) where
  dropped_same : (l : List ℕ) → Fresh m g v l → dropped m g v l ≡ l
  dropped_same l f =
      let e = keep-other g v l (λ c h. (f.apart c h).1) in
      rw e (pick_other (length l) 0 (keep_below (other g v) m) l (λ z. let s = f.some in omega arith))

  sourced_same : (fuel : ℕ) (last : List ℕ) (s : Reach) → Fresh m g v (candidates fuel m g s) → sourced fuel m g v last s ≡ candidates fuel m g s
  unfolding sourced
  sourced_same zero last s f = absurd (let a = f.some in unfold candidates in omega arith)
  sourced_same (suc fuel) last s f =
      let c = (new_c g s).1 in
      let r = rest m g s in
      ⊎_elim
      (λ e.
      let q = turn_none fuel m g s e in
      let h = f.some in
      let z = ap length q in
      pick-true _ r _ (and_true (none r) (none c) (ne_eqb (length r) 0 (λ y. omega arith)) (eq-eqb (length c) 0 e)) ∙ sym q)
      (λ n. pick-false _ r _ (and_false (none r) (none c) (ne_eqb (length c) 0 n))
      ∙ ⊎_elim
      (λ e.
      let q = turn_all fuel m g s n e in
      pick_same (length r) 0 _ _ e
      ∙ ap (dropped m g v) (pick_other (length c) 0 last c n)
      ∙ dropped_same c (subst (Fresh m g v) q f)
      ∙ sym q)
      (λ k. pick_other (length r) 0 _ _ k
      ∙ ⊎_elim
      (λ e. pick_same (length (new_v g s).1) 0 _ _ e ∙ sym (turn_last fuel m g s n k e))
      (λ e.
      let q = turn_on fuel m g s n k e in
      pick_other (length (new_v g s).1) 0 _ _ e ∙ sourced_same fuel c (onward g s) (subst (Fresh m g v) q f) ∙ sym q)
      (same_or_not (length (new_v g s).1) 0))
      (same_or_not (length r) 0))
      (same_or_not (length c) 0)

  first_same : m ≤ 256 → length (g.var v) ≡ 0 → keep_below (other g v) m ≡ unmarked clear m
  unfolding unmarked
  first_same b e =
      keep_below_ext (other g v) (λ c. not (get_or clear c false)) m
      (λ c h. eq-eqb (times c (g.var v)) 0 (let t = times-length c (g.var v) in omega arith) ∙ sym (ap not (get_or-replicate 256 c false false (omega arith))))

-- the source's candidates are the definition's
pub source_same : (m n : ℕ) (g : Adjacency) (v k : ℕ) → Good m n g → m ≤ 256 → n ≤ 256 → v < 256 → length (g.var v) ≡ k → k < m → sourced_for m g v k ≡ candidates_for m g v k
source_same m n g v k good mb nb vb own kb =
    ⊎_elim
    (λ e. pick_same k 0 _ _ e ∙ first_same m g v mb (own ∙ e) ∙ sym (pick_same k 0 _ _ e))
    (λ z. pick_other k 0 _ _ z ∙ sourced_same m g v 257 [] (begin v) (searched_fresh m n g v good mb nb vb (omega arith)) ∙ sym (pick_other k 0 _ _ z))
    (same_or_not k 0)
