-- Laws of the lists by variable: each holds its variable's edges and nothing else, ascending, and together they hold every edge once.
-- Assumes nothing.
use Prim.Native.Nat.{ℕ, zero, suc, ◌+◌, ◌<◌, ◌≤◌}
use mathlib.Core.Path.{◌≡◌, ap, sym, ◌∙◌, subst}
use mathlib.Core.Bool.{Bool}
use mathlib.Core.List.{List, [], ◌∷◌}
use mathlib.Core.Logic.{⊎_elim}
use native.Mathlib.Nat.{le_refl}
use native.Mathlib.Numerals.{add-one}
use native.Mathlib.Omega.{arith}
use borrow.Author.Tests.{eq-eqb, ne_eqb, eqb-true, lt-ltb, le-ltb}
use lib.Dec.{eqb, ltb}
use lib.ListN.{length, length-append}
use lib.Seq.{take-length}
use Rattle.lists.specs.Entry.{nth}
use Rattle.lists.specs.Keep.{keep_below}
use Rattle.lists.specs.Chain.{chain, start_of}
use Rattle.lists.specs.EachOnce.{EachOnce}
use Rattle.lists.specs.Times.{times}
use Rattle.lists.proofs.Cases.{same_or_not, less_or_not}
use Rattle.lists.proofs.Tally.{tally_yes}
use Rattle.lists.proofs.Keep.{keep_below_yes, keep_below_no, keep_below_empty, keep_below_up, keep_below-length, keep_below_has, keep_below_passes, keep_below_ascends}
use Rattle.lists.proofs.Times.{times_places}
use Rattle.lists.proofs.Chain.{start_none, start_more, start_is, chain_at, chain_place}
use Rattle.lists.proofs.EachOnce.{ascends_distinct}
use Rattle.graph.specs.Parts.{places}

-- whether edge e is v's
abbrev pub mine : List ℕ → ℕ → ℕ → Bool
mine vars v e = eqb (nth vars e) v

-- v's edges among the first e
abbrev pub found : List ℕ → ℕ → ℕ → List ℕ
found vars v e = keep_below (mine vars v) e

-- an edge of v is one more
pub found_room : (vars : List ℕ) (v e : ℕ) → e < length vars → nth vars e ≡ v → length (found vars v e) < length (places vars v)
unfolding places
found_room vars v e h q =
    let s = tally_yes (mine vars v) e (eq-eqb (nth vars e) v q) in
    omega (arith, keep_below_up (mine vars v) (length vars) (suc e) h)

-- ---- the variables' places one after another: as many as there are edges of variables below v

module _ (vars : List ℕ) where
  -- edges of the variables below v, among the first e
  below : ℕ → ℕ → List ℕ
  below v e = keep_below (λ e. ltb (nth vars e) v) e

  split : (v e : ℕ) → length (below (v + 1) e) ≡ length (below v e) + length (found vars v e)
  unfolding below
  split v zero = omega (arith, keep_below_empty (λ e. ltb (nth vars e) (v + 1)), keep_below_empty (λ e. ltb (nth vars e) v), keep_below_empty (mine vars v))
  split v (suc e) =
      let x = nth vars e in
      let i = split v e in
      ⊎_elim
      (λ l.
      let a = ap length (keep_below_yes (λ e. ltb (nth vars e) (v + 1)) e (lt-ltb x (v + 1) (omega arith))) ∙ length-append (below (v + 1) e) (e ∷ []) in
      let b = ap length (keep_below_yes (λ e. ltb (nth vars e) v) e (lt-ltb x v l)) ∙ length-append (below v e) (e ∷ []) in
      let d = ap length (keep_below_no (mine vars v) e (ne_eqb x v (λ q. omega arith))) in
      omega arith)
      (λ l. ⊎_elim
      (λ q.
      let a = ap length (keep_below_yes (λ e. ltb (nth vars e) (v + 1)) e (lt-ltb x (v + 1) (omega arith))) ∙ length-append (below (v + 1) e) (e ∷ []) in
      let b = ap length (keep_below_no (λ e. ltb (nth vars e) v) e (le-ltb x v l)) in
      let d = ap length (keep_below_yes (mine vars v) e (eq-eqb x v q)) ∙ length-append (found vars v e) (e ∷ []) in
      omega arith)
      (λ k.
      let a = ap length (keep_below_no (λ e. ltb (nth vars e) (v + 1)) e (le-ltb x (v + 1) (omega (arith, k)))) in
      let b = ap length (keep_below_no (λ e. ltb (nth vars e) v) e (le-ltb x v l)) in
      let d = ap length (keep_below_no (mine vars v) e (ne_eqb x v k)) in
      omega arith)
      (same_or_not x v))
      (less_or_not x v)

  none : (e : ℕ) → length (below 0 e) ≡ 0
  unfolding below
  none zero = keep_below_empty (λ e. ltb (nth vars e) 0)
  none (suc e) = ap length (keep_below_no (λ e. ltb (nth vars e) 0) e (le-ltb (nth vars e) 0 (omega arith))) ∙ none e

  starts : (v : ℕ) → start_of (places vars) v ≡ length (below v (length vars))
  unfolding places
  starts zero = start_none (places vars) ∙ sym (none (length vars))
  starts (suc v) =
      let i = starts v in
      let s = split v (length vars) in
      let m = start_more (places vars) v in
      let a = ap (start_of (places vars)) (add-one v) in
      let b = ap (λ (k : ℕ). length (below k (length vars))) (add-one v) in
      omega arith

  -- no edge is listed twice
  pub places_few : (v : ℕ) → start_of (places vars) v ≤ length vars
  unfolding below
  places_few v = omega (arith, starts v, keep_below-length (λ e. ltb (nth vars e) v) (length vars))

  -- where all variables are below n, each edge is listed
  pub places_all : (n : ℕ) → ((e : ℕ) → e < length vars → nth vars e < n) → start_of (places vars) n ≡ length vars
  unfolding below
  places_all n h = starts n ∙ all (length vars) (le_refl (length vars))
    where
      all : (e : ℕ) → e ≤ length vars → length (below n e) ≡ e
      all zero l = keep_below_empty (λ e. ltb (nth vars e) n)
      all (suc e) l =
          let i = all e (omega arith) in
          let a = ap length (keep_below_yes (λ e. ltb (nth vars e) n) e (lt-ltb (nth vars e) n (h e l))) ∙ length-append (below n e) (e ∷ []) in
          omega arith

-- ---- each variable's list holds its edges and nothing else, ascending

module _ (vars : List ℕ) (v : ℕ) where
  pub places_own : (t : ℕ) → t < length (places vars v) → (nth (places vars v) t < length vars) × (nth vars (nth (places vars v) t) ≡ v)
  unfolding places
  places_own t h =
      let r = keep_below_passes (mine vars v) (length vars) t h in
      (r.0, eqb-true (nth vars (nth (places vars v) t)) v r.1)

  pub places_has : (e : ℕ) → e < length vars → nth vars e ≡ v → (t : ℕ) × (t < length (places vars v)) × (nth (places vars v) t ≡ e)
  unfolding places
  places_has e h q = keep_below_has (mine vars v) (length vars) e h (eq-eqb (nth vars e) v q)

  pub places_ascend : (t u : ℕ) → t < u → u < length (places vars v) → nth (places vars v) t < nth (places vars v) u
  unfolding places
  places_ascend t u a h = keep_below_ascends (mine vars v) (length vars) t u a h

  -- as many as v stands among the edges
  pub places-times : length (places vars v) ≡ times v vars
  unfolding places
  places-times = times_places vars v (length vars) (le_refl (length vars)) ∙ ap (times v) (take-length vars)

-- ---- together they hold each edge once

module _ (vars : List ℕ) (n : ℕ) (low : (e : ℕ) → e < length vars → nth vars e < n) where
  -- the entry at place t is entry j of v's list
  entry : (t : ℕ) → t < length vars → (v : ℕ) × (j : ℕ) × (j < length (places vars v)) × (t ≡ start_of (places vars) v + j) × (nth (chain n (places vars)) t ≡ nth (places vars v) j)
  entry t h =
      let r = chain_place (places vars) n t (omega (arith, places_all vars n low, start_is (places vars) n)) in
      (r.0, r.1, r.3, r.4, ap (nth (chain n (places vars))) r.4 ∙ chain_at (places vars) n r.0 r.1 0 r.2 r.3)

  same : (v w j k : ℕ) → v ≡ w → j < length (places vars v) → k < length (places vars w) → nth (places vars v) j ≡ nth (places vars w) k → start_of (places vars) v + j ≡ start_of (places vars) w + k
  same v w j k e =
      subst (λ (w : ℕ). j < length (places vars v) → k < length (places vars w) → nth (places vars v) j ≡ nth (places vars w) k → start_of (places vars) v + j ≡ start_of (places vars) w + k) e
      (λ h l q. ap (λ (i : ℕ). start_of (places vars) v + i) (ascends_distinct (length (places vars v)) (nth (places vars v)) (places_ascend vars v) j k h l q))

  pub places_once : EachOnce (length vars) (nth (chain n (places vars)))
  places_once = record {
    inside = λ t h. let r = entry t h in omega (arith, r.4, (places_own vars r.0 r.1 r.2).0);
    distinct = λ t u h l q.
        let r = entry t h in
        let s = entry u l in
        let e = sym r.4 ∙ q ∙ s.4 in
        let o = sym (places_own vars r.0 r.1 r.2).1 ∙ ap (nth vars) e ∙ (places_own vars s.0 s.1 s.2).1 in
        r.3 ∙ same r.0 s.0 r.1 s.1 o r.2 s.2 e ∙ sym s.3;
  }
