-- Values placed at positions that are each there once. The outcome is v after the inverse of p, so it gives each number once
-- where v does; and with v the identity it is the inverse of p.
-- Assumes nothing.
use mathlib.Core.Path.{◌≡◌, sym, ap, ◌∙◌}
use mathlib.Core.List.{List}
use Prim.Native.Nat.{ℕ, ◌<◌}
use native.Mathlib.Omega.{arith}
use lib.ListN.{length}
use Rattle.lists.specs.EachOnce.{EachOnce}
use Rattle.lists.specs.Entry.{nth}
use Rattle.lists.specs.Placed.{placed}
use Rattle.lists.proofs.EachOnce.{each_once_has}
use Rattle.lists.proofs.Placed.{placed_at}

module _ (n : ℕ) (p : ℕ → ℕ) (x : List ℕ) (long : length x ≡ n) (w : EachOnce n p) where
  pub placed_own : (v : ℕ → ℕ) (t : ℕ) → t < n → nth (placed n p v x) (p t) ≡ v t
  placed_own v t h = placed_at p v x n t h (omega (arith, w.inside t h)) (λ i l e. w.distinct i t l h e)

  pub placed_from : (v : ℕ → ℕ) (j : ℕ) → j < n → (t : ℕ) × (t < n) × (p t ≡ j) × (nth (placed n p v x) j ≡ v t)
  placed_from v j h = let r = each_once_has n p w j h in (r.0, r.1, r.2, ap (nth (placed n p v x)) (sym r.2) ∙ placed_own v r.0 r.1)

  pub placed_once : (v : ℕ → ℕ) → EachOnce n v → EachOnce n (nth (placed n p v x))
  placed_once v o = record {
    inside = λ j h. let r = placed_from v j h in omega (arith, r.3, o.inside r.0 r.1);
    distinct = λ j k h l q.
        let r = placed_from v j h in
        let s = placed_from v k l in
        sym r.2 ∙ ap p (o.distinct r.0 s.0 r.1 s.1 (sym r.3 ∙ q ∙ s.3)) ∙ s.2;
  }

  pub inverse_after : (t : ℕ) → t < n → nth (placed n p (λ i. i) x) (p t) ≡ t
  inverse_after = placed_own (λ i. i)

  pub after_inverse : (j : ℕ) → j < n → p (nth (placed n p (λ i. i) x) j) ≡ j
  after_inverse j h = let r = placed_from (λ i. i) j h in ap p r.3 ∙ r.2

-- a rule with a rule that leads back
pub each_once_back : (n : ℕ) (f g : ℕ → ℕ) → ((t : ℕ) → t < n → f t < n) → ((t : ℕ) → t < n → g (f t) ≡ t) → EachOnce n f
each_once_back n f g a b = record { inside = a; distinct = λ t v h l q. sym (b t h) ∙ ap g q ∙ b v l }
