-- Marks of the numbers f 0, .., f (k - 1) as a loop sets them, whether or not one is met twice.
-- Assumes nothing.
use Prim.Native.Nat.{ℕ, ◌+◌, ◌<◌}
use mathlib.Core.Path.{◌≡◌, refl, sym, ◌∙◌}
use mathlib.Core.Logic.{◌≢◌, ⊎_elim}
use mathlib.Core.Bool.{Bool, true, false}
use mathlib.Core.List.{List}
use native.Mathlib.Nat.{not-suc-le-zero}
use native.Mathlib.Omega.{arith}
use lib.ListN.{set, replicate, length-replicate, get_or-replicate, length-set}
use lib.Seq.{get_or-set_same, get_or-set_other}
use Rattle.lists.specs.Among.{among}
use Rattle.lists.proofs.Among.{true-among, false-among, among_or_not}
use Rattle.lists.proofs.Cases.{same_or_not}
use Rattle.lists.specs.Marks.{Marks}

module _ (n : ℕ) (f : ℕ → ℕ) where
  pub marks_start : Marks n f 0 (replicate n false)
  marks_start = record {
    long = length-replicate n false;
    marked = λ x h. get_or-replicate n x false false h ∙ sym (false-among 0 f x (λ t l. absurd (not-suc-le-zero l)));
  }

  pub marks_on : (k : ℕ) (marks : List Bool) → f k < n → Marks n f k marks → Marks n f (k + 1) (set marks (f k) true)
  marks_on k marks h w = record {
    long = length-set marks (f k) true ∙ w.long;
    marked = λ x l.
        ⊎_elim
        (λ e. rw e (get_or-set_same marks (f k) true false (omega (arith, w.long)) ∙ sym (true-among (k + 1) f (f k) k (omega arith) refl)))
        (λ d. get_or-set_other marks (f k) x true false d ∙ w.marked x l ∙ same x d)
        (same_or_not x (f k));
  }
    where
      same : (x : ℕ) → x ≢ f k → among k f x ≡ among (k + 1) f x
      same x d =
          ⊎_elim
          (λ r. true-among k f x r.0 r.1 r.2 ∙ sym (true-among (k + 1) f x r.0 (omega (arith, r.1)) r.2))
          (λ r. false-among k f x r ∙ sym (false-among (k + 1) f x (λ t l e. ⊎_elim (λ q. d (sym (rw q at e))) (λ q. r t (omega (arith, q)) e) (same_or_not t k))))
          (among_or_not k f x)
