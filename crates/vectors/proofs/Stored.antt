-- Laws of vectors in a part: a vector's length and entries, and what a part has after one of its vectors is stored.
-- Assumes nothing.
use Prim.Native.Nat.{ℕ, ◌+◌, ◌*◌, ◌<◌, ◌≤◌}
use mathlib.Core.Path.{◌≡◌, ap, sym, ◌∙◌}
use mathlib.Core.Logic.{◌≢◌, ◌⊎◌, inl, inr}
use mathlib.Core.List.{List}
use native.Mathlib.Omega.{arith}
use lib.Ieee.{Float, nan}
use lib.ListN.{length, set}
use Rattle.lists.specs.Laid.{laid_from}
use Rattle.lists.specs.Values.{values}
use Rattle.lists.proofs.Cases.{less_or_not}
use Rattle.lists.proofs.Laid as Laid
use Rattle.lists.proofs.Values.{values_none, values-length, values_at, values_more, values_ext, values_own}
use Rattle.vectors.specs.Vector.{Vector, at, vector, stored}

pub vector-length : (part : List Float) (i : ℕ) → length (vector part i) ≡ 32
unfolding vector
vector-length part i = values-length (λ x. at part (i * 32 + x)) 32

pub vector-at : (part : List Float) (i x : ℕ) → x < 32 → at (vector part i) x ≡ at part (i * 32 + x)
unfolding vector
vector-at part i x h = values_at (λ x. at part (i * 32 + x)) 32 x nan h

pub stored-length : (part : List Float) (i : ℕ) (p : Vector) → length p ≡ 32 → i * 32 + 32 ≤ length part → length (stored part i p) ≡ length part
unfolding stored
stored-length part i p e h = Laid.from_length (i * 32) p part (omega arith)

-- ---- the vector stored, and the others

pub stored_same : (part : List Float) (i : ℕ) (p : Vector) → length p ≡ 32 → i * 32 + 32 ≤ length part → vector (stored part i p) i ≡ p
unfolding vector stored
stored_same part i p e h =
    values_ext 32 (λ x. at (stored part i p) (i * 32 + x)) (at p) nan (λ x l. Laid.from_own (i * 32) x p part nan (omega arith) (omega arith))
    ∙ ap (λ (n : ℕ). values n (at p)) (sym e) ∙ values_own nan p

pub stored_other : (part : List Float) (i j : ℕ) (p : Vector) → length p ≡ 32 → i * 32 + 32 ≤ length part → i ≢ j → vector (stored part i p) j ≡ vector part j
unfolding vector stored
stored_other part i j p e h n =
    values_ext 32 (λ x. at (stored part i p) (j * 32 + x)) (λ x. at part (j * 32 + x)) nan (λ x l. go x l (less_or_not j i))
  where
    go : (x : ℕ) → x < 32 → (j < i) ⊎ (i ≤ j) → at (laid_from (i * 32) p part) (j * 32 + x) ≡ at part (j * 32 + x)
    go x l (inl m) = Laid.from_before (i * 32) (j * 32 + x) p part nan (omega arith) (omega arith)
    go x l (inr m) = Laid.from_after (i * 32) (j * 32 + x) p part nan (omega arith) (omega arith)

-- ---- as a loop that stores f 0, f 1, .. one after another, where these are the vector's entries at the end

pub storing_start : (f : ℕ → Float) (i : ℕ) (part : List Float) → part ≡ laid_from (i * 32) (values 0 f) part
storing_start f i part = Laid.from_start (i * 32) part ∙ ap (λ (l : List Float). laid_from (i * 32) l part) (sym (values_none f))

pub storing_on : (f : ℕ → Float) (i x : ℕ) (part q : List Float) → i * 32 + x < length part → q ≡ laid_from (i * 32) (values x f) part → set q (i * 32 + x) (f x) ≡ laid_from (i * 32) (values (x + 1) f) part
storing_on f i x part q h e =
    Laid.from_on (i * 32) (values x f) part q (i * 32 + x) (f x) (ap (λ (n : ℕ). i * 32 + n) (sym (values-length f x))) h e
    ∙ ap (λ (l : List Float). laid_from (i * 32) l part) (sym (values_more f x))

pub storing_end : (p : Vector) (i x : ℕ) (part q : List Float) → x ≡ length p → q ≡ laid_from (i * 32) (values x (at p)) part → q ≡ stored part i p
unfolding stored
storing_end p i x part q n e =
    e ∙ ap (λ (l : List Float). laid_from (i * 32) l part) (ap (λ (k : ℕ). values k (at p)) n ∙ values_own nan p)
