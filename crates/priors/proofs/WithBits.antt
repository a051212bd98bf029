-- What one bit adds to a symbol's metrics, and all five, as the code adds it: a bit at a time to all 32.
-- Assumes nothing.
use Prim.Native.Nat.{ℕ, ◌+◌, ◌*◌, ◌<◌, ◌≤◌}
use mathlib.Core.Path.{◌≡◌, refl, sym, ap, ◌∙◌}
use mathlib.Core.Bool.{Bool, true, false}
use mathlib.Core.List.{List}
use native.Mathlib.Omega.{arith}
use borrow.Author.Tests.{le-leb, lt-leb}
use lib.Dec.{leb}
use lib.Ieee.{Float, binary32, add, mul, neg, nan}
use lib.ListN.{length, take, drop}
use Rattle.lists.specs.Choice.{pick}
use Rattle.lists.specs.Entry.{nth}
use Rattle.lists.specs.Iter.{iter}
use Rattle.lists.specs.Values.{values}
use Rattle.lists.proofs.Choice.{pick-true, pick-false, pick_less, pick_not_less}
use Rattle.lists.proofs.Iter.{iter_more, iter_ext, iter_keeps}
use Rattle.lists.proofs.ListSearch.{middle_at}
use Rattle.lists.proofs.Values.{values_ext, values_at, values_own, values-length}
use Rattle.vectors.specs.Vector.{Vector, at, vector, stored}
use Rattle.vectors.proofs.Stored.{stored-length}
use Rattle.priors.specs.WithPriors.{half32, ruled_out32, is_one, with_bit, with_bits, with_priors}

-- ---- one bit

half_either : (one : Bool) (l a : Float) → add binary32 l (pick one (mul binary32 (neg half32) a) (mul binary32 half32 a)) ≡ add binary32 l (mul binary32 (pick one (neg half32) half32) a)
unfolding pick
half_either true l a = refl
half_either false l a = refl

module _ (prior : List Float) (b k : ℕ) (p : Vector) where
  abbrev all : Vector
  all = values 32 (λ v. with_bit prior b (is_one v k) (at p v))

  pub of_padding : 256 ≤ b → values 32 (λ v. pick (is_one v k) (add binary32 (at p v) ruled_out32) (at p v)) ≡ all
  unfolding with_bit
  of_padding h =
      values_ext 32 (λ v. pick (is_one v k) (add binary32 (at p v) ruled_out32) (at p v)) (λ v. with_bit prior b (is_one v k) (at p v)) nan
      (λ v l. sym (pick-true (leb 256 b) _ _ (le-leb 256 b h)))

  pub of_prior : b < 256 → b < length prior → values 32 (λ v. add binary32 (at p v) (pick (is_one v k) (mul binary32 (neg half32) (at prior b)) (mul binary32 half32 (at prior b)))) ≡ all
  unfolding with_bit
  of_prior h m =
      values_ext 32 (λ v. add binary32 (at p v) (pick (is_one v k) (mul binary32 (neg half32) (at prior b)) (mul binary32 half32 (at prior b)))) (λ v. with_bit prior b (is_one v k) (at p v)) nan
      (λ v l. half_either (is_one v k) (at p v) (at prior b) ∙ sym (pick-false (leb 256 b) _ _ (lt-leb 256 b h) ∙ pick_less b (length prior) _ _ m))

  pub of_none : length p ≡ 32 → b < 256 → length prior ≤ b → p ≡ all
  unfolding with_bit
  of_none e h m =
      sym (values_own nan p) ∙ ap (λ (n : ℕ). values n (at p)) e
      ∙ values_ext 32 (at p) (λ v. with_bit prior b (is_one v k) (at p v)) nan (λ v l. sym (pick-false (leb 256 b) _ _ (lt-leb 256 b h) ∙ pick_not_less b (length prior) _ _ m))

-- ---- the first k of a symbol's bits

module _ (prior : List Float) (b : ℕ → ℕ) (m : Vector) where
  abbrev turn : ℕ → ℕ → Float → Float
  turn v k l = with_bit prior (b k) (is_one v k) l

  pub bits_start : length m ≡ 32 → m ≡ values 32 (λ v. iter 0 (λ k l. with_bit prior (b k) (is_one v k) l) (at m v))
  unfolding iter
  bits_start e = sym (values_own nan m) ∙ ap (λ (n : ℕ). values n (at m)) e

  pub bits_on : (k : ℕ) (q : Vector) → q ≡ values 32 (λ v. iter k (λ k l. with_bit prior (b k) (is_one v k) l) (at m v))
      → values 32 (λ v. with_bit prior (b k) (is_one v k) (at q v)) ≡ values 32 (λ v. iter (k + 1) (λ k l. with_bit prior (b k) (is_one v k) l) (at m v))
  bits_on k q e =
      values_ext 32 (λ v. turn v k (at q v)) (λ v. iter (k + 1) (turn v) (at m v)) nan
      (λ v l. ap (turn v k) (ap (λ (r : Vector). at r v) e ∙ values_at (λ v. iter k (turn v) (at m v)) 32 v nan l) ∙ sym (iter_more k (turn v) (at m v)))

  pub bits_end : (k : ℕ) (q : Vector) → k ≡ 5 → q ≡ values 32 (λ v. iter k (λ k l. with_bit prior (b k) (is_one v k) l) (at m v)) → q ≡ with_bits prior b m
  unfolding with_bits
  bits_end k q e h = h ∙ ap (λ (n : ℕ). values 32 (λ v. iter n (turn v) (at m v))) e

  pub bits-length : length (with_bits prior b m) ≡ 32
  unfolding with_bits
  bits-length = values-length (λ v. iter 5 (turn v) (at m v)) 32

-- the places of the bits, where they agree on five
pub bits_ext : (prior : List Float) (b d : ℕ → ℕ) (m : Vector) → ((k : ℕ) → k < 5 → b k ≡ d k) → with_bits prior b m ≡ with_bits prior d m
unfolding with_bits
bits_ext prior b d m e =
    values_ext 32 (λ v. iter 5 (λ k l. with_bit prior (b k) (is_one v k) l) (at m v)) (λ v. iter 5 (λ k l. with_bit prior (d k) (is_one v k) l) (at m v)) nan
    (λ v l. iter_ext 5 (λ k x. with_bit prior (b k) (is_one v k) x) (λ k x. with_bit prior (d k) (is_one v k) x) (at m v) (λ k h x. ap (λ (i : ℕ). with_bit prior i (is_one v k) x) (e k h)))

-- five places of a table from place `at` on
pub bits_from : (prior : List Float) (bit : List ℕ) (from e : ℕ) (m : Vector) → e ≡ 5 → with_bits prior (nth (take e (drop from bit))) m ≡ with_bits prior (λ k. nth bit (from + k)) m
bits_from prior bit from e m h =
    bits_ext prior (nth (take e (drop from bit))) (λ k. nth bit (from + k)) m (λ k l. middle_at bit from e k (omega arith))

-- ---- a frame's metrics, by positions that agree on its 52 symbols, and how many they are

pub with_priors_ext : (bit place other : ℕ → ℕ) (prior metrics : List Float) → ((j : ℕ) → j < 52 → place j ≡ other j) → with_priors bit place prior metrics ≡ with_priors bit other prior metrics
unfolding with_priors
with_priors_ext bit place other prior metrics e =
    iter_ext 52 (λ j w. stored w (place j) (with_bits prior (λ k. bit (5 * j + k)) (vector w (place j)))) (λ j w. stored w (other j) (with_bits prior (λ k. bit (5 * j + k)) (vector w (other j)))) metrics
    (λ j h w. ap (λ (i : ℕ). stored w i (with_bits prior (λ k. bit (5 * j + k)) (vector w i))) (e j h))

pub with_priors-length : (bit place : ℕ → ℕ) (prior metrics : List Float) → ((j : ℕ) → j < 52 → place j * 32 + 32 ≤ length metrics) → length (with_priors bit place prior metrics) ≡ length metrics
unfolding with_priors
with_priors-length bit place prior metrics h =
    iter_keeps (λ _ (w : List Float). length w ≡ length metrics) 52 (λ j w. stored w (place j) (with_bits prior (λ k. bit (5 * j + k)) (vector w (place j)))) metrics refl
    (λ j l w e. stored-length w (place j) (with_bits prior (λ k. bit (5 * j + k)) (vector w (place j))) (bits-length prior (λ k. bit (5 * j + k)) (vector w (place j))) (omega (arith, h j l)) ∙ e)
