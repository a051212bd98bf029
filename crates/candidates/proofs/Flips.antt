-- One word added to another in place with the running score, as a loop does it over the positions where the other is not 0.
-- Assumes nothing.
use Prim.Native.Nat.{ℕ, suc, ◌+◌, ◌<◌}
use mathlib.Core.Path.{◌≡◌, sym, ap, subst, ◌∙◌}
use mathlib.Core.Logic.{◌≢◌, ⊎_elim}
use mathlib.Core.Bool.{not}
use mathlib.Core.List.{List}
use native.Mathlib.Nat.{le_refl}
use native.Mathlib.Numerals.{add-one}
use native.Mathlib.Omega.{arith}
use lib.Bits.{bit_xor, xor_zero_r}
use lib.Dec.{eqb}
use lib.Ieee.{Float, binary32, add, sub}
use lib.ListN.{length, set}
use lib.Seq.{ext_get_or, set-get_or}
use Rattle.lists.specs.Choice.{pick}
use Rattle.lists.specs.Each.{each}
use Rattle.lists.specs.Entry.{nth}
use Rattle.lists.specs.Iter.{iter}
use Rattle.lists.proofs.Cases.{same_or_not}
use Rattle.lists.proofs.Choice.{pick-not, pick_same, pick_other}
use Rattle.lists.proofs.Each.{each-length, each_at, each_after}
use Rattle.lists.proofs.Iter.{iter_start, iter_on, iter_end, iter_keeps, iter_ext}
use Rattle.lists.proofs.Keep.{keep_below_passes, keep_below-iter}
use Rattle.words.specs.Linear.{sum_of}
use Rattle.words.proofs.Sums.{sum_length, sum_at}
use Rattle.candidates.specs.GeneratorRows.{support}
use Rattle.candidates.specs.Score.{metric_at, change_turn, score_after}

pub support_inside : (g : List ℕ) (e : ℕ) → e < length (support g) → nth (support g) e < length g
unfolding support
support_inside g e h = (keep_below_passes (λ v. not (eqb (nth g v) 0)) (length g) e h).0

module _ (metrics : List Float) (g : List ℕ) where
  -- position v of the word at hand changed, with the score
  abbrev pub flip_at : ℕ → List ℕ × Float → List ℕ × Float
  flip_at v t = (
    set t.0 v (bit_xor (nth t.0 v) (nth g v)),
    add binary32 t.1 (sub binary32 (metric_at metrics v (bit_xor (nth t.0 v) (nth g v))) (metric_at metrics v (nth t.0 v))),
  )

  module _ (word₀ : List ℕ) (s₀ : Float) where
    -- what g makes of the symbol at position j
    abbrev added : ℕ → ℕ → ℕ
    added j y = bit_xor y (nth g j)

    -- the first v positions are done
    record Flipping (v : ℕ) (t : List ℕ × Float) : Type 0 where
      words : t.0 ≡ each 0 v added word₀
      scores : t.1 ≡ iter v (change_turn metrics g word₀) s₀

    start : Flipping 0 (word₀, s₀)
    unfolding each
    start = record { words = iter_start _ _; scores = iter_start _ _ }

    module _ (v : ℕ) (t : List ℕ × Float) (w : Flipping v t) where
      -- the symbol at hand is still the given one
      here : nth t.0 v ≡ nth word₀ v
      here = ap (λ (l : List ℕ). nth l v) w.words ∙ each_after 0 added v word₀ v (le_refl v)

      on : nth g v ≢ 0 → Flipping (v + 1) (flip_at v t)
      unfolding each
      on z = record {
        words = iter_on _ _ _ _ w.words;
        scores = ap (λ (x : ℕ). add binary32 t.1 (sub binary32 (metric_at metrics v (bit_xor x (nth g v))) (metric_at metrics v x))) here
            ∙ sym (pick_other (nth g v) 0 _ _ z) ∙ iter_on v (change_turn metrics g word₀) s₀ t.1 w.scores;
      }

      pass : nth g v ≡ 0 → Flipping (v + 1) t
      unfolding each
      pass z = record {
        words = sym (ap (set t.0 v) (ap (bit_xor (nth t.0 v)) z ∙ xor_zero_r (nth t.0 v)) ∙ set-get_or t.0 v 0) ∙ iter_on _ _ _ _ w.words;
        scores = sym (pick_same (nth g v) 0 _ _ z) ∙ iter_on v (change_turn metrics g word₀) s₀ t.1 w.scores;
      }

    -- ---- over all positions, those where g is 0 passed over

    abbrev turn : ℕ → List ℕ × Float → List ℕ × Float
    turn v t = pick (eqb (nth g v) 0) t (flip_at v t)

    all : (n : ℕ) → Flipping n (iter n turn (word₀, s₀))
    all n =
        iter_keeps Flipping n turn (word₀, s₀) start
        (λ v h t w. ⊎_elim
        (λ z. subst (λ (u : List ℕ × Float). Flipping (suc v) u) (sym (pick_same (nth g v) 0 t (flip_at v t) z)) (rw (← add-one v) (pass v t w z)))
        (λ z. subst (λ (u : List ℕ × Float). Flipping (suc v) u) (sym (pick_other (nth g v) 0 t (flip_at v t) z)) (rw (← add-one v) (on v t w z)))
        (same_or_not (nth g v) 0))

    done : length g ≡ length word₀ → (t : List ℕ × Float) → Flipping (length word₀) t → (t.1 ≡ score_after metrics g word₀ s₀) × (t.0 ≡ sum_of word₀ g)
    unfolding score_after
    done l t w = (
      w.scores,
      let long = ap length w.words ∙ each-length 0 added (length word₀) word₀ in
          ext_get_or 0 t.0 (sum_of word₀ g) (omega (arith, long, l, sum_length word₀ g))
          (λ j h.
          let b : j < length word₀ = omega (arith, long) in
          ap (λ (l : List ℕ). nth l j) w.words ∙ each_at 0 added (length word₀) word₀ j b b ∙ sym (sum_at word₀ g j)),
    )

    -- ---- over the support alone

    swapped : (v : ℕ) (t : List ℕ × Float) → turn v t ≡ pick (not (eqb (nth g v) 0)) (flip_at v t) t
    swapped v t = pick-not (eqb (nth g v) 0) t (flip_at v t)

    pub flips_end : length g ≡ length word₀ → (e : ℕ) (t : List ℕ × Float) → e ≡ length (support g) → t ≡ iter e (λ e. flip_at (nth (support g) e)) (word₀, s₀)
        → (t.1 ≡ score_after metrics g word₀ s₀) × (t.0 ≡ sum_of word₀ g)
    unfolding support
    flips_end l e t q r =
        let n = length g in
        let same = iter_end _ _ _ _ _ q r ∙ sym (keep_below-iter (λ v. not (eqb (nth g v) 0)) flip_at n (word₀, s₀)) ∙ sym (iter_ext n turn _ (word₀, s₀) (λ v h u. swapped v u)) in
        done l t (subst (λ (m : ℕ). Flipping m t) l (subst (Flipping n) (sym same) (all n)))
