-- The best after so many steps: it is one of the candidates, with its running score, and no candidate's running score so far is greater. Of all floats, NaN included.
-- Assumes nothing.
use Prim.Native.Nat.{ℕ, zero, suc, ◌+◌, ◌≤◌}
use mathlib.Core.Path.{◌≡◌, refl, sym, ap, ap₂, subst, ◌∙◌}
use mathlib.Core.Logic.{◌⊎◌, inl, inr, ⊎_elim}
use mathlib.Core.Bool.{true, false, true≢false}
use mathlib.Core.List.{List}
use native.Mathlib.Nat.{le_refl}
use native.Mathlib.Numerals.{add-one}
use native.Mathlib.Omega.{arith}
use lib.Count.{count_trailing_zeros}
use lib.Ieee.{Float, lt}
use Rattle.lists.proofs.Cases.{true_or_false, same_or_not}
use Rattle.lists.proofs.Choice.{pick-true, pick-false}
use Rattle.vectors.proofs.FloatOrder.{lt_same, lt_on}
use Rattle.candidates.specs.Tried.{Tried, beginning, flipped, compared, tried}
use Rattle.candidates.proofs.Stepping.{tried_first, tried_next}

-- ---- one step

-- t follows s: its candidate is the best where its score is greater, and the best stays otherwise
abbrev Beats : Tried → Tried → Type 0
Beats s t = (t.best ≡ t.word) × (t.best_score ≡ t.score) × (lt s.best_score t.score ≡ true)

abbrev Stays : Tried → Tried → Type 0
Stays s t = (t.best ≡ s.best) × (t.best_score ≡ s.best_score) × (lt s.best_score t.score ≡ false)

step_best : (metrics : List Float) (g : List ℕ) (s : Tried) → Beats s (compared (flipped metrics g s)) ⊎ Stays s (compared (flipped metrics g s))
unfolding compared flipped
step_best metrics g s =
    ⊎_elim
    (λ y. inl (subst (Beats s) (sym (pick-true _ _ _ y)) (refl, refl, y)))
    (λ n. inr (subst (Stays s) (sym (pick-false _ _ _ n)) (refl, refl, n)))
    (true_or_false (lt s.best_score (flipped metrics g s).score))

-- ---- all steps

module _ (metrics : List Float) (gens : ℕ → List ℕ) (base : List ℕ) where
  -- the state after i steps
  abbrev after : ℕ → Tried
  after i = tried metrics gens base i

  pub record Best (steps : ℕ) : Type 0 where
    pub place : ℕ
    pub inside : place ≤ steps
    pub word : (tried metrics gens base steps).best ≡ (tried metrics gens base place).word
    pub score : (tried metrics gens base steps).best_score ≡ (tried metrics gens base place).score
    pub most : (i : ℕ) → i ≤ steps → lt (tried metrics gens base steps).best_score (tried metrics gens base i).score ≡ false

  followed : (n : ℕ) → Beats (after n) (after (n + 1)) ⊎ Stays (after n) (after (n + 1))
  followed n = subst (λ (t : Tried). Beats (after n) t ⊎ Stays (after n) t) (sym (tried_next metrics gens base n)) (step_best metrics (gens (count_trailing_zeros 32 (n + 1))) (after n))

  first : Best 0
  unfolding beginning
  first = record {
    place = 0;
    inside = le_refl 0;
    word = ap (λ (s : Tried). s.best) (tried_first metrics gens base) ∙ sym (ap (λ (s : Tried). s.word) (tried_first metrics gens base));
    score = same;
    most = λ i h. let z : i ≡ 0 = omega arith in ap₂ lt same (ap (λ (k : ℕ). (after k).score) z) ∙ lt_same (after 0).score;
  }
    where
      same : (after 0).best_score ≡ (after 0).score
      same = ap (λ (s : Tried). s.best_score) (tried_first metrics gens base) ∙ sym (ap (λ (s : Tried). s.score) (tried_first metrics gens base))

  module _ (n : ℕ) (b : Best n) where
    beats : Beats (after n) (after (n + 1)) → Best (n + 1)
    beats w = record {
      place = n + 1;
      inside = le_refl (n + 1);
      word = w.0;
      score = w.1;
      most = λ i h. ⊎_elim
          (λ e. ap₂ lt w.1 (ap (λ (k : ℕ). (after k).score) e) ∙ lt_same (after (n + 1)).score)
          (λ q. ⊎_elim
          (λ y. absurd (true≢false (sym (lt_on (after n).best_score (after (n + 1)).score (after i).score w.2 (ap (λ (x : Float). lt x (after i).score) (sym w.1) ∙ y)) ∙ b.most i (omega (arith, q)))))
          (λ z. z)
          (true_or_false (lt (after (n + 1)).best_score (after i).score)))
          (same_or_not i (n + 1));
    }

    stays : Stays (after n) (after (n + 1)) → Best (n + 1)
    stays w = record {
      place = b.place;
      inside = omega (arith, b.inside);
      word = w.0 ∙ b.word;
      score = w.1 ∙ b.score;
      most = λ i h. ap (λ (x : Float). lt x (after i).score) w.1
          ∙ ⊎_elim (λ e. ap (λ (k : ℕ). lt (after n).best_score (after k).score) e ∙ w.2) (λ q. b.most i (omega (arith, q))) (same_or_not i (n + 1));
    }

  pub best : (steps : ℕ) → Best steps
  best zero = first
  best (suc n) = rw (← add-one n) (⊎_elim (beats n (best n)) (stays n (best n)) (followed n))
