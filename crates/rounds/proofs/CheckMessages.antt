-- The messages of a check from its three passes: the inputs, the products before each edge, those after it. And one more check.
-- Assumes nothing.
use Prim.Native.Nat.{ℕ, ◌+◌, ◌-◌, ◌<◌, ◌≤◌}
use mathlib.Core.Path.{◌≡◌, refl, sym, ap, ap₂, subst, ◌∙◌}
use mathlib.Core.Logic.{◌⊎◌, inl, inr}
use mathlib.Core.List.{List}
use native.Mathlib.Nat.{not-suc-le-zero}
use native.Mathlib.Omega.{arith}
use lib.Ieee.{Float}
use Rattle.lists.specs.Entry.{nth}
use Rattle.lists.proofs.Cases.{less_or_not}
use Rattle.lists.proofs.Rising.{rises}
use Rattle.vectors.specs.Vector.{Vector, vector, entry_product}
use Rattle.rounds.specs.CheckStep.{input, product_of, others, outgoing, from_check}
use Rattle.rounds.specs.Checked.{message_in, Messages, Made}
use Rattle.rounds.specs.Work.{to_checks, from_checks, inputs, Wrote, from_check_at, input_at, to_check_at}
use Rattle.rounds.specs.Ready.{Rows}
use Rattle.rounds.proofs.Alike.{product_of_ext, others_ext, input_ext, from_check_is}

module _ (coef : List ℕ) (lo d : ℕ) (end : lo + d ≤ 512) (few : d ≤ 32) (w₀ w₁ w₂ w₃ : List Float)
    (a : Wrote d input_at (λ j. input coef (to_checks w₀) (lo + j)) w₀ w₁)
    (b : Wrote d (λ j. from_check_at (lo + j)) (λ j. product_of j (inputs w₁)) w₁ w₂)
    (c : Wrote d (λ j. from_check_at (lo + (d - 1 - j))) (message_in coef lo d w₂) w₂ w₃) where
  abbrev f : ℕ → Vector
  f = input coef (to_checks w₀)

  -- the products before edge i, and after it
  before : (i : ℕ) → i < d → from_checks w₂ (lo + i) ≡ product_of i (λ j. f (lo + j))
  before i h = b.here i h ∙ product_of_ext i (inputs w₁) (λ j. f (lo + j)) (λ j l. a.here j (omega arith))

  after : (j : ℕ) → j < d → product_of j (λ i. inputs w₂ (d - 1 - i)) ≡ product_of j (λ i. f (lo + d - 1 - i))
  after j h =
      product_of_ext j _ _
      (λ i l.
      let q : lo + (d - 1 - i) ≡ lo + d - 1 - i = omega arith in
      b.else (input_at (d - 1 - i)) (λ k g r. omega arith) ∙ a.here (d - 1 - i) (omega arith) ∙ ap f q)

  made : (e : ℕ) → lo ≤ e → e < lo + d → from_checks w₃ e ≡ outgoing (nth coef e) (others lo (lo + d) f e)
  unfolding others
  made e l h =
      let j = lo + d - 1 - e in
      let q : lo + (d - 1 - j) ≡ e = omega arith in
      let g : lo + (e - lo) ≡ e = omega arith in
      ap (from_checks w₃) (sym q) ∙ c.here j (omega arith)
      ∙ ap (λ (i : ℕ). outgoing (nth coef i) (entry_product (from_checks w₂ i) (product_of j (λ i. inputs w₂ (d - 1 - i))))) q
      ∙ ap (outgoing (nth coef e)) (ap₂ entry_product (ap (from_checks w₂) (sym g) ∙ before (e - lo) (omega arith)) (after j (omega arith)))

  -- outside the messages and the inputs
  kept : (i : ℕ) → (i < 768 + lo) ⊎ (768 + (lo + d) ≤ i) → (i < 1280) → vector w₃ i ≡ vector w₀ i
  kept i o s = c.else i (λ j h q. out j h q o) ∙ b.else i (λ j h q. front j h q o) ∙ a.else i (λ j h q. omega arith)
    where
      out : (j : ℕ) → j < d → 768 + (lo + (d - 1 - j)) ≡ i → (i < 768 + lo) ⊎ (768 + (lo + d) ≤ i) → ⊥
      out j h q (inl u) = omega arith
      out j h q (inr u) = omega arith

      front : (j : ℕ) → j < d → 768 + (lo + j) ≡ i → (i < 768 + lo) ⊎ (768 + (lo + d) ≤ i) → ⊥
      front j h q (inl u) = omega arith
      front j h q (inr u) = omega arith

  pub messages_made : Messages coef lo (lo + d) w₀ w₃
  messages_made = record {
    long = c.long ∙ b.long ∙ a.long;
    made = made;
    state = λ i h. kept i (inl (omega arith)) (omega arith);
    other = λ e h o. kept (from_check_at e) (side e o) (omega arith);
  }
    where
      side : (e : ℕ) → (e < lo) ⊎ (lo + d ≤ e) → (768 + e < 768 + lo) ⊎ (768 + (lo + d) ≤ 768 + e)
      side e (inl u) = inl (omega arith)
      side e (inr u) = inr (omega arith)

-- ---- all checks, one after another

module _ (m : ℕ) (coef row : List ℕ) (r : Rows m coef row) (w₀ : List Float) where
  pub made_start : Made m coef row w₀ w₀ 0
  made_start = record { long = refl; made = λ e h. absurd (not-suc-le-zero (rw r.first at h)); state = λ i h. refl }

  pub made_on : (k hi : ℕ) (w w' : List Float) → k < m → hi ≡ nth row (k + 1) → Made m coef row w₀ w k → Messages coef (nth row k) hi w w' → Made m coef row w₀ w' (k + 1)
  made_on k hi w w' h g a c = record {
    long = b.long ∙ a.long;
    made = λ e l. go e l (less_or_not e (nth row k));
    state = λ i l. b.state i l ∙ a.state i l;
  }
    where
      b : Messages coef (nth row k) (nth row (k + 1)) w w'
      b = subst (λ (i : ℕ). Messages coef (nth row k) i w w') g c

      end : nth row (k + 1) ≤ nth row m
      end = rises m (nth row) r.rise (k + 1) m (omega arith) (omega arith)

      go : (e : ℕ) → e < nth row (k + 1) → (e < nth row k) ⊎ (nth row k ≤ e) → from_checks w' e ≡ from_check m coef row (to_checks w₀) e
      go e l (inl u) = b.other e (omega (arith, end, r.last)) (inl u) ∙ a.made e u
      go e l (inr u) =
          b.made e u l
          ∙ ap (outgoing (nth coef e)) (others_ext (nth row k) (nth row (k + 1)) _ _ e u l (λ i p q. input_ext coef (to_checks w) (to_checks w₀) i (a.state (to_check_at i) (omega (arith, end, r.last)))))
          ∙ sym (from_check_is m coef row r (to_checks w₀) k e h u l)

  pub made_end : (k : ℕ) (w : List Float) → k ≡ m → Made m coef row w₀ w k → Made m coef row w₀ w m
  made_end k w e a = subst (Made m coef row w₀ w) e a
