-- The parts of a code read back from the slices in which they stand one after another.
-- Assumes nothing.
use Prim.Native.Nat.{ℕ, ◌+◌}
use mathlib.Core.Path.{◌≡◌, refl, ap, sym, ◌∙◌}
use mathlib.Core.List.{List, [], ◌∷◌, ◌++◌, append-nil}
use native.Mathlib.Omega.{arith}
use lib.ListN.{length, take, drop, length-append}
use lib.Seq.{take_at, drop-drop}
use Rattle.graph.specs.Buildable.{PartsFit}
use Rattle.graph.specs.declared.Code.{Code}
use Rattle.graph.specs.Parts.{Parts, lent}
use Rattle.lent.specs.Held.{Held}
use Rattle.rates.specs.Slices.{code_words, code_bytes}

module _ (p : Parts) (w : PartsFit p) where
  pub words-length : length (code_words p) ≡ 2306
  unfolding code_words
  words-length = simp (length-append) (omega (arith, w.var, w.row, w.start, w.col, w.order, w.parity, w.info))

  pub bytes-length : length (code_bytes p) ≡ 16896
  unfolding code_bytes
  bytes-length = simp (length-append) (omega (arith, w.coef, w.a))

-- ---- one part after another

drop_front : (l s : List ℕ) → drop (length l) (l ++ s) ≡ s
drop_front [] s = refl
drop_front (x ∷ l) s = drop_front l s

-- from place k on stand l and then s, and l has j entries
module _ (whole l s : List ℕ) (k j : ℕ) (e : drop k whole ≡ l ++ s) (long : length l ≡ j) where
  part : take j (drop k whole) ≡ l
  part = ap (take j) e ∙ take_at l s j long

  rest : drop (k + j) whole ≡ s
  rest = sym (drop-drop j k whole) ∙ ap (drop j) e ∙ ap (λ (i : ℕ). drop i (l ++ s)) (sym long) ∙ drop_front l s

last : (whole l : List ℕ) (k j : ℕ) → drop k whole ≡ l → length l ≡ j → take j (drop k whole) ≡ l
last whole l k j e long = part whole l [] k j (e ∙ sym (append-nil l)) long

-- ---- the parts of a code

held_parts : (c : Code) (p : Parts) (var coef row start col order parity info a : List ℕ)
    → var ≡ p.var → coef ≡ p.coef → row ≡ p.row → start ≡ p.start → col ≡ p.col → order ≡ p.order → parity ≡ p.parity → info ≡ p.info → a ≡ p.a
    → ◌≡◌ {A = Held} (record { code = c; parts = lent var coef row start col order parity info a }) (record { code = c; parts = p })
held_parts c p var coef row start col order parity info a e₁ e₂ e₃ e₄ e₅ e₆ e₇ e₈ e₉ = rw (e₁, e₂, e₃, e₄, e₅, e₆, e₇, e₈, e₉)

pub view_is : (c : Code) (p : Parts) (words bytes : List ℕ) → PartsFit p → words ≡ code_words p → bytes ≡ code_bytes p
    → ◌≡◌ {A = Held}
    (record {
      code = c;
      parts = lent (take 512 words) (take 512 bytes) (take 257 (drop 512 words)) (take 257 (drop 769 words)) (take 512 (drop 1026 words))
          (take 256 (drop 1538 words)) (take 256 (drop 1794 words)) (take 256 (drop 2050 words)) (take 16384 (drop 512 bytes));
    })
    (record { code = c; parts = p })
unfolding code_words code_bytes
view_is c p words bytes w e f =
    let r₆ : List ℕ = p.parity ++ p.info in
    let r₅ : List ℕ = p.order ++ r₆ in
    let r₄ : List ℕ = p.col ++ r₅ in
    let r₃ : List ℕ = p.start ++ r₄ in
    let r₂ : List ℕ = p.row ++ r₃ in
    let d₁ : drop 512 words ≡ r₂ = rest words p.var r₂ 0 512 e w.var in
    let d₂ : drop 769 words ≡ r₃ = rest words p.row r₃ 512 257 d₁ w.row in
    let d₃ : drop 1026 words ≡ r₄ = rest words p.start r₄ 769 257 d₂ w.start in
    let d₄ : drop 1538 words ≡ r₅ = rest words p.col r₅ 1026 512 d₃ w.col in
    let d₅ : drop 1794 words ≡ r₆ = rest words p.order r₆ 1538 256 d₄ w.order in
    held_parts c p _ _ _ _ _ _ _ _ _
    (part words p.var r₂ 0 512 e w.var)
    (part bytes p.coef p.a 0 512 f w.coef)
    (part words p.row r₃ 512 257 d₁ w.row)
    (part words p.start r₄ 769 257 d₂ w.start)
    (part words p.col r₅ 1026 512 d₃ w.col)
    (part words p.order r₆ 1538 256 d₄ w.order)
    (part words p.parity p.info 1794 256 d₅ w.parity)
    (last words p.info 2050 256 (rest words p.parity p.info 1794 256 d₅ w.parity) w.info)
    (last bytes p.a 512 16384 (rest bytes p.coef p.a 0 512 f w.coef) w.a)
