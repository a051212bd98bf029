-- What the calls of `list_decoding::run` leave, one after another, as what the definition by parts has in their place.
-- Assumes nothing.
use Prim.Native.Nat.{ℕ, ◌-◌, ◌^◌, ◌<◌, ◌≤◌, min}
use mathlib.Core.Path.{◌≡◌, ap, ap₂, ◌∙◌}
use mathlib.Core.List.{List}
use native.Mathlib.Omega.{arith}
use lib.Ieee.{Float, nan}
use lib.ListN.{take, replicate}
use lib.Pow.{pow_pos}
use Rattle.lists.specs.Entry.{nth}
use Rattle.lists.specs.InOrder.{in_order}
use Rattle.lists.specs.Laid.{laid}
use Rattle.lists.specs.Values.{values}
use Rattle.lists.proofs.Laid.{fill_at, fill_front}
use Rattle.words.specs.EncoderParts.{encoded_by}
use Rattle.vectors.specs.Vector.{at}
use Rattle.candidates.specs.Alternatives.{likeliest_at, difference_at, margin_at, before, least_sure}
use Rattle.candidates.specs.GeneratorRows.{column, row_of}
use Rattle.candidates.specs.HeldWord.{held_base, held_slots, held_generator, held_word}
use Rattle.candidates.specs.Tried.{Tried, tried}
use Rattle.candidates.proofs.RowsOf.{column_small}
use Rattle.candidates.proofs.Slots.{least_ext, least_inside, difference_small}
use Rattle.candidates.proofs.Stepping.{tried_ext}

module _ (n r : ℕ) (parity info a : List ℕ) (posteriors : List Float) where
  -- how many information positions there are
  abbrev k : ℕ
  k = n - r

  pub base_is : (syms₀ syms : List ℕ) → syms ≡ laid (values (n - r) (likeliest_at posteriors (nth info))) syms₀
      → encoded_by n r (n - r) parity info a (take (n - r) syms) ≡ held_base n r parity info a posteriors
  unfolding held_base
  base_is syms₀ syms e = ap (encoded_by n r k parity info a) (fill_front (likeliest_at posteriors (nth info)) k syms₀ syms e)

  pub generator_small : (width j v : ℕ) → nth (held_generator n r parity info a posteriors width j) v < 32
  unfolding held_generator
  generator_small width j v =
      let s = nth (held_slots n r parity info a posteriors width) j in
      column_small n r k parity info a s (difference_at posteriors (nth info) s) (difference_small posteriors (nth info) s) v

  module _ (width w : ℕ) (least : w ≡ min width (n - r)) where
    pub slots_are : (margins₀ margins : List Float) → margins ≡ laid (values (n - r) (margin_at posteriors (nth info))) margins₀
        → in_order (n - r) (before (at margins)) (replicate w 0) ≡ held_slots n r parity info a posteriors width
    unfolding held_slots least_sure
    slots_are margins₀ margins e =
        least_ext k (at margins) (margin_at posteriors (nth info)) w (λ t h. fill_at (margin_at posteriors (nth info)) k margins₀ margins t nan h e)
        ∙ ap (least_sure k (margin_at posteriors (nth info))) least

    slot_inside : (j : ℕ) → j < w → nth (held_slots n r parity info a posteriors width) j < k
    unfolding held_slots
    slot_inside j h = least_inside k (margin_at posteriors (nth info)) (min width k) j (omega (arith, least)) (omega (arith, least))

    pub slots_inside : (slots : List ℕ) → slots ≡ held_slots n r parity info a posteriors width → (j : ℕ) → j < w → nth slots j < n - r
    slots_inside slots e j h = omega (arith, ap (λ (l : List ℕ). nth l j) e, slot_inside j h)

    module _ (differences₀ differences : List ℕ) (e : differences ≡ laid (values (n - r) (difference_at posteriors (nth info))) differences₀) where
      differences_at : (t : ℕ) → t < k → nth differences t ≡ difference_at posteriors (nth info) t
      differences_at t h = fill_at (difference_at posteriors (nth info)) k differences₀ differences t 0 h e

      pub differences_small : (t : ℕ) → t < n - r → nth differences t < 32
      differences_small t h = omega (arith, differences_at t h, difference_small posteriors (nth info) t)

      pub row_is : (slots : List ℕ) → slots ≡ held_slots n r parity info a posteriors width → (j : ℕ) → j < w
          → column n r (n - r) parity info a (nth slots j) (nth differences (nth slots j)) ≡ held_generator n r parity info a posteriors width j
      unfolding held_generator
      row_is slots f j h =
          let s = ap (λ (l : List ℕ). nth l j) f in
          ap₂ (column n r k parity info a) s (ap (nth differences) s ∙ differences_at (nth (held_slots n r parity info a posteriors width) j) (slot_inside j h))

    pub found_is : (metrics : List Float) (base h : List ℕ) → width ≤ 16 → base ≡ held_base n r parity info a posteriors
        → ((j : ℕ) → j < w → row_of n h j ≡ held_generator n r parity info a posteriors width j)
        → (tried metrics (row_of n h) base (2 ^ w - 1)).best ≡ held_word n r parity info a posteriors metrics width
    unfolding held_word
    found_is metrics base h b e f =
        ap (λ (t : Tried). t.best) (tried_ext metrics (row_of n h) (held_generator n r parity info a posteriors width) base w (2 ^ w - 1) (omega (arith, least)) (omega (arith, pow_pos w)) f)
        ∙ ap₂ (λ (x : List ℕ) (m : ℕ). (tried metrics (held_generator n r parity info a posteriors width) x (2 ^ m - 1)).best) e least
