-- Five bits joined to a symbol and taken apart again, and a symbol taken apart and joined.
-- Assumes nothing.
use Prim.Native.Nat.{ℕ, zero, suc, ◌+◌, ◌*◌, ◌/◌, ◌%◌, ◌<◌}
use mathlib.Core.Path.{◌≡◌, refl, ap, ◌∙◌}
use mathlib.Core.List.{List}
use native.Mathlib.Omega.{arith}
use lib.ListN.{length}
use lib.Seq.{ext_get_or}
use Rattle.lists.specs.Entry.{nth}
use Rattle.lists.specs.Iter.{iter}
use Rattle.lists.specs.Values.{values}
use Rattle.lists.proofs.Computed.{equal1}
use Rattle.lists.proofs.Iter.{iter_ext}
use Rattle.lists.proofs.Values.{values_at, values-length, values_ext}
use Rattle.layouts.specs.Packing.{join_turn, joined, symbol_at, bits_to_syms, bit_at, syms_to_bits}

module _ (f : ℕ → ℕ) where
  pub joined_is : joined f ≡ ((((0 * 2 + f 0 % 2) * 2 + f 1 % 2) * 2 + f 2 % 2) * 2 + f 3 % 2) * 2 + f 4 % 2
  unfolding joined iter
  joined_is = refl

  -- as a loop joins them: before each of the five there is room for one bit more
  pub joined_room : (i : ℕ) → i < 5 → iter i (join_turn f) 0 < 16
  unfolding iter
  joined_room zero h = omega arith
  joined_room (suc zero) h = omega arith
  joined_room (suc (suc zero)) h = omega arith
  joined_room (suc (suc (suc zero))) h = omega arith
  joined_room (suc (suc (suc (suc zero)))) h = omega arith
  joined_room (suc (suc (suc (suc (suc i))))) h = absurd (omega arith)

  pub joined_small : joined f < 32
  joined_small = omega (arith, joined_is)

  -- bit k of the symbol
  pub joined_bit : (k : ℕ) → k < 5 → bit_at (joined f) k ≡ f k % 2
  unfolding bit_at
  joined_bit zero h = omega (arith, joined_is)
  joined_bit (suc zero) h = omega (arith, joined_is)
  joined_bit (suc (suc zero)) h = omega (arith, joined_is)
  joined_bit (suc (suc (suc zero))) h = omega (arith, joined_is)
  joined_bit (suc (suc (suc (suc zero)))) h = omega (arith, joined_is)
  joined_bit (suc (suc (suc (suc (suc k))))) h = absurd (omega arith)

pub joined_ext : (f g : ℕ → ℕ) → ((k : ℕ) → k < 5 → f k % 2 ≡ g k % 2) → joined f ≡ joined g
unfolding joined
joined_ext f g e = iter_ext 5 (join_turn f) (join_turn g) 0 (λ k h a. ap (λ (b : ℕ). a * 2 + b) (e k h))

pub joined_back : (x : ℕ) → x < 32 → joined (bit_at x) ≡ x
unfolding joined bit_at iter
joined_back = equal1 32 (λ x. joined (bit_at x)) (λ x. x) tt

pub bit_small : (x k : ℕ) → bit_at x k < 2
unfolding bit_at
bit_small x k = omega arith

pub syms_length : (b : List ℕ) → length (bits_to_syms b) ≡ (length b + 4) / 5
unfolding bits_to_syms
syms_length b = values-length (symbol_at b) ((length b + 4) / 5)

pub syms_at : (b : List ℕ) (j : ℕ) → j < (length b + 4) / 5 → nth (bits_to_syms b) j ≡ symbol_at b j
unfolding bits_to_syms
syms_at b j h = values_at (symbol_at b) ((length b + 4) / 5) j 0 h

pub bits_at : (s : List ℕ) (p : ℕ) → p < 5 * length s → nth (syms_to_bits s) p ≡ bit_at (nth s (p / 5)) (p % 5)
unfolding syms_to_bits
bits_at s p h = values_at (λ p. bit_at (nth s (p / 5)) (p % 5)) (5 * length s) p 0 h

pub bits_length : (s : List ℕ) → length (syms_to_bits s) ≡ 5 * length s
unfolding syms_to_bits
bits_length s = values-length (λ p. bit_at (nth s (p / 5)) (p % 5)) (5 * length s)

-- the bit at place p of five times as many
pub symbol_bit : (b : List ℕ) (p : ℕ) → bit_at (symbol_at b (p / 5)) (p % 5) ≡ nth b p % 2
unfolding symbol_at
symbol_bit b p = let e : p / 5 * 5 + p % 5 ≡ p = omega arith in joined_bit (λ i. nth b (p / 5 * 5 + i)) (p % 5) (omega arith) ∙ ap (λ (q : ℕ). nth b q % 2) e

-- ---- there and back: any number of whole symbols

pub bits_syms_bits : (b : List ℕ) (m : ℕ) → length b ≡ 5 * m → syms_to_bits (bits_to_syms b) ≡ values (length b) (λ p. nth b p % 2)
unfolding syms_to_bits
bits_syms_bits b m e =
    let f : ℕ → ℕ = λ p. bit_at (nth (bits_to_syms b) (p / 5)) (p % 5) in
    let n : 5 * length (bits_to_syms b) ≡ length b = omega (arith, e, syms_length b) in
    ap (λ (k : ℕ). values k f) n
    ∙ values_ext (length b) f (λ p. nth b p % 2) 0 (λ p h. ap (λ (x : ℕ). bit_at x (p % 5)) (syms_at b (p / 5) (omega (arith, e))) ∙ symbol_bit b p)

pub syms_bits_syms : (s : List ℕ) → ((j : ℕ) → j < length s → nth s j < 32) → bits_to_syms (syms_to_bits s) ≡ s
syms_bits_syms s small =
    let n : (length (syms_to_bits s) + 4) / 5 ≡ length s = omega (arith, bits_length s) in
    ext_get_or 0 (bits_to_syms (syms_to_bits s)) s (syms_length (syms_to_bits s) ∙ n)
    (λ j h. let l : j < length s = omega (arith, n, syms_length (syms_to_bits s)) in syms_at (syms_to_bits s) j (omega (arith, n)) ∙ back j l)
  where
    back : (j : ℕ) → j < length s → symbol_at (syms_to_bits s) j ≡ nth s j
    back j l =
        unfold symbol_at in
        (joined_ext (λ i. nth (syms_to_bits s) (j * 5 + i)) (bit_at (nth s j))
        (λ k h.
        let a : (j * 5 + k) / 5 ≡ j = omega arith in
        let b : (j * 5 + k) % 5 ≡ k = omega arith in
        ap (λ (x : ℕ). x % 2) (bits_at s (j * 5 + k) (omega arith) ∙ ap (λ (x : ℕ). bit_at (nth s x) ((j * 5 + k) % 5)) a ∙ ap (bit_at (nth s j)) b))
        ∙ joined_back (nth s j) (small j l))
