-- SpreadHeavy: the dealt places are distinct, so the packed positions are each position once.
-- Assumes nothing.
use Prim.Native.Nat.{ℕ, ◌+◌, ◌*◌, ◌/◌, ◌%◌, ◌<◌, ◌≤◌, min}
use mathlib.Core.Path.{◌≡◌, sym, ap, ◌∙◌}
use mathlib.Core.List.{List}
use native.Mathlib.Nat.{mod-lt, div-add-mod', div-lt_iff_lt-mul, min-le_left, min-le_right}
use native.Mathlib.Omega.{arith}
use lib.ListN.{length, replicate, length-replicate}
use Rattle.lists.specs.Chain.{chain, start_of}
use Rattle.lists.specs.Completed.{completed}
use Rattle.lists.specs.EachOnce.{EachOnce}
use Rattle.lists.specs.Entry.{nth}
use Rattle.lists.specs.Values.{values}
use Rattle.lists.proofs.Chain.{chain_at, chain_even, start_is}
use Rattle.lists.proofs.Completed.{completed_once}
use Rattle.lists.proofs.PlacedOnce.{placed_once}
use Rattle.lists.proofs.Values.{values_at, values-length}
use Rattle.layouts.specs.Slots.{Distinct}
use Rattle.layouts.specs.SpreadHeavy.{places, dealt, deal, spread_over}
use Rattle.layouts.specs.VariableBits.{variable}
use Rattle.layouts.proofs.VariableIndex.{variable_inside, variable_distinct}

module _ (slots : List ℕ) where
  abbrev h : ℕ
  h = length slots

  abbrev bit_of_each : ℕ → List ℕ
  bit_of_each k = values (length slots) (λ e. 5 * nth slots e + k)

  before_each : (k : ℕ) → length (chain k bit_of_each) ≡ k * length slots
  before_each k = chain_even (length slots) k bit_of_each (λ i l. values-length (λ e. 5 * nth slots e + i) (length slots))

  pub places-length : length (places slots) ≡ 5 * length slots
  unfolding places
  places-length = before_each 5

  pub dealt_is : dealt slots ≡ min 96 (5 * length slots)
  unfolding dealt
  dealt_is = ap (min 96) places-length

  pub dealt_bits : dealt slots ≤ 96
  dealt_bits = omega (arith, dealt_is, min-le_left 96 (5 * h))

  pub dealt_places : dealt slots ≤ 5 * h
  dealt_places = omega (arith, dealt_is, min-le_right 96 (5 * h))

  module _ (t : ℕ) (l : t < dealt slots) where
    pub deal_some : 0 < length slots
    deal_some = omega (arith, dealt_places)

    pub deal_slot : t % length slots < length slots
    deal_slot = mod-lt t deal_some

    pub deal_bit : t / length slots < 5
    deal_bit = (div-lt_iff_lt-mul deal_some).1 (omega (arith, dealt_places))

    pub deal_is : deal slots t ≡ 5 * nth slots (t % length slots) + t / length slots
    unfolding deal places
    deal_is =
        let k = t / h in
        let e = t % h in
        let at : start_of bit_of_each k + e ≡ t = ap (λ (n : ℕ). n + e) (start_is bit_of_each k ∙ before_each k) ∙ div-add-mod' t h in
        let long = values-length (λ e. 5 * nth slots e + k) h in
        ap (nth (places slots)) (sym at)
        ∙ chain_at bit_of_each 5 k e 0 deal_bit (omega (arith, long, deal_slot))
        ∙ values_at (λ e. 5 * nth slots e + k) h e 0 deal_slot

  pub bits_once : EachOnce 260 (completed 260 (dealt slots) variable)
  bits_once =
      completed_once 260 (dealt slots) variable
      (λ t l. omega (arith, variable_inside t (omega (arith, dealt_bits))))
      (λ t v l m. variable_distinct t v (omega (arith, dealt_bits)) (omega (arith, dealt_bits)))

  module _ (w : Distinct slots) where
    pub deal_inside : (t : ℕ) → t < dealt slots → deal slots t < 260
    deal_inside t l = omega (arith, deal_is t l, w.inside (t % h) (deal_slot t l), deal_bit t l)

    pub deal_distinct : (t v : ℕ) → t < dealt slots → v < dealt slots → deal slots t ≡ deal slots v → t ≡ v
    deal_distinct t v l m q =
        let a : nth slots (t % h) ≡ nth slots (v % h) = omega (arith, q, deal_is t l, deal_is v m, deal_bit t l, deal_bit v m) in
        let b : t / h ≡ v / h = omega (arith, q, deal_is t l, deal_is v m, deal_bit t l, deal_bit v m) in
        let c = w.distinct (t % h) (v % h) (deal_slot t l) (deal_slot v m) a in
        sym (div-add-mod' t h) ∙ ap (λ (k : ℕ). k * h + t % h) b ∙ ap (λ (k : ℕ). v / h * h + k) c ∙ div-add-mod' v h

    pub places_once : EachOnce 260 (completed 260 (dealt slots) (deal slots))
    places_once = completed_once 260 (dealt slots) (deal slots) deal_inside deal_distinct

    pub spread_over_once : EachOnce 260 (nth (spread_over slots))
    unfolding spread_over
    spread_over_once =
        placed_once 260 (completed 260 (dealt slots) variable) (replicate 260 0) (length-replicate {A = ℕ} 260 0) bits_once (completed 260 (dealt slots) (deal slots)) places_once
