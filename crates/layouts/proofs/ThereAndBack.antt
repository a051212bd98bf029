-- There and back, in any layout: 256 bits become 52 symbols whose padding bits are 0, and these give the bits' lowest bits again; and 52 symbols whose padding bits are 0
-- give 256 bits that become those symbols.
-- Assumes nothing.
use Prim.Native.Nat.{ℕ, ◌+◌, ◌-◌, ◌*◌, ◌/◌, ◌%◌, ◌<◌, ◌≤◌}
use mathlib.Core.Path.{◌≡◌, refl, sym, ap, ◌∙◌}
use mathlib.Core.Logic.{⊎_elim}
use mathlib.Core.Bool.{false, not}
use mathlib.Core.List.{List}
use native.Mathlib.Omega.{arith}
use borrow.Author.Tests.{eq-eqb, eqb-true, not-false}
use lib.Dec.{eqb}
use lib.ListN.{length, replicate, length-replicate, drop, length-drop}
use lib.Seq.{ext_get_or, get_or-take, get_or-drop, length-take-le}
use Rattle.lists.specs.EachOnce.{EachOnce}
use Rattle.lists.specs.Entry.{nth}
use Rattle.lists.specs.Placed.{placed}
use Rattle.lists.specs.Values.{values}
use Rattle.lists.specs.AnyBelow.{any_below}
use Rattle.lists.proofs.AnyBelow.{any_below_none, any_below_not, any_below_ext}
use Rattle.lists.proofs.ListAny.{list_any_below}
use Rattle.lists.proofs.Blank.{blank_at}
use Rattle.lists.proofs.Cases.{less_or_not}
use Rattle.lists.proofs.EachOnce.{each_once_has}
use Rattle.lists.proofs.Placed.{placed-length, placed_at, placed_other, placed_ext}
use Rattle.lists.proofs.PlacedOnce.{placed_own}
use Rattle.lists.proofs.Values.{values_at, values-length}
use Rattle.layouts.specs.Layout.{Layout, IsLayout}
use Rattle.layouts.specs.Packing.{symbol_at, bits_to_syms, bit_at}
use Rattle.layouts.specs.Symbols.{packed, symbols_of, unpacked, padded_bits, own_bits, padding_used}
use Rattle.layouts.proofs.Digits.{joined_ext, joined_back, joined_small, bit_small, syms_at, bits_at, symbol_bit}

module _ (t : Layout) (w : IsLayout t) where
  abbrev pos : ℕ → ℕ
  pos = nth t.pos

  abbrev slot : ℕ → ℕ
  slot = nth t.slot

  p : EachOnce 260 (nth t.pos)
  p = w.positions

  -- ---- the packed bits

  pub packed-length : (bits : List ℕ) → length (packed t bits) ≡ 260
  unfolding packed
  packed-length bits = placed-length pos (λ i. nth bits i % 2) (replicate 260 0) 256 ∙ length-replicate {A = ℕ} 260 0

  pub packed_bit : (bits : List ℕ) (i : ℕ) → i < 256 → nth (packed t bits) (nth t.pos i) ≡ nth bits i % 2
  unfolding packed
  packed_bit bits i h =
      placed_at pos (λ i. nth bits i % 2) (replicate 260 0) 256 i h
      (omega (arith, p.inside i (omega arith), length-replicate {A = ℕ} 260 0))
      (λ k l e. p.distinct k i (omega arith) (omega arith) e)

  pub packed_padding : (bits : List ℕ) (i : ℕ) → 256 ≤ i → i < 260 → nth (packed t bits) (nth t.pos i) ≡ 0
  unfolding packed
  packed_padding bits i h l =
      placed_other pos (λ i. nth bits i % 2) (replicate 260 0) 256 (pos i) (λ k b e. let q = p.distinct k i (omega arith) l e in omega arith) ∙ blank_at 260 (pos i) 0

  -- ---- the symbols

  pub symbols_length : (bits : List ℕ) → length (symbols_of t bits) ≡ 52
  unfolding symbols_of
  symbols_length bits = placed-length slot (nth (bits_to_syms (packed t bits))) (replicate 52 0) 52 ∙ length-replicate {A = ℕ} 52 0

  pub symbols_at : (bits : List ℕ) (j : ℕ) → j < 52 → nth (symbols_of t bits) (nth t.slot j) ≡ symbol_at (packed t bits) j
  unfolding symbols_of
  symbols_at bits j h =
      placed_own 52 slot (replicate 52 0) (length-replicate {A = ℕ} 52 0) w.slots (nth (bits_to_syms (packed t bits))) j h
      ∙ syms_at (packed t bits) j (omega (arith, packed-length bits))

  pub symbols_small : (bits : List ℕ) (j : ℕ) → j < 52 → nth (symbols_of t bits) j < 32
  unfolding symbol_at
  symbols_small bits j h =
      let r = each_once_has 52 slot w.slots j h in
      let e = ap (nth (symbols_of t bits)) (sym r.2) ∙ symbols_at bits r.0 r.1 in
      omega (arith, e, joined_small (λ i. nth (packed t bits) (r.0 * 5 + i)))

  -- the same lowest bits give the same symbols
  pub symbols_same : (a b : List ℕ) → ((i : ℕ) → i < 256 → nth a i % 2 ≡ nth b i % 2) → symbols_of t a ≡ symbols_of t b
  unfolding symbols_of packed
  symbols_same a b e =
      ap (λ (l : List ℕ). placed 52 slot (nth (bits_to_syms l)) (replicate 52 0))
      (placed_ext 256 pos pos (λ i. nth a i % 2) (λ i. nth b i % 2) (replicate 260 0) (λ i h. refl) e)

  -- ---- back

  pub unpacked_at : (u : List ℕ) (q : ℕ) → q < 260 → nth (unpacked t u) q ≡ bit_at (nth u (nth t.slot (q / 5))) (q % 5)
  unfolding unpacked
  unpacked_at u q h =
      let l = values-length (λ j. nth u (slot j)) 52 in
      bits_at (values 52 (λ j. nth u (slot j))) q (omega arith) ∙ ap (λ (x : ℕ). bit_at x (q % 5)) (values_at (λ j. nth u (slot j)) 52 (q / 5) 0 (omega arith))

  pub padded-length : (u : List ℕ) → length (padded_bits t u) ≡ 260
  unfolding padded_bits
  padded-length u = values-length (λ i. nth (unpacked t u) (pos i)) 260

  pub padded_at : (u : List ℕ) (i : ℕ) → i < 260 → nth (padded_bits t u) i ≡ nth (unpacked t u) (nth t.pos i)
  unfolding padded_bits
  padded_at u i h = values_at (λ i. nth (unpacked t u) (pos i)) 260 i 0 h

  -- the four padding bits one by one
  pub padding_is : (u : List ℕ) → padding_used (padded_bits t u) ≡ any_below 4 (λ i. not (eqb (nth (padded_bits t u) (256 + i)) 0))
  unfolding padding_used
  padding_is u =
      let rest = drop 256 (padded_bits t u) in
      let n : length rest ≡ 4 = omega (arith, length-drop 256 (padded_bits t u), padded-length u) in
      list_any_below (λ bit. not (eqb bit 0)) rest
      ∙ ap (λ (k : ℕ). any_below k (λ i. not (eqb (nth rest i) 0))) n
      ∙ any_below_ext 4 (λ i. not (eqb (nth rest i) 0)) (λ i. not (eqb (nth (padded_bits t u) (256 + i)) 0))
      (λ i h. ap (λ (x : ℕ). not (eqb x 0)) (get_or-drop 256 (padded_bits t u) i 0))

  pub own-length : (u : List ℕ) → length (own_bits (padded_bits t u)) ≡ 256
  own-length u = length-take-le 256 (padded_bits t u) (omega (arith, padded-length u))

  own_at : (u : List ℕ) (i : ℕ) → i < 256 → nth (own_bits (padded_bits t u)) i ≡ nth (unpacked t u) (nth t.pos i)
  own_at u i h = get_or-take 256 (padded_bits t u) i 0 h ∙ padded_at u i (omega arith)

  unpacked-packed : (bits : List ℕ) (q : ℕ) → q < 260 → nth (unpacked t (symbols_of t bits)) q ≡ nth (packed t bits) q % 2
  unpacked-packed bits q h =
      unpacked_at (symbols_of t bits) q h
      ∙ ap (λ (x : ℕ). bit_at x (q % 5)) (symbols_at bits (q / 5) (omega arith))
      ∙ symbol_bit (packed t bits) q

  pub bits_back : (bits : List ℕ) → own_bits (padded_bits t (symbols_of t bits)) ≡ values 256 (λ i. nth bits i % 2)
  bits_back bits =
      ext_get_or 0 (own_bits (padded_bits t (symbols_of t bits))) (values 256 (λ i. nth bits i % 2))
      (own-length (symbols_of t bits) ∙ sym (values-length (λ i. nth bits i % 2) 256))
      (λ i l.
      let h : i < 256 = omega (arith, own-length (symbols_of t bits)) in
      own_at (symbols_of t bits) i h
      ∙ unpacked-packed bits (pos i) (p.inside i (omega arith))
      ∙ ap (λ (x : ℕ). x % 2) (packed_bit bits i h)
      ∙ (let e : nth bits i % 2 % 2 ≡ nth bits i % 2 = omega arith in e)
      ∙ sym (values_at (λ i. nth bits i % 2) 256 i 0 h))

  -- and symbols that are the same come of the same lowest bits
  pub bits_same : (a b : List ℕ) → symbols_of t a ≡ symbols_of t b → (i : ℕ) → i < 256 → nth a i % 2 ≡ nth b i % 2
  bits_same a b e i h =
      let f = λ (u : List ℕ). own_bits (padded_bits t u) in
      sym (values_at (λ i. nth a i % 2) 256 i 0 h)
      ∙ ap (λ (l : List ℕ). nth l i) (sym (bits_back a) ∙ ap f e ∙ bits_back b)
      ∙ values_at (λ i. nth b i % 2) 256 i 0 h

  pub bits_padded : (bits : List ℕ) → padding_used (padded_bits t (symbols_of t bits)) ≡ false
  bits_padded bits =
      padding_is (symbols_of t bits)
      ∙ any_below_none 4 (λ i. not (eqb (nth (padded_bits t (symbols_of t bits)) (256 + i)) 0))
      (λ i h.
      ap not
      (eq-eqb _ 0
      (padded_at (symbols_of t bits) (256 + i) (omega arith) ∙ unpacked-packed bits (pos (256 + i)) (p.inside (256 + i) (omega arith))
      ∙ ap (λ (x : ℕ). x % 2) (packed_padding bits (256 + i) (omega arith) (omega arith)))))

  -- ---- from symbols

  module _ (u : List ℕ) (long : length u ≡ 52) (small : (j : ℕ) → j < 52 → nth u j < 32) (pad : padding_used (padded_bits t u) ≡ false) where
    abbrev bits : List ℕ
    bits = own_bits (padded_bits t u)

    low : (i : ℕ) → i < 260 → nth (unpacked t u) (nth t.pos i) < 2
    low i h = omega (arith, unpacked_at u (pos i) (p.inside i h), bit_small (nth u (slot (pos i / 5))) (pos i % 5))

    none : (i : ℕ) → 256 ≤ i → i < 260 → nth (unpacked t u) (nth t.pos i) ≡ 0
    none i h l =
        let e : 256 + (i - 256) ≡ i = omega arith in
        sym (padded_at u i l)
        ∙ ap (nth (padded_bits t u)) (sym e)
        ∙ eqb-true _ 0 (not-false _ (any_below_not 4 (i - 256) (λ i. not (eqb (nth (padded_bits t u) (256 + i)) 0)) (sym (padding_is u) ∙ pad) (omega arith)))

    again_at : (i : ℕ) → i < 260 → nth (packed t bits) (nth t.pos i) ≡ nth (unpacked t u) (nth t.pos i)
    again_at i h =
        ⊎_elim
        (λ l. omega (arith, packed_bit bits i l, own_at u i l, low i h))
        (λ l. packed_padding bits i l h ∙ sym (none i l h))
        (less_or_not i 256)

    again : (q : ℕ) → q < 260 → nth (packed t bits) q ≡ bit_at (nth u (nth t.slot (q / 5))) (q % 5)
    again q h =
        let r = each_once_has 260 pos p q h in
        ap (nth (packed t bits)) (sym r.2) ∙ again_at r.0 r.1 ∙ ap (nth (unpacked t u)) r.2 ∙ unpacked_at u q h

    symbol : (j : ℕ) → j < 52 → symbol_at (packed t bits) j ≡ nth u (nth t.slot j)
    unfolding symbol_at
    symbol j h =
        joined_ext (λ i. nth (packed t bits) (j * 5 + i)) (bit_at (nth u (slot j)))
        (λ k l.
        let a : (j * 5 + k) / 5 ≡ j = omega arith in
        let b : (j * 5 + k) % 5 ≡ k = omega arith in
        ap (λ (x : ℕ). x % 2) (again (j * 5 + k) (omega arith) ∙ ap (λ (x : ℕ). bit_at (nth u (slot x)) ((j * 5 + k) % 5)) a ∙ ap (bit_at (nth u (slot j))) b))
        ∙ joined_back (nth u (slot j)) (small (slot j) (w.slots.inside j h))

    pub symbols_back : symbols_of t (own_bits (padded_bits t u)) ≡ u
    symbols_back =
        ext_get_or 0 (symbols_of t bits) u (symbols_length bits ∙ sym long)
        (λ j h.
        let r = each_once_has 52 slot w.slots j (omega (arith, symbols_length bits)) in
        ap (nth (symbols_of t bits)) (sym r.2) ∙ symbols_at bits r.0 r.1 ∙ symbol r.0 r.1 ∙ ap (nth u) r.2)
