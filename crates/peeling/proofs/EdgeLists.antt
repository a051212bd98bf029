-- The lists of symbols and of places that an `Edges` lends.
-- Assumes nothing.
use Prim.Native.Nat.{ℕ, ◌+◌, ◌-◌, ◌<◌, ◌≤◌}
use mathlib.Core.Path.{◌≡◌, sym, ap, subst, ◌∙◌}
use mathlib.Core.Bool.{true, false}
use mathlib.Core.List.{List}
use mathlib.Core.Logic.{⊎_elim}
use native.Mathlib.Nat.{le_refl}
use native.Mathlib.Omega.{arith}
use borrow.Author.Tests.{leb-true, leb-false}
use lib.Dec.{leb}
use lib.ListN.{length, take, drop}
use lib.Seq.{length-take-le, get_or-take}
use Rattle.std.specs.List.Sorted.{IsNonDecreasingBy, IsPartitionPoint}
use Rattle.std.proofs.lemmas.List.Sorted.{IsNonDecreasingBy-from_default}
use Rattle.lists.specs.Entry.{nth}
use Rattle.lists.specs.Values.{values}
use Rattle.lists.proofs.ListSearch.{middle-length, middle_at}
use Rattle.lists.proofs.Cases.{less_or_not}
use Rattle.lists.proofs.Rising.{rises}
use Rattle.lists.proofs.Values.{values_own, values_ext, values-length, values_at}
use Rattle.peeling.specs.declared.edges.Edges.{Edges}
use Rattle.peeling.specs.EdgeLists.{symbols, places}
use Rattle.peeling.proofs.Peelable.{check_end}

-- a part of a list by its entries
pub middle_values : (l : List ℕ) (at n : ℕ) → at + n ≤ length l → take n (drop at l) ≡ values n (λ j. nth l (at + j))
middle_values l at n h =
    sym (values_own 0 (take n (drop at l))) ∙ ap (λ (k : ℕ). values k (nth (take n (drop at l)))) (middle-length l at n h)
    ∙ values_ext n (nth (take n (drop at l))) (λ j. nth l (at + j)) 0 (middle_at l at n)

module _ (e : Edges) where
  pub symbols-length : (c : ℕ) → length (symbols e c) ≡ nth e.row.now (c + 1) - nth e.row.now c
  symbols-length c = values-length (λ j. nth e.var.now (nth e.row.now c + j)) (nth e.row.now (c + 1) - nth e.row.now c)

  pub symbols_low : (c j : ℕ) → c < e.m → j < length (symbols e c) → nth (symbols e c) j < e.n
  symbols_low c j h l =
      let k : j < nth e.row.now (c + 1) - nth e.row.now c = omega (arith, l, symbols-length c) in
      subst (λ (x : ℕ). x < e.n) (sym (values_at (λ j. nth e.var.now (nth e.row.now c + j)) (nth e.row.now (c + 1) - nth e.row.now c) j 0 k))
      (e.peelable.checks.vars (nth e.row.now c + j) (omega (arith, k, check_end e.peelable.checks c h)))

  -- where a check's symbols end
  pub check_room : (c : ℕ) → c < e.m → nth e.row.now (c + 1) ≤ length e.var.now
  check_room c h = omega (arith, check_end e.peelable.checks c h, e.peelable.checks.end, e.peelable.checks.var_long)

  pub places-length : (v : ℕ) → length (places e v) ≡ nth e.start.now (v + 1) - nth e.start.now v
  places-length v = values-length (λ j. nth e.col.now (nth e.start.now v + j)) (nth e.start.now (v + 1) - nth e.start.now v)

  pub places_at : (v j : ℕ) → j < length (places e v) → nth (places e v) j ≡ nth e.col.now (nth e.start.now v + j)
  places_at v j h =
      values_at (λ j. nth e.col.now (nth e.start.now v + j)) (nth e.start.now (v + 1) - nth e.start.now v) j 0 (omega (arith, h, places-length v))

  pub places_low : (v j : ℕ) → v < e.n → j < length (places e v) → nth (places e v) j < nth e.row.now e.m
  places_low v j h l =
      subst (λ (x : ℕ). x < nth e.row.now e.m) (sym (places_at v j l))
      (e.peelable.places v (nth e.start.now v + j) h (omega arith) (omega (arith, l, places-length v)))

  -- ---- the check of edge x, by the first check that starts past it

  abbrev pub starts : List ℕ
  starts = take e.m e.row.now

  starts-length : length starts ≡ e.m
  starts-length = length-take-le e.m e.row.now (omega (arith, e.peelable.checks.row_long, e.peelable.checks.m_small))

  starts_at : (c : ℕ) → c < e.m → nth starts c ≡ nth e.row.now c
  starts_at c h = get_or-take e.m e.row.now c 0 h

  pub starts_rise : IsNonDecreasingBy (λ y. y) starts
  starts_rise =
      IsNonDecreasingBy-from_default (λ y. y) starts 0
      (λ i j a b. omega (
        arith,
        starts-length,
        b,
        starts_at i (omega (arith, a, b, starts-length)),
        starts_at j (omega (arith, b, starts-length)),
        rises e.m (nth e.row.now) e.peelable.checks.rise i j a (omega (arith, b, starts-length)),
      ))

  module _ (x r : ℕ) (h : x < nth e.row.now e.m) (bound : r ≤ length starts) (split : IsPartitionPoint (λ y. leb y x ≡ true) (λ y. leb y x ≡ false) starts r) where
    some : 0 < e.m
    some = ⊎_elim (λ k. k) (λ (k : e.m ≤ 0). let z : e.m ≡ 0 = omega (arith, k) in absurd (omega (arith, h, ap (nth e.row.now) z, e.peelable.checks.first))) (less_or_not 0 e.m)

    -- check 0 starts at 0
    pub check_past : 0 < r
    check_past =
        ⊎_elim (λ k. k)
        (λ (k : r ≤ 0). absurd (omega (arith, leb-false (nth starts 0) x (split.1 0 0 k (omega (arith, starts-length, some))), starts_at 0 some, e.peelable.checks.first)))
        (less_or_not 0 r)

    -- the one before it
    pub check_found : (r - 1 < e.m) × (nth e.row.now (r - 1) ≤ x) × (x < nth e.row.now (r - 1 + 1))
    check_found =
        let l : r - 1 < e.m = omega (arith, bound, starts-length, check_past) in
        let q : r - 1 + 1 ≡ r = omega (arith, check_past) in (
          l,
          omega (arith, leb-true (nth starts (r - 1)) x (split.0 (r - 1) 0 (omega arith) (omega (arith, check_past))), starts_at (r - 1) l),
          subst (λ (k : ℕ). x < nth e.row.now k) (sym q)
              (⊎_elim
              (λ k. omega (arith, leb-false (nth starts r) x (split.1 r 0 (le_refl r) (omega (arith, k, starts-length))), starts_at r k))
              (λ (k : e.m ≤ r). let z : r ≡ e.m = omega (arith, k, bound, starts-length) in subst (λ (k : ℕ). x < nth e.row.now k) (sym z) h)
              (less_or_not r e.m)),
        )
