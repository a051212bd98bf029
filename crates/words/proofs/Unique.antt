-- The reduced form is determined by the words: parity positions, information positions and a table that are claimed for a graph and a column order are what
-- elimination gives, where each claimed unit word is a word that is 0 past its information position, and no other word than 0 is 0 at all of these.
-- Assumes nothing.
use Prim.Native.Nat.{ℕ, ◌-◌, ◌<◌, ◌≤◌}
use mathlib.Core.Path.{◌≡◌, sym, ap, ◌∙◌}
use mathlib.Core.Logic.{◌≢◌, ◌⊎◌, inl, inr, ⊎_elim}
use mathlib.Core.List.{List}
use native.Mathlib.Omega.{arith}
use lib.Dec.{ltb}
use lib.ListN.{length}
use Rattle.lists.specs.Choice.{pick}
use Rattle.lists.specs.EachOnce.{EachOnce}
use Rattle.lists.specs.Entry.{nth}
use Rattle.lists.proofs.Among.{among_or_not}
use Rattle.lists.proofs.Cases.{less_or_not}
use Rattle.lists.proofs.Choice.{pick_less, pick_not_less}
use Rattle.lists.proofs.EachOnce.{each_once_has, ascends_distinct}
use Rattle.elimination.specs.Graph.{Graph, check_count}
use Rattle.elimination.specs.Matrix.{matrix_of}
use Rattle.elimination.specs.Elimination.{State, reduced}
use Rattle.elimination.specs.Solutions.{Solves}
use Rattle.elimination.proofs.Echelon.{Echelon, reduced_echelon, place_of, last_zero}
use Rattle.elimination.proofs.Eliminated.{Eliminated}
use Rattle.elimination.proofs.Entries.{Small, Inside}
use Rattle.elimination.proofs.Infos.{info_or_pivot, info_no_pivot, info_inside, infos_ascend}
use Rattle.elimination.proofs.Reduced.{reduced_is}
use Rattle.words.specs.Encoding.{information_of}
use Rattle.words.specs.Word.{Word}
use Rattle.words.proofs.CheckSums.{satisfied_solves}
use Rattle.words.proofs.Parity.{solves_parity}
use Rattle.lists.proofs.SameRise.{same_rise}
use Rattle.words.proofs.UnitWords.{sum_unit, unit_word, unit_own, unit_info, Word-unit_word}

-- what is claimed: r parity positions, the n - r other positions, and the table's entry of parity position i and information position t
pub record Claimed (g : Graph) (order : List ℕ) (r : ℕ) (parity info : ℕ → ℕ) (entry : ℕ → ℕ → ℕ) : Type 0 where
  pub rank : r ≤ g.n
  -- the parity positions in the order's places, ascending
  pub place : ℕ → ℕ
  pub taken : (i : ℕ) → i < r → place i < g.n
  pub placed : (i : ℕ) → i < r → parity i ≡ nth order (place i)
  pub rise : (i l : ℕ) → i < l → l < r → place i < place l
  -- the information positions, ascending, and none of them a parity position
  pub inside : (t : ℕ) → t < g.n - r → info t < g.n
  pub ascend : (t v : ℕ) → t < v → v < g.n - r → info t < info v
  pub apart : (i t : ℕ) → i < r → t < g.n - r → parity i ≢ info t
  -- for each a word of the graph with 1 there, 0 at the others, and the table's entries at the parity positions
  pub unit : ℕ → List ℕ
  pub word : (t : ℕ) → t < g.n - r → Word g (unit t)
  pub own : (t : ℕ) → t < g.n - r → nth (unit t) (info t) ≡ 1
  pub other : (t v : ℕ) → t < g.n - r → v < g.n - r → v ≢ t → nth (unit t) (info v) ≡ 0
  pub entries : (t i : ℕ) → t < g.n - r → i < r → nth (unit t) (parity i) ≡ entry i t
  -- these are 0 where the parity position comes after the information position
  pub blank : (t i a : ℕ) → t < g.n - r → i < r → a < place i → nth order a ≡ info t → entry i t ≡ 0
  -- a word that is 0 at all information positions is 0
  pub only : (x : List ℕ) → Word g x → ((t : ℕ) → t < g.n - r → nth x (info t) ≡ 0) → (j : ℕ) → j < g.n → nth x j ≡ 0

-- and that it is what elimination gives
pub record Given (g : Graph) (order : List ℕ) (r : ℕ) (parity info : ℕ → ℕ) (entry : ℕ → ℕ → ℕ) : Type 0 where
  pub rank : r ≡ (reduced g order).rank
  pub pivots : (i : ℕ) → i < r → parity i ≡ (reduced g order).pivot i
  pub count : g.n - r ≡ length (information_of g order)
  pub infos : (t : ℕ) → t < g.n - r → info t ≡ nth (information_of g order) t
  pub table : (i t : ℕ) → i < r → t < g.n - r → entry i t ≡ (reduced g order).matrix i (nth (information_of g order) t)

module _ (g : Graph) (order : List ℕ) (small : Small g) (within : Inside g) (each : EachOnce g.n (nth order))
    {r : ℕ} {parity info : ℕ → ℕ} {entry : ℕ → ℕ → ℕ} (d : Claimed g order r parity info entry) where
  abbrev s : State
  s = reduced g order

  abbrev positions : List ℕ
  positions = information_of g order

  abbrev k : ℕ
  k = g.n - r

  w : Eliminated (check_count g) g.n (nth order) (matrix_of g) g.n s
  w = reduced_is g order small each.inside

  e : Echelon (nth order) g.n s
  e = reduced_echelon g order small each.inside

  -- ---- the claimed positions are all

  joined : ℕ → ℕ
  joined j = pick (ltb j r) (parity j) (info (j - r))

  joined_low : (j : ℕ) → j < r → joined j ≡ parity j
  unfolding joined
  joined_low j h = pick_less j r (parity j) (info (j - r)) h

  joined_high : (j : ℕ) → r ≤ j → joined j ≡ info (j - r)
  unfolding joined
  joined_high j h = pick_not_less j r (parity j) (info (j - r)) h

  parity_distinct : (i l : ℕ) → i < r → l < r → parity i ≡ parity l → i ≡ l
  parity_distinct i l a b q =
      ascends_distinct r d.place d.rise i l a b
      (each.distinct (d.place i) (d.place l) (d.taken i a) (d.taken l b) (sym (d.placed i a) ∙ q ∙ d.placed l b))

  joined_once : EachOnce g.n joined
  joined_once = record {
    inside = λ t h. ⊎_elim
        (λ l. rw (joined_low t l, d.placed t l) (each.inside (d.place t) (d.taken t l)))
        (λ l. rw (joined_high t l) (d.inside (t - r) (omega arith)))
        (less_or_not t r);
    distinct = apart;
  }
    where
      apart : (t v : ℕ) → t < g.n → v < g.n → joined t ≡ joined v → t ≡ v
      apart t v a b q = go (less_or_not t r) (less_or_not v r)
        where
          go : (t < r) ⊎ (r ≤ t) → (v < r) ⊎ (r ≤ v) → t ≡ v
          go (inl x) (inl y) = parity_distinct t v x y (sym (joined_low t x) ∙ q ∙ joined_low v y)
          go (inl x) (inr y) = absurd (d.apart t (v - r) x (omega arith) (sym (joined_low t x) ∙ q ∙ joined_high v y))
          go (inr x) (inl y) = absurd (d.apart v (t - r) y (omega arith) (sym (joined_low v y) ∙ sym q ∙ joined_high t x))
          go (inr x) (inr y) =
              let z = ascends_distinct k info d.ascend (t - r) (v - r) (omega arith) (omega arith) (sym (joined_high t x) ∙ q ∙ joined_high v y) in
              omega arith

  split : (j : ℕ) → j < g.n → ((i : ℕ) × (i < r) × (parity i ≡ j)) ⊎ ((t : ℕ) × (t < k) × (info t ≡ j))
  split j h =
      let v = each_once_has g.n joined joined_once j h in
      ⊎_elim
      (λ l. inl (v.0, l, sym (joined_low v.0 l) ∙ v.2))
      (λ (l : r ≤ v.0). inr (v.0 - r, omega (arith, v.1), sym (joined_high v.0 l) ∙ v.2))
      (less_or_not v.0 r)

  -- ---- a claimed information position has no pivot

  solves : (t : ℕ) → t < k → Solves (check_count g) g.n (matrix_of g) (nth (d.unit t))
  solves t h = (satisfied_solves g (d.unit t) within).0 (d.word t h).satisfied

  module _ (t : ℕ) (h : t < k) (a : ℕ) (an : a < g.n) (aq : nth order a ≡ info t) where
    unit_past : (b : ℕ) → a < b → b < g.n → nth (d.unit t) (nth order b) ≡ 0
    unit_past b ab bn = go (split (nth order b) (each.inside b bn))
      where
        go : ((i : ℕ) × (i < r) × (parity i ≡ nth order b)) ⊎ ((v : ℕ) × (v < k) × (info v ≡ nth order b)) → nth (d.unit t) (nth order b) ≡ 0
        go (inl (i, l, q)) =
            let z = each.distinct (d.place i) b (d.taken i l) bn (sym (d.placed i l) ∙ q) in
            ap (nth (d.unit t)) (sym q) ∙ d.entries t i h l ∙ d.blank t i a h l (omega arith) aq
        go (inr (v, l, q)) =
            ap (nth (d.unit t)) (sym q)
            ∙ d.other t v h l (λ u. let z = each.distinct a b an bn (aq ∙ ap info (sym u) ∙ q) in absurd (omega arith))

    no_pivot : (i : ℕ) → i < s.rank → s.pivot i ≢ info t
    no_pivot i l q =
        let one : nth (d.unit t) (nth order a) ≡ 1 = ap (nth (d.unit t)) aq ∙ d.own t h in
        let none = last_zero w e each (nth (d.unit t)) (solves t h) a an (omega (arith, one)) unit_past i l (q ∙ sym aq) in
        absurd (omega (arith, one, none))

  info_true : (t : ℕ) → t < k → (v : ℕ) × (v < length positions) × (nth positions v ≡ info t)
  unfolding information_of
  info_true t h =
      let a = each_once_has g.n (nth order) each (info t) (d.inside t h) in
      ⊎_elim
      (λ (x : (i : ℕ) × (i < s.rank) × (s.pivot i ≡ info t)). absurd (no_pivot t h a.0 a.1 a.2 x.0 x.1 x.2))
      (λ (x : (v : ℕ) × (v < length positions) × (nth positions v ≡ info t)). x)
      (info_or_pivot g.n s (info t) (d.inside t h))

  -- ---- and there is no other without one

  info_low : (v : ℕ) → v < length positions → nth positions v < g.n
  unfolding information_of
  info_low v h = info_inside g.n s v h

  true_info : (v : ℕ) → v < length positions → (t : ℕ) × (t < k) × (info t ≡ nth positions v)
  true_info v h =
      ⊎_elim
      (λ (x : (t : ℕ) × (t < k) × (info t ≡ nth positions v)). x)
      (λ (none : (t : ℕ) → t < k → info t ≢ nth positions v).
      let zero = d.only (unit_word g order v) (Word-unit_word g order small each within v)
      (λ t l.
      let u = info_true t l in
      ap (nth (unit_word g order v)) (sym u.2) ∙ unit_info g order v u.0 u.1 (λ q. none t l (sym u.2 ∙ ap (nth positions) q)))
      (nth positions v) (info_low v h) in
      absurd (omega (arith, zero, unit_own g order v h)))
      (among_or_not k info (nth positions v))

  positions_rise : (t v : ℕ) → t < v → v < length positions → nth positions t < nth positions v
  unfolding information_of
  positions_rise t v l h = infos_ascend g.n s t v l h

  same_infos : (k ≡ length positions) × ((t : ℕ) → t < k → info t ≡ nth positions t)
  same_infos = same_rise k (length positions) info (nth positions) d.ascend positions_rise info_true true_info

  -- ---- so the pivots are the claimed parity positions

  not_info : (v i : ℕ) → v < length positions → i < s.rank → s.pivot i ≢ nth positions v
  unfolding information_of
  not_info v i h l = info_no_pivot g.n s v i h l

  parity_true : (i : ℕ) → i < r → (v : ℕ) × (v < s.rank) × (e.place v ≡ d.place i)
  unfolding information_of
  parity_true i l =
      ⊎_elim
      (λ (x : (v : ℕ) × (v < s.rank) × (s.pivot v ≡ nth order (d.place i))). (x.0, x.1, place_of w e each x.0 (d.place i) x.1 (d.taken i l) x.2))
      (λ (x : (v : ℕ) × (v < length positions) × (nth positions v ≡ nth order (d.place i))).
      let t = true_info x.0 x.1 in
      absurd (d.apart i t.0 l t.1 (d.placed i l ∙ sym x.2 ∙ sym t.2)))
      (info_or_pivot g.n s (nth order (d.place i)) (each.inside (d.place i) (d.taken i l)))

  true_parity : (i : ℕ) → i < s.rank → (v : ℕ) × (v < r) × (d.place v ≡ e.place i)
  true_parity i l =
      ⊎_elim
      (λ (x : (v : ℕ) × (v < r) × (parity v ≡ s.pivot i)). (x.0, x.1, sym (place_of w e each i (d.place x.0) l (d.taken x.0 x.1) (sym x.2 ∙ d.placed x.0 x.1))))
      (λ (x : (t : ℕ) × (t < k) × (info t ≡ s.pivot i)).
      let v = info_true x.0 x.1 in
      absurd (not_info v.0 i v.1 l (sym x.2 ∙ sym v.2)))
      (split (s.pivot i) (w.inside i l))

  same_places : (r ≡ s.rank) × ((i : ℕ) → i < r → d.place i ≡ e.place i)
  same_places = same_rise r s.rank d.place e.place d.rise e.rise parity_true true_parity

  same_parity : (i : ℕ) → i < r → parity i ≡ s.pivot i
  same_parity i l = d.placed i l ∙ ap (nth order) (same_places.1 i l) ∙ sym (e.pivot i (omega (arith, same_places.0)))

  -- ---- and the table is the claimed one

  same_entry : (i t : ℕ) → i < r → t < k → entry i t ≡ s.matrix i (nth positions t)
  unfolding information_of
  same_entry i t l h =
      let il : i < s.rank = omega (arith, same_places.0) in
      let at : (v : ℕ) → v < length positions → nth (d.unit t) (nth positions v) ≡ nth (d.unit t) (info v) =
      λ v b. ap (nth (d.unit t)) (sym (same_infos.1 v (omega (arith, same_infos.0)))) in
      sym (d.entries t i h l)
      ∙ ap (nth (d.unit t)) (same_parity i l)
      ∙ (solves_parity w each (nth (d.unit t)) (d.word t h).symbols.small).0 (solves t h) i il
      ∙ sum_unit (length positions) t (λ v. s.matrix i (nth positions v)) (λ v. nth (d.unit t) (nth positions v)) (omega (arith, same_infos.0)) (w.small i (nth positions t))
      (at t (omega (arith, same_infos.0)) ∙ d.own t h)
      (λ v b q. at v b ∙ d.other t v h (omega (arith, same_infos.0)) q)

  pub unique : Given g order r parity info entry
  unique = record {
    rank = same_places.0;
    pivots = same_parity;
    count = same_infos.0;
    infos = same_infos.1;
    table = same_entry;
  }
