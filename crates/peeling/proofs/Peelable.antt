-- A lent code that the refusals leave may be peeled: a variable's list has as many edges in a check as the variable stands there.
-- Assumes nothing.
use Prim.Native.Nat.{ℕ, ◌+◌, ◌-◌, ◌<◌, ◌≤◌}
use mathlib.Core.Path.{◌≡◌, ap, ap₂, sym, subst, ◌∙◌}
use mathlib.Core.Bool.{Bool, false, ◌&&◌, and-true, and-false}
use mathlib.Core.List.{List}
use native.Mathlib.Nat.{le_refl}
use native.Mathlib.Omega.{arith}
use borrow.Author.Tests.{lt-ltb, le-ltb, le-leb, lt-leb}
use lib.Dec.{eqb, ltb, leb}
use lib.ListN.{length, take}
use lib.Seq.{get_or-take, length-take-le}
use Rattle.lists.specs.Entry.{nth}
use Rattle.lists.specs.Times.{times}
use Rattle.lists.specs.Values.{values}
use Rattle.lists.proofs.Keep.{keep-keep_below}
use Rattle.lists.proofs.Rising.{rises}
use Rattle.lists.proofs.Tally.{tally_values, tally_window}
use Rattle.lists.proofs.Times.{times_has, times_once, times_kept, times-values}
use Rattle.lists.proofs.Values.{values-length, values_at}
use Rattle.graph.specs.declared.Code.{Code}
use Rattle.elimination.specs.Held.{held}
use Rattle.graph.specs.Parts.{Parts, places}
use Rattle.lent.specs.Sound.{IsSound}
use Rattle.elimination.proofs.Held.{held_symbols}
use Rattle.lent.proofs.Formed.{starts_end, lists_hold}
use Rattle.lent.proofs.SoundCode.{sound_encodable}
use Rattle.peeling.specs.Peelable.{symbols_in, edges_on, Checked, Peelable}
use Rattle.peeling.specs.Peeling.{symbols_of}

-- where a check ends
pub check_end : {n m : ℕ} {var row : List ℕ} → Checked n m var row → (c : ℕ) → c < m → (nth row c ≤ nth row (c + 1)) × (nth row (c + 1) ≤ nth row m)
check_end {m = m} {row = row} w c h = (w.rise c h, rises m (nth row) w.rise (c + 1) m (omega arith) (le_refl m))

-- the symbols of a check that stands in parts
pub symbols_held : (n m : ℕ) (var coef row : List ℕ) (c : ℕ) → c < m → symbols_of (held n m var coef row) c ≡ symbols_in var (nth row c) (nth row (c + 1))
unfolding symbols_of
symbols_held = held_symbols

module _ (c : Code) (p : Parts) (w : IsSound c p) where
  checked : Checked c.n c.m p.var p.row
  checked =
      let e = sound_encodable c p w in
      record {
        n_small = e.n_small;
        m_small = e.graph.m_small;
        var_long = e.graph.var_long;
        row_long = e.graph.row_long;
        first = w.formed.rows.first;
        rise = e.graph.rise;
        end = e.graph.end;
        vars = e.vars;
      }

  -- ---- variable v's edges in check i

  module _ (v i : ℕ) (h : v < c.n) (l : i < c.m) where
    abbrev from : ℕ
    from = nth p.row i

    abbrev to : ℕ
    to = nth p.row (i + 1)

    abbrev count : ℕ
    count = nth p.start (v + 1) - nth p.start v

    abbrev entry : ℕ → ℕ
    entry j = nth p.col (nth p.start v + j)

    abbrev vars : List ℕ
    vars = take c.edges p.var

    -- whether an edge is v's, and whether it stands in check i
    abbrev mine : ℕ → Bool
    mine e = eqb (nth vars e) v

    abbrev stands : ℕ → Bool
    stands e = leb from e && ltb e to

    vars-length : length vars ≡ c.edges
    vars-length = length-take-le c.edges p.var (omega (arith, w.formed.few, w.fits.parts.var))

    listed_below : (x : ℕ) → 0 < times x (values count entry) → x < c.edges
    listed_below x k =
        let r = times_has x (values count entry) k in
        let b : r.0 < count = omega (arith, r.1, values-length entry count) in
        subst (λ (y : ℕ). y < c.edges) (sym (values_at entry count r.0 0 b) ∙ r.2) (w.formed.places.inside (nth p.start v + r.0) (omega (arith, starts_end w.formed.columns v h, b)))

    before : (e : ℕ) → e < from → (mine e && stands e) ≡ false
    before e k = ap (λ (t : Bool). mine e && (t && ltb e to)) (lt-leb from e k) ∙ and-false (mine e)

    after : (e : ℕ) → from + (to - from) ≤ e → (mine e && stands e) ≡ false
    after e k =
        ap (λ (t : Bool). mine e && (leb from e && t)) (le-ltb e to (omega arith)) ∙ ap (λ (t : Bool). mine e && t) (and-false (leb from e)) ∙ and-false (mine e)

    same : (j : ℕ) → j < to - from → (mine (from + j) && stands (from + j)) ≡ eqb (nth p.var (from + j)) v
    same j k =
        ap₂ (λ (a b : Bool). mine (from + j) && (a && b)) (le-leb from (from + j) (omega arith)) (lt-ltb (from + j) to (omega arith))
        ∙ and-true (mine (from + j)) ∙ ap (λ (x : ℕ). eqb x v) (get_or-take c.edges p.var (from + j) 0 (omega (arith, starts_end w.formed.rows i l)))

    list_edges : edges_on p.row p.start p.col v i ≡ times v (symbols_in p.var (nth p.row i) (nth p.row (i + 1)))
    unfolding edges_on places
    list_edges =
        tally_values stands entry count
        ∙ times_kept c.edges stands (values count entry) (places vars v) listed_below (λ x. lists_hold c p w.fits w.formed v x h)
        ∙ ap length (keep-keep_below mine stands (length vars))
        ∙ tally_window (λ e. mine e && stands e) (λ j. eqb (nth p.var (from + j)) v) from (to - from) before same after (length vars)
        (omega (arith, vars-length, starts_end w.formed.rows i l, w.formed.rows.rise i l))
        ∙ times-values v (to - from) (λ j. nth p.var (from + j))

  -- in no check a variable stands twice
  symbols_once : (v i : ℕ) → i < c.m → times v (symbols_in p.var (nth p.row i) (nth p.row (i + 1))) ≤ 1
  symbols_once v i l =
      let from = nth p.row i in
      let k = nth p.row (i + 1) - from in
      let f : ℕ → ℕ = λ j. nth p.var (from + j) in
      times_once (values k f)
      (λ s t a b q.
      let a' : s < k = omega (arith, a, values-length f k) in
      let b' : t < k = omega (arith, b, values-length f k) in
      w.formed.once i s t l (omega (arith, a')) (omega (arith, b')) (sym (values_at f k s 0 a') ∙ q ∙ values_at f k t 0 b'))
      v

pub peelable : (c : Code) (p : Parts) → IsSound c p → Peelable c.n c.m p.var p.row p.start p.col
peelable c p w = record {
  checks = checked c p w;
  start_long = w.fits.parts.start;
  col_long = w.fits.parts.col;
  lists_rise = w.formed.columns.rise;
  lists_end = λ v h. omega (arith, starts_end w.formed.columns v h, w.formed.few);
  places = λ v i h a b. omega (arith, w.formed.places.inside i (omega (arith, starts_end w.formed.columns v h, b)), w.formed.rows.last);
  lists = list_edges c p w;
  once = symbols_once c p w;
}
