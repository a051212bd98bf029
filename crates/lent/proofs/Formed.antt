-- What the tests of number 6 leave where none holds: a graph with a column order, in which a variable's list holds each of its edges once and nothing else.
-- Assumes nothing.
use Prim.Native.Nat.{ℕ, ◌+◌, ◌-◌, ◌<◌, ◌≤◌}
use mathlib.Core.Path.{◌≡◌, sym, ap, subst, ◌∙◌}
use mathlib.Core.Bool.{Bool, false, not, ◌||◌}
use mathlib.Core.List.{List}
use native.Mathlib.Omega.{arith}
use borrow.Author.Tests.{ltb-false, eqb-true, eqb-false, not-false}
use lib.Dec.{eqb, ltb}
use lib.ListN.{length, take}
use lib.Seq.{get_or-take, length-take-le}
use Rattle.lists.specs.AnyBelow.{any_below}
use Rattle.lists.specs.EachOnce.{repeated, each_once}
use Rattle.lists.specs.Entry.{nth}
use Rattle.lists.specs.Values.{values}
use Rattle.lists.specs.Times.{times}
use Rattle.lists.proofs.Cases.{neither}
use Rattle.lists.proofs.AnyBelow.{any_below_not}
use Rattle.lists.proofs.EachOnce.{not_outside, not_repeated, each_once-true, each_once_has}
use Rattle.lists.proofs.Rising.{rises, rises_apart, between}
use Rattle.lists.proofs.Times.{Inside, times_has, times_once, times_alike, times_lengths}
use Rattle.lists.proofs.Values.{values-length, values_at, values_ext, values_own}
use Rattle.calls.proofs.Refusals.{one_fail}
use Rattle.graph.specs.declared.Code.{Code}
use Rattle.graph.specs.Parts.{Parts, variables, places}
use Rattle.lent.specs.Malformed.{bad_starts, twice, bad_coefs, foreign, disagree, unused_hold, malformed}
use Rattle.lent.specs.Misencoded.{graph_in}
use Rattle.lent.specs.Sound.{Fits, Starts, Formed}
use Rattle.lent.proofs.HeldVariables.{held-variables}
use Rattle.graph.proofs.Places.{places_own, places_has, places_ascend, places-times}

-- ---- of one test

pub starts_pass : (k count : ℕ) (l : List ℕ) → bad_starts k count l ≡ false → Starts k count (nth l)
unfolding bad_starts
starts_pass k count l e =
    let falls : ℕ → Bool = λ i. ltb (nth l (i + 1)) (nth l i) in
    let a = neither (not (eqb (nth l 0) 0)) (any_below k falls || not (eqb (nth l k) count)) e in
    let b = neither (any_below k falls) (not (eqb (nth l k) count)) a.1 in
    record {
      first = eqb-true (nth l 0) 0 (not-false (eqb (nth l 0) 0) a.0);
      rise = λ i h. ltb-false (nth l (i + 1)) (nth l i) (any_below_not k i falls b.0 h);
      last = eqb-true (nth l k) count (not-false (eqb (nth l k) count) b.1);
    }

pub twice_pass : (m : ℕ) (row var : List ℕ) → twice m row var ≡ false → (i s t : ℕ) → i < m → nth row i + s < nth row (i + 1) → nth row i + t < nth row (i + 1) → nth var (nth row i + s) ≡ nth var (nth row i + t) → s ≡ t
unfolding twice
twice_pass m row var e i s t h a b =
    not_repeated (nth row (i + 1) - nth row i) (λ j. nth var (nth row i + j))
    (any_below_not m i (λ c. repeated (nth row (c + 1) - nth row c) (λ j. nth var (nth row c + j))) e h)
    s t (omega arith) (omega arith)

pub coefs_pass : (count : ℕ) (coef : List ℕ) → bad_coefs count coef ≡ false → (e : ℕ) → e < count → (0 < nth coef e) × (nth coef e < 32)
unfolding bad_coefs
coefs_pass count coef z e h =
    let b = neither (eqb (nth coef e) 0) (ltb 31 (nth coef e)) (any_below_not count e (λ e. eqb (nth coef e) 0 || ltb 31 (nth coef e)) z h) in
    (omega (arith, eqb-false (nth coef e) 0 b.0), omega (arith, ltb-false 31 (nth coef e) b.1))

pub foreign_pass : (n : ℕ) (var start col : List ℕ) → foreign n var start col ≡ false → (v j : ℕ) → v < n → nth start v + j < nth start (v + 1) → nth var (nth col (nth start v + j)) ≡ v
unfolding foreign
foreign_pass n var start col e v j h l =
    let other : ℕ → ℕ → Bool = λ v j. not (eqb (nth var (nth col (nth start v + j))) v) in
    eqb-true (nth var (nth col (nth start v + j))) v
    (not-false (eqb (nth var (nth col (nth start v + j))) v)
    (any_below_not (nth start (v + 1) - nth start v) j (other v) (any_below_not n v (λ v. any_below (nth start (v + 1) - nth start v) (other v)) e h) (omega arith)))

-- ---- of all

pub formed : (c : Code) (p : Parts) → malformed c p ≡ false → Formed c p
unfolding malformed disagree
formed c p e =
    let t = one_fail _ e in
    let lists = one_fail _ t.1.1.1.1.1.0 in
    record {
      few = ltb-false 512 c.edges t.0;
      rows = starts_pass c.m c.edges p.row t.1.0;
      vars = not_outside c.edges (nth p.var) c.n t.1.1.0;
      once = twice_pass c.m p.row p.var t.1.1.1.0;
      coefs = coefs_pass c.edges p.coef t.1.1.1.1.0;
      columns = starts_pass c.n c.edges p.start lists.0;
      places = each_once-true c.edges (nth p.col) (not-false (each_once c.edges (nth p.col)) lists.1.0);
      own = foreign_pass c.n p.var p.start p.col lists.1.1.0;
      order = each_once-true c.n (nth p.order) (not-false (each_once c.n (nth p.order)) t.1.1.1.1.1.1.0);
    }

-- and every unused entry is 0
pub unused_pass : (c : Code) (p : Parts) → malformed c p ≡ false → unused_hold c p ≡ false
unfolding malformed
unused_pass c p e = (one_fail _ e).1.1.1.1.1.1.1.0

-- each of k lists ends within the count
pub starts_end : {k count : ℕ} {starts : ℕ → ℕ} → Starts k count starts → (i : ℕ) → i < k → starts (i + 1) ≤ count
starts_end {k} {count} {starts} w i h = omega (arith, rises k starts w.rise (i + 1) k (omega arith) (omega arith), w.last)

-- ---- a list must hold each edge of its variable once and nothing else

module _ (c : Code) (p : Parts) (size : Fits c p) (w : Formed c p) (v : ℕ) (h : v < c.n) where
  abbrev start : ℕ → ℕ
  start = nth p.start

  abbrev count : ℕ
  count = start (v + 1) - start v

  abbrev entry : ℕ → ℕ
  entry j = nth p.col (start v + j)

  abbrev vars : List ℕ
  vars = take c.edges p.var

  -- the list ends within the edges
  end : start (v + 1) ≤ c.edges
  end = starts_end w.columns v h

  vars-length : length vars ≡ c.edges
  vars-length = length-take-le c.edges p.var (omega (arith, w.few, size.parts.var))

  vars_at : (e : ℕ) → e < c.edges → nth vars e ≡ nth p.var e
  vars_at e l = get_or-take c.edges p.var e 0 l

  -- the places of v's edges, in the list's order and ascending
  abbrev listed : List ℕ
  listed = values count entry

  abbrev own : List ℕ
  own = places vars v

  listed_at : (t : ℕ) → t < length listed → (t < count) × (nth listed t ≡ entry t)
  listed_at t l = let k : t < count = omega (arith, values-length entry count) in (k, values_at entry count t 0 k)

  listed_apart : (t u : ℕ) → t < length listed → u < length listed → nth listed t ≡ nth listed u → t ≡ u
  listed_apart t u l m e =
      let a = listed_at t l in
      let b = listed_at u m in
      let q = w.places.distinct (start v + t) (start v + u) (omega (arith, end, a.0)) (omega (arith, end, b.0)) (sym a.1 ∙ e ∙ b.1) in
      omega (arith, q)

  -- an entry is an edge of v
  listed-own : Inside listed own
  listed-own t l =
      let a = listed_at t l in
      let i = w.places.inside (start v + t) (omega (arith, end, a.0)) in
      let r = places_has vars v (entry t) (omega (arith, i, vars-length)) (vars_at (entry t) i ∙ w.own v t h (omega (arith, a.0))) in
      (r.0, r.1, r.2 ∙ sym a.1)

  -- an edge of v stands at a place that is in no other variable's list
  own-listed : Inside own listed
  own-listed t l =
      let x = nth own t in
      let b = places_own vars v t l in
      let i : x < c.edges = omega (arith, b.0, vars-length) in
      let s = each_once_has c.edges (nth p.col) w.places x i in
      let u = between c.n start s.0 (omega (arith, w.columns.first)) (omega (arith, s.1, w.columns.last)) in
      let at : start u.0 + (s.0 - start u.0) ≡ s.0 = omega (arith, u.2) in
      let q : u.0 ≡ v =
      sym (w.own u.0 (s.0 - start u.0) u.1 (omega (arith, u.2, u.3)))
      ∙ ap (λ (k : ℕ). nth p.var (nth p.col k)) at ∙ ap (nth p.var) s.2 ∙ sym (vars_at x i) ∙ b.1 in
      let low : start v ≤ s.0 = rw q at u.2 in
      let high : s.0 < start (v + 1) = rw q at u.3 in
      let j : s.0 - start v < count = omega arith in
      (s.0 - start v, omega (arith, values-length entry count), values_at entry count (s.0 - start v) 0 j ∙ ap (nth p.col) (omega arith) ∙ s.2)

  same : (x : ℕ) → times x listed ≡ times x own
  same = times_alike listed own (times_once listed listed_apart) (times_once own (rises_apart (length own) (nth own) (places_ascend vars v))) listed-own own-listed

pub lists_hold : (c : Code) (p : Parts) → Fits c p → Formed c p → (v x : ℕ) → v < c.n
    → times x (values (nth p.start (v + 1) - nth p.start v) (λ j. nth p.col (nth p.start v + j))) ≡ times x (places (take c.edges p.var) v)
lists_hold c p size w v x h = same c p size w v h x

-- so a list is as long as its variable has edges
pub list_length : (c : Code) (p : Parts) → Fits c p → Formed c p → (v : ℕ) → v < c.n → nth p.start (v + 1) - nth p.start v ≡ times v (variables (graph_in c p))
list_length c p size w v h =
    sym (values-length (λ j. nth p.col (nth p.start v + j)) (nth p.start (v + 1) - nth p.start v))
    ∙ times_lengths c.edges _ _ below (λ x. lists_hold c p size w v x h)
    ∙ places-times (take c.edges p.var) v
    ∙ ap (times v) (sym (held-variables c.n c.m c.edges p.var p.coef p.row w.rows ∙ values-take))
  where
    below : (x : ℕ) → 0 < times x (values (nth p.start (v + 1) - nth p.start v) (λ j. nth p.col (nth p.start v + j))) → x < c.edges
    below x k =
        let r = times_has x (listed c p size w v h) k in
        let a = listed_at c p size w v h r.0 r.1 in
        subst (λ (y : ℕ). y < c.edges) (sym a.1 ∙ r.2) (w.places.inside (nth p.start v + r.0) (omega (arith, end c p size w v h, a.0)))

    values-take : values c.edges (nth p.var) ≡ take c.edges p.var
    values-take =
        values_ext c.edges (nth p.var) (nth (take c.edges p.var)) 0 (λ e l. sym (get_or-take c.edges p.var e 0 l))
        ∙ ap (λ (k : ℕ). values k (nth (take c.edges p.var))) (sym (vars-length c p size w v h))
        ∙ values_own 0 (take c.edges p.var)
