-- A code in parts that hold a proper graph and an order of its columns is not refused; so the code that `new` answers never is.
-- Assumes nothing.
use Prim.Native.Nat.{ℕ, ◌+◌, ◌<◌, ◌≤◌}
use mathlib.Core.Path.{◌≡◌, refl, ap, sym, ◌∙◌, subst}
use mathlib.Core.Bool.{false}
use mathlib.Core.List.{List}
use native.Mathlib.Omega.{arith}
use lib.ListN.{length, get_or}
use Rattle.lists.specs.Chain.{start_of}
use Rattle.lists.specs.EachOnce.{EachOnce}
use Rattle.lists.specs.Entry.{nth}
use Rattle.lists.proofs.Chain.{start_none, start_more, start_of-le, chain_at}
use Rattle.lists.proofs.EachOnce.{each_once_ext}
use Rattle.lists.proofs.Values.{values_at}
use Rattle.std.specs.Prelude.{Result, Ok}
use Rattle.calls.specs.declared.Refusal.{Refusal}
use Rattle.calls.specs.Parts.{padded, written}
use Rattle.calls.specs.Refusal.{first_of, answered}
use Rattle.calls.proofs.Refusals.{one_miss, one_none, by_ok, both_pass}
use Rattle.graph.specs.declared.Code.{Code}
use Rattle.elimination.specs.Graph.{Graph, check_count, check, edges}
use Rattle.elimination.specs.Elimination.{State, reduced, infos, table}
use Rattle.graph.specs.Parts.{Parts, variables, places, columns, parts}
use Rattle.elimination.specs.Held.{held}
use Rattle.graph.specs.Descending.{descending}
use Rattle.graph.specs.Built.{built}
use Rattle.graph.specs.New.{Work, new_refusals, numbers}
use Rattle.lent.specs.Malformed.{unused_hold}
use Rattle.lent.specs.LentCode.{NotRefused}
use Rattle.graph.specs.Buildable.{Buildable}
use Rattle.lent.specs.Sound.{Starts, Fits, Formed, Encoded, IsSound}
use Rattle.graph.proofs.RowStarts.{rows_last, edge_inside, variable_at}
use Rattle.graph.proofs.Places.{places_own, places_once}
use Rattle.graph.proofs.Proper.{Proper, var_part, coef_part, row_part, start_part, col_part, vars_long, vars_below, places_last, var_padded, coef_padded, row_padded, start_padded, col_padded, row_in, start_in, var_in, coef_in, order_padded, order_each, parts_reduced, infos_long, table_long, parity_padded, info_padded, table_padded}
use Rattle.lent.proofs.SoundPasses.{sound_passes}
use Rattle.graph.proofs.BuiltWell.{built_long, built_once, built_proper}
use Rattle.graph.proofs.Ends.{early_tests, late_tests, new_buildable}

-- lists one after another: their starts
starts_are : {A : Type 0} (f : ℕ → List A) (k count : ℕ) (starts : ℕ → ℕ) → ((i : ℕ) → i ≤ k → starts i ≡ start_of f i) → start_of f k ≡ count → Starts k count starts
starts_are f k count starts at end = record {
  first = at 0 (omega arith) ∙ start_none f;
  rise = λ i h. omega (arith, at i (omega arith), at (i + 1) (omega arith), start_more f i);
  last = at k (omega arith) ∙ end;
}

-- ---- the graph in its parts

module _ (g : Graph) (ok : Proper g) where
  -- edge s of check i
  edge_in : (i s : ℕ) → i < check_count g → nth (row_part g) i + s < nth (row_part g) (i + 1) → (s < length (check g i)) × (nth (var_part g) (nth (row_part g) i + s) ≡ (get_or (check g i) s (0, 0)).0)
  edge_in i s h l =
      let b = row_in g ok i (omega arith) in
      let k : s < length (check g i) = omega (arith, row_in g ok (i + 1) (omega arith), start_more (check g) i) in
      (k, ap (λ (x : ℕ). nth (var_part g) (x + s)) b ∙ (var_padded g ok).front (start_of (check g) i + s) (edge_inside g i s h k) ∙ variable_at g i s h k)

  places_each : EachOnce (length (edges g)) (nth (col_part g))
  places_each =
      each_once_ext (length (edges g)) (nth (col_part g)) (nth (columns g)) (col_padded g ok).front
      (subst (λ (k : ℕ). EachOnce k (nth (columns g))) (vars_long g) (places_once (variables g) g.n (vars_below g ok)))

  -- entry j of variable v's list is an edge of v
  place_own : (v j : ℕ) → v < g.n → nth (start_part g) v + j < nth (start_part g) (v + 1) → nth (var_part g) (nth (col_part g) (nth (start_part g) v + j)) ≡ v
  place_own v j h l =
      let f = places (variables g) in
      let b = start_in g ok v (omega arith) in
      let k : j < length (f v) = omega (arith, start_in g ok (v + 1) (omega arith), start_more f v) in
      let o = places_own (variables g) v j k in
      let i : start_of f v + j < length (edges g) = omega (arith, places_last g ok, start_of-le f g.n v h) in
      let e = ap (λ (x : ℕ). nth (col_part g) (x + j)) b ∙ (col_padded g ok).front (start_of f v + j) i ∙ chain_at f g.n v j 0 h k in
      ap (nth (var_part g)) e ∙ (var_padded g ok).front (nth (f v) j) (omega (arith, o.0, vars_long g)) ∙ o.1

  -- ---- the code

  module _ (order : List ℕ) (long : length order ≡ g.n) (each : EachOnce g.n (nth order)) where
    abbrev s : State
    s = reduced g order

    fit : Fits (numbers g order) (parts g order)
    unfolding numbers parts
    fit = record {
      n_small = ok.n_small;
      m_small = ok.m_small;
      parts = record {
        var = (var_padded g ok).whole;
        coef = (coef_padded g ok).whole;
        row = (row_padded g ok).whole;
        start = (start_padded g ok).whole;
        col = (col_padded g ok).whole;
        order = (order_padded g ok order long each).whole;
        parity = (parity_padded g ok order long each).whole;
        info = (info_padded g ok order long each).whole;
        a = (table_padded g ok order long each).whole;
      };
    }

    formed : Formed (numbers g order) (parts g order)
    unfolding numbers parts
    formed = record {
      few = ok.few;
      rows = starts_are (check g) (check_count g) (length (edges g)) (nth (row_part g)) (row_in g ok) (rows_last g);
      vars = var_in g ok;
      once = λ i s t h a b q. let r = edge_in i s h a in let u = edge_in i t h b in ok.once i s t h r.0 u.0 (sym r.1 ∙ q ∙ u.1);
      coefs = coef_in g ok;
      columns = starts_are (places (variables g)) g.n (length (edges g)) (nth (start_part g)) (start_in g ok) (places_last g ok);
      places = places_each;
      own = place_own;
      order = order_each g ok order long each;
    }

    encoded : Encoded (numbers g order) (parts g order)
    unfolding numbers parts
    encoded = record {
      rank = ap (λ (t : State). t.rank) back;
      parity = λ i h. (parity_padded g ok order long each).front i h ∙ values_at s.pivot s.rank i 0 h ∙ ap (λ (t : State). t.pivot i) back;
      info = subst (λ (t : State). (k : ℕ) → k < length (infos g.n t) → nth (padded 256 0 (infos g.n s)) k ≡ nth (infos g.n t) k) back
          (λ k h. (info_padded g ok order long each).front k (omega (arith, infos_long g ok order long each)));
      a = subst (λ (t : State). (k : ℕ) → k < length (table g.n t) → nth (padded 16384 0 (table g.n s)) k ≡ nth (table g.n t) k) back
          (λ k h. (table_padded g ok order long each).front k (omega (arith, table_long g ok order long each)));
    }
      where
        back : s ≡ reduced (held g.n (check_count g) (var_part g) (coef_part g) (row_part g)) (padded 256 0 order)
        back = sym (parts_reduced g ok order long each)

    unused : unused_hold (numbers g order) (parts g order) ≡ false
    unfolding unused_hold numbers parts
    unused =
        sym
        (one_miss _ refl (var_padded g ok).unused
        (one_miss _ refl (coef_padded g ok).unused
        (one_miss _ refl (row_padded g ok).unused
        (one_miss _ refl (start_padded g ok).unused
        (one_miss _ refl (col_padded g ok).unused
        (one_miss _ refl (order_padded g ok order long each).unused
        (one_miss _ refl (parity_padded g ok order long each).unused
        (one_miss _ refl (info_padded g ok order long each).unused
        (one_miss _ refl (table_padded g ok order long each).unused one_none)))))))))

    pub parts_sound : IsSound (numbers g order) (parts g order)
    parts_sound = record { fits = fit; formed = formed; encoded = encoded }

pub parts_not_refused : (g : Graph) (order : List ℕ) → Proper g → length order ≡ g.n → EachOnce g.n (nth order) → NotRefused (numbers g order) (parts g order)
parts_not_refused g order ok long each = sound_passes (numbers g order) (parts g order) (parts_sound g ok order long each) (unused g ok order long each)

-- ---- of a build

pub built_not_refused : (n m : ℕ) (degrees : List ℕ) (seed : ℕ) → Buildable n m degrees
    → NotRefused (numbers (built n m degrees seed) (descending n)) (parts (built n m degrees seed) (descending n))
built_not_refused n m degrees seed ok = parts_not_refused (built n m degrees seed) (descending n) (built_proper n m degrees seed ok) (built_long n m degrees seed) (built_once n m degrees seed)

-- a code that `new` answers is never refused
pub new_not_refused : (n m seed : ℕ) (degrees : List ℕ) (code : Parts) (work : Work) (c : Code)
    → Ok c ≡ answered (first_of (new_refusals n m degrees code work)) (numbers (built n m degrees seed) (descending n))
    → NotRefused c (parts (built n m degrees seed) (descending n))
new_not_refused n m seed degrees code work c h =
    let r = by_ok (first_of (new_refusals n m degrees code work)) (numbers (built n m degrees seed) (descending n)) h in
    let b = both_pass (early_tests n m degrees code work) (late_tests n m degrees) r.0 in
    subst (λ (x : Code). NotRefused x (parts (built n m degrees seed) (descending n))) (sym r.1) (built_not_refused n m degrees seed (new_buildable n m degrees code work b.0 b.1))

-- so, by the clauses `answer` and `code_after` of `new`: where it answers a code, that code is not refused in the parts that it leaves
pub new_given : (n m seed : ℕ) (degrees : List ℕ) (given left : Parts) (work : Work) (result : Result Code Refusal)
    → result ≡ answered (first_of (new_refusals n m degrees given work)) (numbers (built n m degrees seed) (descending n))
    → left ≡ written result given (parts (built n m degrees seed) (descending n))
    → (c : Code) → result ≡ Ok c → NotRefused c left
new_given n m seed degrees given left work result answer code_after c e =
    let made = parts (built n m degrees seed) (descending n) in
    let same : left ≡ made = code_after ∙ ap (λ (r : Result Code Refusal). written r given made) e in
    subst (λ (p : Parts). NotRefused c p) (sym same) (new_not_refused n m seed degrees given work c (sym e ∙ answer))
