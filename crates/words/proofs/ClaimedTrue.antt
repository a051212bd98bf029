-- The converse of Unique.antt: what elimination gives has all that is claimed there. So the claim says neither more nor less than number 7 does.
-- Assumes nothing.
use Prim.Native.Nat.{ℕ, ◌+◌, ◌-◌, ◌*◌, ◌<◌}
use mathlib.Core.Path.{◌≡◌, sym, ap, ◌∙◌}
use mathlib.Core.Bool.{false}
use mathlib.Core.List.{List, map}
use mathlib.Core.Logic.{⊎_elim, ◌↔◌}
use native.Mathlib.Omega.{arith}
use lib.ListN.{length, length-map}
use Rattle.lists.specs.Chain.{chain, start_of}
use Rattle.lists.specs.EachOnce.{EachOnce}
use Rattle.lists.specs.Entry.{nth}
use Rattle.lists.proofs.Chain.{chain_at, start_even, start_is, start_of-le}
use Rattle.lists.proofs.Values.{values_at, map_entries}
use Rattle.field.specs.Field.{product}
use Rattle.field.proofs.FieldSum.{sum_zero}
use Rattle.field.proofs.Product.{product-zero}
use Rattle.elimination.specs.Graph.{Graph, check_count}
use Rattle.elimination.specs.Matrix.{matrix_of}
use Rattle.elimination.specs.Elimination.{State, reduced, infos, table}
use Rattle.elimination.specs.Held.{held}
use Rattle.elimination.proofs.Echelon.{Echelon, reduced_echelon}
use Rattle.elimination.proofs.Eliminated.{Eliminated}
use Rattle.elimination.proofs.Entries.{Small, Inside}
use Rattle.elimination.proofs.Infos.{info_or_pivot, info_no_pivot, info_inside, infos_ascend, infos_count, rank_columns}
use Rattle.elimination.proofs.Reduced.{reduced_is}
use Rattle.graph.specs.declared.Code.{Code}
use Rattle.graph.specs.Parts.{Parts}
use Rattle.lent.specs.Misencoded.{graph_in, reduced_in, misencoded}
use Rattle.lent.specs.Sound.{Formed, Encoded}
use Rattle.lent.proofs.Encoded.{formed_small, formed_inside, formed_eliminated, encoded}
use Rattle.words.specs.Encoding.{information_of}
use Rattle.words.specs.Word.{Word}
use Rattle.words.proofs.CheckSums.{satisfied_solves}
use Rattle.words.proofs.Parity.{solves_parity}
use Rattle.words.proofs.UnitWords.{unit_word, unit_own, unit_info, unit_pivot, Word-unit_word}
use Rattle.words.proofs.Unique.{Claimed, Given}
use Rattle.words.proofs.UniqueCode.{ClaimedIn, unique_passes}

module _ (g : Graph) (order : List ℕ) (small : Small g) (within : Inside g) (each : EachOnce g.n (nth order))
    {r : ℕ} {parity info : ℕ → ℕ} {entry : ℕ → ℕ → ℕ} (d : Given g order r parity info entry) where
  abbrev s : State
  s = reduced g order

  abbrev positions : List ℕ
  positions = information_of g order

  w : Eliminated (check_count g) g.n (nth order) (matrix_of g) g.n s
  w = reduced_is g order small each.inside

  e : Echelon (nth order) g.n s
  e = reduced_echelon g order small each.inside

  row : (i : ℕ) → i < r → i < s.rank
  row i h = omega (arith, d.rank)

  low : (t : ℕ) → t < g.n - r → t < length positions
  low t h = omega (arith, d.count)

  -- a word that is 0 at the information positions
  only : (x : List ℕ) → Word g x → ((t : ℕ) → t < length positions → nth x (nth positions t) ≡ 0) → (j : ℕ) → j < g.n → nth x j ≡ 0
  unfolding information_of
  only x y z j h =
      ⊎_elim
      (λ (v : (i : ℕ) × (i < s.rank) × (s.pivot i ≡ j)).
      ap (nth x) (sym v.2)
      ∙ (solves_parity w each (nth x) y.symbols.small).0 ((satisfied_solves g x within).0 y.satisfied) v.0 v.1
      ∙ sum_zero (length positions) (λ t. product (s.matrix v.0 (nth positions t)) (nth x (nth positions t)))
      (λ t l. ap (product (s.matrix v.0 (nth positions t))) (z t l) ∙ product-zero (s.matrix v.0 (nth positions t))))
      (λ (v : (t : ℕ) × (t < length positions) × (nth positions t ≡ j)). ap (nth x) (sym v.2) ∙ z v.0 v.1)
      (info_or_pivot g.n s j h)

  pub given_claimed : Claimed g order r parity info entry
  unfolding information_of
  given_claimed = record {
    rank = omega (arith, d.rank, rank_columns w);
    place = e.place;
    taken = λ i h. e.taken i (row i h);
    placed = λ i h. d.pivots i h ∙ e.pivot i (row i h);
    rise = λ i l h b. e.rise i l h (row l b);
    inside = λ t h. rw (d.infos t h) (info_inside g.n s t (low t h));
    ascend = λ t v h b. rw (d.infos t (omega arith), d.infos v b) (infos_ascend g.n s t v h (low v b));
    apart = λ i t h b q. info_no_pivot g.n s t i (low t b) (row i h) (sym (d.pivots i h) ∙ q ∙ d.infos t b);
    unit = unit_word g order;
    word = λ t h. Word-unit_word g order small each within t;
    own = λ t h. ap (nth (unit_word g order t)) (d.infos t h) ∙ unit_own g order t (low t h);
    other = λ t v h b q. ap (nth (unit_word g order t)) (d.infos v b) ∙ unit_info g order t v (low v b) q;
    entries = λ t i h b. ap (nth (unit_word g order t)) (d.pivots i b) ∙ unit_pivot g order small each t i (low t h) (row i b) ∙ sym (d.table i t b h);
    blank = λ t i a h b l q. d.table i t b h ∙ ap (s.matrix i) (sym (d.infos t h) ∙ sym q) ∙ e.blank i a (row i b) l;
    only = λ x y z. only x y (λ t h. ap (nth x) (sym (d.infos t (omega (arith, d.count)))) ∙ z t (omega (arith, d.count)));
  }

-- ---- of a lent code

-- entry (i, t) of the table, of any state
at_table : (n : ℕ) (s : State) (i t : ℕ) → i < s.rank → t < length (infos n s)
    → (i * length (infos n s) + t < length (table n s)) × (nth (table n s) (i * length (infos n s) + t) ≡ s.matrix i (nth (infos n s) t))
unfolding table
at_table n s i t h l = (omega (arith, start_of-le rows s.rank i h, start_is rows s.rank, begin, tl), there)
  where
    rows : ℕ → List ℕ
    rows i = map (s.matrix i) (infos n s)

    long : (i : ℕ) → length (rows i) ≡ length (infos n s)
    long i = length-map (infos n s) (s.matrix i)

    begin : start_of rows i ≡ i * length (infos n s)
    begin = start_even (length (infos n s)) i rows (λ v b. long v)

    tl : t < length (rows i)
    tl = omega (arith, long i)

    there : nth (chain s.rank rows) (i * length (infos n s) + t) ≡ s.matrix i (nth (infos n s) t)
    there =
        ap (λ (y : ℕ). nth (chain s.rank rows) (y + t)) (sym begin)
        ∙ chain_at rows s.rank i t 0 h tl
        ∙ ap (λ (y : List ℕ). nth y t) (map_entries (s.matrix i) 0 (infos n s))
        ∙ values_at (λ v. s.matrix i (nth (infos n s) v)) (length (infos n s)) t 0 l

module _ (c : Code) (p : Parts) (f : Formed c p) where
  count : Encoded c p → c.n - c.rank ≡ length (infos c.n (reduced_in c p))
  count w = omega (arith, w.rank, infos_count (formed_eliminated c p f))

  entry_at : (w : Encoded c p) (i t : ℕ) → i < c.rank → t < c.n - c.rank → nth p.a (i * (c.n - c.rank) + t) ≡ (reduced_in c p).matrix i (nth (infos c.n (reduced_in c p)) t)
  entry_at w i t h l =
      let x = at_table c.n (reduced_in c p) i t (omega (arith, w.rank)) (omega (arith, count w)) in
      ap (λ (k : ℕ). nth p.a (i * k + t)) (count w) ∙ w.a (i * length (infos c.n (reduced_in c p)) + t) x.0 ∙ x.1

  encoded_given : Encoded c p → Given (graph_in c p) p.order c.rank (nth p.parity) (nth p.info) (λ i t. nth p.a (i * (c.n - c.rank) + t))
  unfolding held information_of
  encoded_given w = record {
    rank = w.rank;
    pivots = w.parity;
    count = count w;
    infos = λ t h. w.info t (omega (arith, count w));
    table = entry_at w;
  }

  pub encoded_claimed : Encoded c p → ClaimedIn c p
  unfolding held
  encoded_claimed w = given_claimed (graph_in c p) p.order (formed_small c p f) (formed_inside c p f) f.order (encoded_given w)

  -- number 7 passes a code exactly where its parts are so
  pub claimed_exactly : (misencoded c p ≡ false) ↔ ClaimedIn c p
  claimed_exactly = (λ q. encoded_claimed (encoded c p q), λ d. unique_passes c p f d)
