-- Number 7: what elimination gives for a lent graph and order, how the tests tell the number from parts in which it stands, and what the number leaves.
-- Assumes nothing.
use Prim.Native.Nat.{ℕ, ◌+◌, ◌-◌, ◌*◌, ◌<◌}
use mathlib.Core.Path.{◌≡◌, refl, sym, ap, ◌∙◌}
use mathlib.Core.Logic.{◌≢◌, ⊎_elim}
use mathlib.Core.Bool.{Bool, true, false, not, ◌||◌, or-false}
use mathlib.Core.List.{List, []}
use native.Mathlib.Omega.{arith}
use borrow.Author.Tests.{eq-eqb, ne_eqb, eqb-true, not-false}
use lib.Dec.{eqb}
use lib.ListN.{length, take}
use Rattle.lists.specs.Among.{among}
use Rattle.lists.specs.Chain.{chain}
use Rattle.lists.specs.Entry.{nth}
use Rattle.lists.specs.Front.{differs}
use Rattle.lists.specs.Keep.{keep_below}
use Rattle.lists.specs.Laid.{laid}
use Rattle.lists.specs.Values.{values}
use Rattle.lists.proofs.Cases.{neither, true_or_false}
use Rattle.lists.proofs.Front.{differs_not, differs-laid}
use Rattle.lists.proofs.Laid.{laid-take}
use Rattle.lists.proofs.Values.{values-length, values_at}
use Rattle.calls.proofs.Refusals.{one_hit, one_miss, one_join, one_none, one_fail}
use Rattle.graph.specs.declared.Code.{Code}
use Rattle.elimination.specs.Matrix.{matrix_of}
use Rattle.elimination.specs.Elimination.{infos, table}
use Rattle.graph.specs.Parts.{Parts}
use Rattle.elimination.specs.Encodable.{Encodable}
use Rattle.elimination.specs.Standing.{Stands}
use Rattle.lent.specs.Misencoded.{graph_in, reduced_in, misencoded}
use Rattle.lent.specs.Sound.{Fits, Formed, Encoded}
use Rattle.elimination.proofs.Eliminated.{Eliminated}
use Rattle.elimination.proofs.Entries.{Small, Inside, held_small, held_inside}
use Rattle.elimination.proofs.Infos.{infos_count}
use Rattle.elimination.proofs.Reduced.{held_eliminated, infos_same, info_below, table_same}

module _ (c : Code) (p : Parts) where
  -- ---- elimination of the graph that is lent

  module _ (f : Formed c p) where
    edge : (e : ℕ) → e < nth p.row c.m → e < c.edges
    edge e h = omega (arith, f.rows.last)

    pub formed_small : Small (graph_in c p)
    formed_small = held_small p.var p.coef p.row c.n c.m f.rows.rise (λ e h. (f.coefs e (edge e h)).1)

    pub formed_inside : Inside (graph_in c p)
    formed_inside = held_inside p.var p.coef p.row c.n c.m f.rows.rise (λ e h. f.vars e (edge e h))

    pub formed_eliminated : Eliminated c.m c.n (nth p.order) (matrix_of (graph_in c p)) c.n (reduced_in c p)
    formed_eliminated = held_eliminated c.n c.m p.var p.coef p.row p.order f.rows.rise (λ e h. (f.coefs e (edge e h)).1) f.order.inside

    pub formed_encodable : Fits c p → Encodable c.n c.m p.var p.coef p.row p.order
    formed_encodable w = record {
      graph = record {
        m_small = w.m_small;
        var_long = w.parts.var;
        coef_long = w.parts.coef;
        row_long = w.parts.row;
        rise = f.rows.rise;
        end = omega (arith, f.rows.last, f.few);
        vars = λ e h. omega (arith, f.vars e (edge e h), w.n_small);
      };
      n_small = w.n_small;
      vars = λ e h. f.vars e (edge e h);
      coefs = λ e h. (f.coefs e (edge e h)).1;
      order_long = w.parts.order;
      columns = f.order.inside;
    }

  -- ---- the tests, read off parts in which the elimination stands

  module _ {part h pivots : List ℕ} {r : ℕ} (w : Stands c.m c.n (reduced_in c p) part h pivots r) where
    pub rank_other : r ≢ c.rank → true ≡ misencoded c p
    unfolding misencoded
    rank_other n = one_hit _ (sym (ap not (ne_eqb c.rank (reduced_in c p).rank (λ e. n (w.rank ∙ sym e))))) refl

    module _ (q : r ≡ c.rank) {a b : Bool} (pa : a ≡ differs (take r pivots) p.parity) (pb : b ≡ differs (keep_below (λ j. not (among r (nth pivots) j)) c.n) p.info) where
      rank_same : false ≡ not (eqb c.rank (reduced_in c p).rank)
      rank_same = sym (ap not (eq-eqb c.rank (reduced_in c p).rank (sym q ∙ w.rank)))

      parity_tells : a ≡ differs (values (reduced_in c p).rank (reduced_in c p).pivot) p.parity
      parity_tells =
          pa
          ∙ ap (λ (l : List ℕ). differs (take r l) p.parity) w.pivots
          ∙ ap (λ (l : List ℕ). differs l p.parity) (laid-take (values r (reduced_in c p).pivot) part r (sym (values-length (reduced_in c p).pivot r)))
          ∙ ap (λ (k : ℕ). differs (values k (reduced_in c p).pivot) p.parity) w.rank

      info_tells : b ≡ differs (infos c.n (reduced_in c p)) p.info
      info_tells = pb ∙ ap (λ (l : List ℕ). differs l p.info) (infos_same w)

      pub fronts_other : (a || b) ≡ true → true ≡ misencoded c p
      unfolding misencoded
      fronts_other e =
          one_miss _ rank_same refl
          (⊎_elim
          (λ t. one_hit _ (sym t ∙ parity_tells) refl)
          (λ t. one_miss _ parity_tells t (one_hit _ (sym (rw t at e) ∙ info_tells) refl))
          (true_or_false a))

      module _ (e : (a || b) ≡ false) (fits : Fits c p) (f : Formed c p) where
        count : c.n - r ≡ length (infos c.n (reduced_in c p))
        count = omega (arith, w.rank, infos_count (formed_eliminated f))

        there : p.info ≡ laid (infos c.n (reduced_in c p)) p.info
        there = differs-laid p.info (infos c.n (reduced_in c p)) (omega (arith, count, fits.n_small, fits.parts.info)) (sym info_tells ∙ (neither a b e).1)

        pub info_small : (t : ℕ) → t < c.n - r → nth p.info t < 256
        info_small t l = omega (arith, info_below w (formed_eliminated f).rank_rows (c.n - r) p.info p.info count there t l, fits.n_small)

        pub table_tells : {d : Bool} → d ≡ differs (chain r (λ i. values (c.n - r) (λ t. nth h (i * 256 + nth p.info t)))) p.a → d ≡ misencoded c p
        unfolding misencoded
        table_tells {d} pd =
            one_miss _ rank_same refl
            (one_miss _ parity_tells (neither a b e).0
            (one_miss _ info_tells (neither a b e).1
            (sym (or-false d)
            ∙ one_join [] (pd ∙ ap (λ (l : List ℕ). differs l p.a) (table_same w (formed_eliminated f).rank_rows (c.n - r) p.info p.info count there)) one_none)))

  -- ---- what it leaves

  pub encoded : misencoded c p ≡ false → Encoded c p
  unfolding misencoded
  encoded e =
      let s = reduced_in c p in
      let w = one_fail _ e in
      let q = eqb-true c.rank s.rank (not-false (eqb c.rank s.rank) w.0) in
      record {
        rank = q;
        parity = λ i h.
            differs_not p.parity (values s.rank s.pivot) w.1.0 i (omega (arith, values-length s.pivot s.rank))
            ∙ values_at s.pivot s.rank i 0 (omega arith);
        info = differs_not p.info (infos c.n s) w.1.1.0;
        a = differs_not p.a (table c.n s) w.1.1.1.0;
      }
