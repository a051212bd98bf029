-- A lent code in another column order is not refused and has the same words; so has the code in the order that peeling gives.
-- Assumes nothing.
use Prim.Native.Nat.{ℕ, ◌<◌}
use mathlib.Core.Path.{◌≡◌, refl, ap, sym, subst, ◌∙◌}
use mathlib.Core.Bool.{Bool, false}
use mathlib.Core.List.{List}
use mathlib.Core.Logic.{◌↔◌}
use native.Mathlib.Omega.{arith}
use lib.IntN.{ℤ}
use lib.ListN.{length}
use Rattle.lists.specs.EachOnce.{EachOnce}
use Rattle.lists.specs.Entry.{nth}
use Rattle.lists.proofs.Values.{values_at}
use Rattle.calls.specs.Parts.{padded}
use Rattle.calls.proofs.Refusals.{one_fail, one_miss, one_none}
use Rattle.graph.specs.declared.Code.{Code}
use Rattle.elimination.specs.Elimination.{State, reduced, infos, table}
use Rattle.elimination.specs.Graph.{Graph}
use Rattle.elimination.specs.Held.{held}
use Rattle.lent.specs.LentCode.{NotRefused}
use Rattle.lent.specs.Malformed.{unused_hold}
use Rattle.lent.specs.Misencoded.{graph_in}
use Rattle.graph.specs.Parts.{Parts}
use Rattle.lent.specs.Sound.{Fits, Formed, Encoded, IsSound}
use Rattle.graph.proofs.Proper.{Proper, order_padded, order_each, infos_long, table_long, parity_padded, info_padded, table_padded}
use Rattle.elimination.proofs.Reduced.{reduced_order}
use Rattle.lent.proofs.Encoded.{formed_inside}
use Rattle.lent.proofs.SoundCode.{accepted, sound}
use Rattle.lent.proofs.SoundPasses.{sound_passes}
use Rattle.words.specs.Encoding.{encoding, info_symbols}
use Rattle.words.specs.Word.{Symbols}
use Rattle.words.proofs.Theorem.{same_words}
use Rattle.peeling.specs.Peeling.{picks_of}
use Rattle.peeling.specs.WithPeeledInfo.{order_of, code_in, parts_in}
use Rattle.peeling.proofs.PeeledOrder.{order_length, order_once}
use Rattle.lent.proofs.SoundProper.{sound_proper}
use Rattle.peeling.proofs.Turns.{picks_inside, picks_distinct}

module _ (c : Code) (p : Parts) (r : NotRefused c p) (order : List ℕ) (long : length order ≡ c.n) (each : EachOnce c.n (nth order)) where
  abbrev g : Graph
  g = graph_in c p

  abbrev s : State
  s = reduced g order

  w : IsSound c p
  w = sound c p r

  ok : Proper g
  ok = sound_proper c p w

  long' : length order ≡ g.n
  unfolding held
  long' = long

  each' : EachOnce g.n (nth order)
  unfolding held
  each' = each

  fits : Fits (code_in c p order) (parts_in c p order)
  unfolding code_in parts_in
  fits = record {
    n_small = w.fits.n_small;
    m_small = w.fits.m_small;
    parts = record {
      var = w.fits.parts.var;
      coef = w.fits.parts.coef;
      row = w.fits.parts.row;
      start = w.fits.parts.start;
      col = w.fits.parts.col;
      order = (order_padded g ok order long' each').whole;
      parity = (parity_padded g ok order long' each').whole;
      info = (info_padded g ok order long' each').whole;
      a = (table_padded g ok order long' each').whole;
    };
  }

  formed : Formed (code_in c p order) (parts_in c p order)
  unfolding code_in parts_in held
  formed = record {
    few = w.formed.few;
    rows = w.formed.rows;
    vars = w.formed.vars;
    once = w.formed.once;
    coefs = w.formed.coefs;
    columns = w.formed.columns;
    places = w.formed.places;
    own = w.formed.own;
    order = order_each g ok order long' each';
  }

  encoded : Encoded (code_in c p order) (parts_in c p order)
  unfolding code_in parts_in held
  encoded = record {
    rank = ap (λ (t : State). t.rank) back;
    parity = λ i h. (parity_padded g ok order long' each').front i h ∙ values_at s.pivot s.rank i 0 h ∙ ap (λ (t : State). t.pivot i) back;
    info = subst (λ (t : State). (k : ℕ) → k < length (infos c.n t) → nth (padded 256 0 (infos c.n s)) k ≡ nth (infos c.n t) k) back
        (λ k h. (info_padded g ok order long' each').front k (omega (arith, infos_long g ok order long' each')));
    a = subst (λ (t : State). (k : ℕ) → k < length (table c.n t) → nth (padded 16384 0 (table c.n s)) k ≡ nth (table c.n t) k) back
        (λ k h. (table_padded g ok order long' each').front k (omega (arith, table_long g ok order long' each')));
  }
    where
      back : s ≡ reduced g (padded 256 0 order)
      back = sym (reduced_order g (padded 256 0 order) order (order_padded g ok order long' each').front)

  unused : unused_hold (code_in c p order) (parts_in c p order) ≡ false
  unfolding unused_hold code_in parts_in held
  unused =
      let u = one_fail _ (accepted c p r).unused in
      sym
      (one_miss _ refl u.0
      (one_miss _ refl u.1.0
      (one_miss _ refl u.1.1.0
      (one_miss _ refl u.1.1.1.0
      (one_miss _ refl u.1.1.1.1.0
      (one_miss _ refl (order_padded g ok order long' each').unused
      (one_miss _ refl (parity_padded g ok order long' each').unused
      (one_miss _ refl (info_padded g ok order long' each').unused
      (one_miss _ refl (table_padded g ok order long' each').unused one_none)))))))))

  pub recoded_not_refused : NotRefused (code_in c p order) (parts_in c p order)
  recoded_not_refused = sound_passes (code_in c p order) (parts_in c p order) (record { fits = fits; formed = formed; encoded = encoded }) unused

  -- the graph is the same
  pub recoded_graph : graph_in (code_in c p order) (parts_in c p order) ≡ graph_in c p
  unfolding code_in parts_in
  recoded_graph = refl

-- ---- in the order that peeling gives

module _ (last : Bool) (c : Code) (p : Parts) (prefer : List ℤ) (w : IsSound c p) where
  below : (t : ℕ) → t < length (picks_of last (graph_in c p) prefer) → nth (picks_of last (graph_in c p) prefer) t < c.n
  unfolding held
  below = picks_inside last (graph_in c p) prefer (formed_inside c p w.formed)

  pub peeled_long : length (order_of last c p prefer) ≡ c.n
  unfolding order_of
  peeled_long = order_length c.n (picks_of last (graph_in c p) prefer) below (picks_distinct last (graph_in c p) prefer (formed_inside c p w.formed))

  pub peeled_once : EachOnce c.n (nth (order_of last c p prefer))
  unfolding order_of
  peeled_once = order_once c.n (picks_of last (graph_in c p) prefer) below (picks_distinct last (graph_in c p) prefer (formed_inside c p w.formed))

module _ (last : Bool) (c : Code) (p : Parts) (prefer : List ℤ) (r : NotRefused c p) where
  pub peeled_not_refused : NotRefused (code_in c p (order_of last c p prefer)) (parts_in c p (order_of last c p prefer))
  peeled_not_refused = recoded_not_refused c p r (order_of last c p prefer) (peeled_long last c p prefer (sound c p r)) (peeled_once last c p prefer (sound c p r))

  -- symbols are the encoding of their own information symbols in the old order exactly when they are in the new
  pub peeled_same_words : (x : List ℕ) → Symbols c.n x
      → (x ≡ encoding (graph_in c p) p.order (info_symbols (graph_in c p) p.order x))
      ↔ (x ≡ encoding (graph_in c p) (parts_in c p (order_of last c p prefer)).order (info_symbols (graph_in c p) (parts_in c p (order_of last c p prefer)).order x))
  unfolding code_in parts_in
  peeled_same_words x y =
      same_words c (code_in c p (order_of last c p prefer)) p (parts_in c p (order_of last c p prefer)) r peeled_not_refused
      (sym (recoded_graph c p r (order_of last c p prefer) (peeled_long last c p prefer (sound c p r)) (peeled_once last c p prefer (sound c p r)))) x y
