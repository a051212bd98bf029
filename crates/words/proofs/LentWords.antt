-- What a lent code that is not refused gives the calls: its information positions, its parity positions and its table, and so the encoding.
-- Assumes nothing.
use Prim.Native.Nat.{ℕ, ◌+◌, ◌-◌, ◌*◌, ◌<◌, ◌≤◌}
use mathlib.Core.Path.{◌≡◌, refl, sym, ap, ap₂, ◌∙◌}
use mathlib.Core.List.{List, map}
use native.Mathlib.Omega.{arith}
use lib.ListN.{length, replicate, length-map, get_or-eq_default}
use Rattle.lists.specs.Chain.{start_of}
use Rattle.lists.specs.Entry.{nth}
use Rattle.lists.specs.Placed.{placed}
use Rattle.lists.specs.Values.{values}
use Rattle.lists.proofs.Chain.{start_is, start_even, start_of-le, chain_at}
use Rattle.lists.proofs.Placed.{placed_ext}
use Rattle.lists.proofs.Values.{values_at, values_ext, values_own, map_entries}
use Rattle.field.specs.Field.{product}
use Rattle.field.specs.FieldSum.{field_sum}
use Rattle.field.proofs.FieldSum.{sum_ext, sum_past}
use Rattle.field.proofs.Product.{product-zero, product-mod_right}
use Rattle.elimination.specs.Elimination.{infos, table}
use Rattle.elimination.specs.Held.{held}
use Rattle.elimination.proofs.Infos.{info_inside, table_fits}
use Rattle.graph.specs.declared.Code.{Code}
use Rattle.graph.specs.Parts.{Parts}
use Rattle.lent.specs.Misencoded.{graph_in, reduced_in}
use Rattle.lent.specs.Sound.{IsSound}
use Rattle.lent.proofs.SoundCode.{sound_columns, sound_infos, sound_eliminated}
use Rattle.words.specs.Encoding.{information_of, symbol, parity_symbol, encoding, info_symbols}
use Rattle.words.specs.EncoderParts.{EncoderParts, encoded_by}
use Rattle.words.proofs.Encodings.{info_values}

module _ (c : Code) (p : Parts) (w : IsSound c p) where
  abbrev positions : List ℕ
  positions = information_of (graph_in c p) p.order

  -- how many information positions there are
  abbrev count : ℕ
  count = c.n - c.rank

  positions_are : positions ≡ infos c.n (reduced_in c p)
  unfolding information_of held
  positions_are = refl

  pub positions-length : length positions ≡ count
  positions-length = ap length positions_are ∙ sound_infos c p w

  pub positions_at : (t : ℕ) → t < count → nth p.info t ≡ nth positions t
  positions_at t h = w.encoded.info t (omega (arith, sound_infos c p w)) ∙ ap (λ (l : List ℕ). nth l t) (sym positions_are)

  pub positions_inside : (t : ℕ) → t < count → nth p.info t < c.n
  positions_inside t h =
      let k : t < length (infos c.n (reduced_in c p)) = omega (arith, sound_infos c p w) in
      omega (arith, w.encoded.info t k, info_inside c.n (reduced_in c p) t k)

  pub positions_all : values count (nth p.info) ≡ positions
  positions_all =
      values_ext count (nth p.info) (nth positions) 0 positions_at ∙ ap (λ (k : ℕ). values k (nth positions)) (sym positions-length) ∙ values_own 0 positions

  pub symbols_all : (x : List ℕ) → values count (λ t. nth x (nth p.info t)) ≡ info_symbols (graph_in c p) p.order x
  symbols_all x =
      values_ext count (λ t. nth x (nth p.info t)) (λ t. nth x (nth positions t)) 0 (λ t h. ap (nth x) (positions_at t h))
      ∙ ap (λ (k : ℕ). values k (λ t. nth x (nth positions t))) (sym positions-length) ∙ sym (info_values (graph_in c p) p.order x)

  pub parity_inside : (i : ℕ) → i < c.rank → nth p.parity i < c.n
  parity_inside i h = omega (arith, w.encoded.parity i h, (sound_eliminated c p w).inside i (omega (arith, w.encoded.rank)))

  -- the rows of the table are as long as there are information positions
  pub table_room : c.rank * count ≤ 16384
  table_room = omega (arith, table_fits (sound_eliminated c p w) w.fits.n_small, ap₂ (λ (i k : ℕ). i * k) w.encoded.rank (sym (sound_infos c p w)))

  -- what an encoder asks of its parts, for a word of n symbols
  pub EncoderParts-sound : (n : ℕ) → n ≡ c.n → EncoderParts n c.rank count p.parity p.info p.a
  EncoderParts-sound n e =
      let b = sound_columns c p w in
      record {
        k_small = omega (arith, w.fits.n_small);
        r_small = omega (arith, b, w.fits.n_small);
        info_long = omega (arith, w.fits.n_small, w.fits.parts.info);
        info_inside = λ t h. omega (arith, e, positions_inside t h);
        parity_long = omega (arith, b, w.fits.n_small, w.fits.parts.parity);
        parity_inside = λ i h. omega (arith, e, parity_inside i h);
        table_long = w.fits.parts.a;
        table_room = table_room;
      }

  -- row i of the table
  abbrev factors : ℕ → List ℕ
  factors i = map ((reduced_in c p).matrix i) (infos c.n (reduced_in c p))

  factors-length : (i : ℕ) → length (factors i) ≡ count
  factors-length i = length-map (infos c.n (reduced_in c p)) ((reduced_in c p).matrix i) ∙ sound_infos c p w

  factors_start : (i : ℕ) → start_of factors i ≡ i * count
  factors_start i = start_even count i factors (λ j h. factors-length j)

  pub factor_at : (i t : ℕ) → i < c.rank → t < count → nth p.a (i * count + t) ≡ (reduced_in c p).matrix i (nth positions t)
  unfolding table
  factor_at i t h l =
      let s = reduced_in c p in
      let r : i < s.rank = omega (arith, w.encoded.rank) in
      let k : t < length (factors i) = omega (arith, factors-length i) in
      ap (λ (j : ℕ). nth p.a (j + t)) (sym (factors_start i))
      ∙ w.encoded.a (start_of factors i + t) (omega (arith, start_of-le factors s.rank i r, start_is factors s.rank))
      ∙ chain_at factors s.rank i t 0 r k
      ∙ ap (λ (l : List ℕ). nth l t) (map_entries (s.matrix i) 0 (infos c.n s))
      ∙ values_at (λ k. s.matrix i (nth (infos c.n s) k)) (length (infos c.n s)) t 0 (omega (arith, sound_infos c p w))
      ∙ ap (λ (q : List ℕ). s.matrix i (nth q t)) (sym positions_are)

  -- ---- the encoding

  module _ (syms : List ℕ) (few : length syms ≤ count) where
    -- parity symbol i as a sum over the given symbols
    abbrev summed : ℕ → ℕ
    summed i = field_sum (length syms) (λ t. product (nth p.a (i * count + t)) (nth syms t))

    summed_is : (i : ℕ) → i < c.rank → summed i ≡ parity_symbol (reduced_in c p) positions (symbol syms) i
    summed_is i h =
        sum_past (length syms) count (λ t. product (nth p.a (i * count + t)) (nth syms t)) few
        (λ t l. ap (product (nth p.a (i * count + t))) (get_or-eq_default syms 0 {n = t} l) ∙ product-zero (nth p.a (i * count + t)))
        ∙ sum_ext count (λ t. product (nth p.a (i * count + t)) (nth syms t)) (λ t. product ((reduced_in c p).matrix i (nth positions t)) (symbol syms t))
        (λ t l. sym (product-mod_right (nth p.a (i * count + t)) (nth syms t)) ∙ ap (λ (a : ℕ). product a (symbol syms t)) (factor_at i t h l))
        ∙ ap (λ (k : ℕ). field_sum k (λ t. product ((reduced_in c p).matrix i (nth positions t)) (symbol syms t))) (sym positions-length)

    pub encoded_is : encoded_by c.n c.rank count p.parity p.info p.a syms ≡ encoding (graph_in c p) p.order syms
    unfolding encoding encoded_by
    encoded_is =
        placed_ext c.rank (nth p.parity) (reduced_in c p).pivot summed (parity_symbol (reduced_in c p) positions (symbol syms)) _ w.encoded.parity summed_is
        ∙ ap₂ (λ (r : ℕ) (x : List ℕ). placed r (reduced_in c p).pivot (parity_symbol (reduced_in c p) positions (symbol syms)) x) w.encoded.rank
        (placed_ext count (nth p.info) (nth positions) (symbol syms) (symbol syms) (replicate c.n 0) positions_at (λ t h. refl)
        ∙ ap₂ (λ (k n : ℕ). placed k (nth positions) (symbol syms) (replicate n 0)) (sym positions-length) same_n)
      where
        same_n : c.n ≡ (graph_in c p).n
        same_n = unfold held in refl
