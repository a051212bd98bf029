-- The starred values hold: each row of the table, by one law.
-- Assumes nothing.
use Prim.Native.Nat.{ℕ, zero, suc, ◌*◌, ◌≤◌, ◌<◌}
use mathlib.Core.Path.{◌≡◌, refl, ap, ap₂, ◌∙◌}
use mathlib.Core.List.{List, [], ◌∷◌}
use native.Mathlib.Omega.{arith}
use lib.ListN.{length, replicate, length-replicate}
use Rattle.lists.specs.Among.{among}
use Rattle.lists.specs.AnyBelow.{any_below}
use Rattle.lists.specs.Choice.{pick}
use Rattle.lists.specs.Entry.{nth}
use Rattle.lists.specs.Iter.{iter}
use Rattle.lists.specs.Keep.{keep_below}
use Rattle.lists.specs.Lowest.{lowest}
use Rattle.lists.specs.Placed.{placed}
use Rattle.lists.specs.Total.{total}
use Rattle.lists.specs.Values.{values}
use Rattle.field.specs.Field.{product}
use Rattle.elimination.specs.Elimination.{column_turn, pivot_row, eliminated, reduced, infos}
use Rattle.elimination.specs.Held.{held}
use Rattle.graph.specs.declared.Code.{Code}
use Rattle.graph.specs.Buildable.{Buildable}
use Rattle.graph.specs.Built.{weighted_checks, built}
use Rattle.graph.specs.New.{numbers}
use Rattle.graph.specs.Parts.{Parts}
use Rattle.lent.specs.Held.{Held}
use Rattle.lent.specs.Misencoded.{graph_in}
use Rattle.lent.proofs.NotRefused.{built_not_refused}
use Rattle.words.specs.Encoding.{information_of, encoding}
use Rattle.vectors.specs.Float32.{zero32}
use Rattle.layouts.specs.Maps.{layout_of, pos_of}
use Rattle.layouts.specs.Packing.{bits_to_syms, symbol_at, joined}
use Rattle.decoders.specs.declared.Decoding.{Decoding}
use Rattle.decoders.specs.Decode.{Decoded, decode}
use Rattle.decoders.specs.DecodeSoft.{DecodedSoft, decode_soft}
use Rattle.decoders.proofs.Given.{decode_given}
use Rattle.decoders.proofs.Starred.{LengthsFit, starred_built}
use Rattle.promise.specs.Starred.{gives, refused, value_of, Agree, nines, code_from, edgeless, encoding_of, decoding_in, spread, packed, evened, WorkFits, starred}
use Rattle.promise.proofs.Calls.{encode_answers}

-- ---- no checks: every position is one of information

flat_buildable : Buildable 3 0 edgeless
unfolding total iter
flat_buildable = record { n_small = omega arith; m_small = omega arith; long = refl; low = low; sum = omega arith }
  where
    low : (v : ℕ) → v < 3 → nth edgeless v ≤ 0
    low zero h = omega arith
    low (suc zero) h = omega arith
    low (suc (suc zero)) h = omega arith
    low (suc (suc (suc v))) h = omega arith

module _ (edges rank : ℕ) (p : Parts) where
  abbrev c : Code
  c = record { n = 3; m = 0; edges = edges; rank = rank }

  all_information : information_of (graph_in c p) p.order ≡ 0 ∷ 1 ∷ 2 ∷ []
  unfolding information_of infos reduced eliminated column_turn pivot_row lowest pick held values iter keep_below among any_below
  all_information = refl

  three_encoded : encoding (graph_in c p) p.order (5 ∷ 37 ∷ 255 ∷ []) ≡ 5 ∷ 5 ∷ 31 ∷ []
  unfolding encoding information_of infos reduced eliminated column_turn pivot_row lowest pick held values iter keep_below among any_below placed
  three_encoded = refl

-- ---- the rows

module _ (seed known : ℕ) (degrees : List ℕ) (h pivots vectors : ℕ) (fit : WorkFits h pivots vectors) where
  encoded_is : encoding_of seed known degrees h pivots vectors (5 ∷ 37 ∷ 255 ∷ []) ≡ gives (5 ∷ 5 ∷ 31 ∷ [])
  unfolding numbers built weighted_checks values
  encoded_is =
      let l : Held = code_from 3 0 edgeless seed in
      let few = ap length (all_information l.code.edges l.code.rank l.parts) in
      let w = encode_answers l h pivots (built_not_refused 3 0 edgeless seed flat_buildable) (nines 3) (nines 3)
      (record { word_long = refl; symbols_long = refl; h_long = fit.h_long; pivots_long = fit.pivots_long }) (5 ∷ 37 ∷ 255 ∷ []) (omega (arith, few)) in
      ap₂ value_of w.accepts (w.leaves ∙ three_encoded l.code.edges l.code.rank l.parts)

  lengths : LengthsFit (nines 1) (replicate 32 zero32) h pivots vectors
  lengths = record {
    word_long = refl;
    given_long = length-replicate 32 zero32;
    matrix_long = fit.h_long;
    pivots_long = fit.pivots_long;
    vectors_long = fit.vectors_long;
  }

  -- the call without posteriors answers and leaves what the other does
  module _ (limit : ℕ) where
    abbrev one : Held
    one = code_from 1 1 (1 ∷ []) seed

    abbrev hard : Decoded
    hard = decode one.code one.parts (replicate 32 zero32) known limit (nines 1) h pivots vectors

    abbrev soft : DecodedSoft
    soft = decode_soft one.code one.parts (replicate 32 zero32) known limit (nines 1) (replicate (one.code.n * 32) zero32) h pivots vectors

    same : (hard.answer ≡ soft.answer) × (hard.word ≡ soft.word)
    unfolding decode
    same = decode_given one.code one.parts (replicate 32 zero32) known limit (nines 1) h pivots vectors {a = hard.answer} refl refl refl

  one_is : decoding_in seed known degrees h pivots vectors 1 ≡ gives (0 ∷ [])
  unfolding numbers built
  one_is =
      let w = starred_built seed in
      let s = same 1 in
      ap₂ value_of
      (ap (λ (d : Decoding). d.answer) (s.0 ∙ w.one_round known (nines 1) (replicate 32 zero32) h pivots vectors lengths))
      (s.1 ∙ w.one_word known (nines 1) (replicate 32 zero32) h pivots vectors lengths)

  none_is : decoding_in seed known degrees h pivots vectors 0 ≡ refused 10
  unfolding numbers built
  none_is =
      ap (λ (a : Decoding). value_of a.answer (hard 0).word) ((same 0).0 ∙ (starred_built seed).no_round known (nines 1) (replicate 32 zero32) h pivots vectors lengths)

  evened_is : evened seed known degrees h pivots vectors 4 10 ≡ gives (3 ∷ 3 ∷ 2 ∷ 2 ∷ [])
  unfolding values pick
  evened_is = refl

  spread_is : gives (spread seed known degrees h pivots vectors 1 ∷ spread seed known degrees h pivots vectors 255 ∷ spread seed known degrees h pivots vectors 256 ∷ []) ≡ gives (53 ∷ 255 ∷ 48 ∷ [])
  unfolding layout_of pos_of values
  spread_is = refl

  packed_is : (packed seed known degrees h pivots vectors 1 (1 ∷ 0 ∷ 1 ∷ []) ≡ gives (20 ∷ [])) × ((packed seed known degrees h pivots vectors 2 (1 ∷ 1 ∷ 1 ∷ 1 ∷ 1 ∷ 1 ∷ []) ≡ gives (31 ∷ 16 ∷ []))
      × (packed seed known degrees h pivots vectors 0 [] ≡ gives []))
  unfolding bits_to_syms symbol_at joined values iter
  packed_is = (refl, (refl, refl))

  pub starred_values : Agree (starred seed known degrees h pivots vectors)
  unfolding product
  starred_values = (refl, (refl, (refl, (encoded_is, (one_is, (none_is, (spread_is, (packed_is.0, (packed_is.1.0, (evened_is, (packed_is.1.1, tt)))))))))))
