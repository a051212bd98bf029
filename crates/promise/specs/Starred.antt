-- Values on each edge that the library's user marked with a star, for proof, as one table. A row has what the call gives, then what the user says.
-- Assumes nothing.
use Rattle.std.specs.Prelude.{ℕ, ◌≡◌, List, [], ◌∷◌, Result, Ok, Err, length, replicate}
use Rattle.lists.specs.Entry.{nth}
use Rattle.lists.specs.Values.{values}
use Rattle.calls.specs.declared.Refusal.{Refusal}
use Rattle.calls.specs.Refusal.{number_of, first_of, answered}
use Rattle.calls.specs.Parts.{written}
use Rattle.field.specs.Field.{product}
use Rattle.graph.specs.Built.{built}
use Rattle.graph.specs.Descending.{descending}
use Rattle.graph.specs.EvenDegrees.{even_degree, even_refusals}
use Rattle.graph.specs.New.{numbers}
use Rattle.graph.specs.Parts.{parts}
use Rattle.lent.specs.Held.{Held}
use Rattle.words.specs.Encode.{encoded}
use Rattle.vectors.specs.Float32.{zero32}
use Rattle.rounds.specs.Work.{vectors_length}
use Rattle.layouts.specs.declared.BitMap.TheVariants.{Spread}
use Rattle.layouts.specs.Maps.{layout_of}
use Rattle.layouts.specs.Packing.{bits_to_syms}
use Rattle.decoders.specs.Decode.{Decoded, decode}
use Rattle.frames.specs.BitsToSyms.{bits_to_syms_refusals}
use Rattle.promise.specs.Calls.{encode_answer}

-- what a reader of the table sees of a call: the numbers that it gives, or the one that turns it down
pub data Value : Type 0 where
  gives : List ℕ → Value
  refused : ℕ → Value

abbrev pub value_of : {A : Type 0} → Result A Refusal → List ℕ → Value
value_of (Ok found) part = gives part
value_of (Err r) part = refused (number_of r)

-- the two sides of each row are equal
abbrev pub Agree : List (Value × Value) → Type 0
Agree [] = Unit
Agree (r ∷ rs) = (r.0 ≡ r.1) × Agree rs

-- output parts hold 9 at entry, which no row has
abbrev pub nines : ℕ → List ℕ
nines n = replicate n 9

-- the code that `new` answers, in the parts that it leaves
abbrev pub code_from : ℕ → ℕ → List ℕ → ℕ → Held
code_from n m degrees seed = record { code = numbers (built n m degrees seed) (descending n); parts = parts (built n m degrees seed) (descending n) }

-- the degrees of three symbols in no check
abbrev pub edgeless : List ℕ
edgeless = 0 ∷ 0 ∷ 0 ∷ []

-- work parts of the lengths that the calls ask for
pub record WorkFits (h pivots vectors : ℕ) : Type 0 where
  pub h_long : h ≡ 65536
  pub pivots_long : pivots ≡ 256
  pub vectors_long : vectors ≡ vectors_length

-- whatever the seed, the known count and the degrees of a layout's slots; h, pivots and vectors are the lengths of the work parts
module _ (seed known : ℕ) (degrees : List ℕ) (h pivots vectors : ℕ) where
  abbrev pub multiplied : ℕ → ℕ → Value
  multiplied a b = gives (product a b ∷ [])

  abbrev pub encoding_of : List ℕ → Value
  encoding_of u =
      let l = code_from 3 0 edgeless seed in
      let a = encode_answer l h pivots (nines 3) u in
      value_of a (written a (nines 3) (encoded l u))

  abbrev pub decoding_in : ℕ → Value
  decoding_in limit =
      let l = code_from 1 1 (1 ∷ []) seed in
      let d : Decoded = decode l.code l.parts (replicate 32 zero32) known limit (nines 1) h pivots vectors in
      value_of d.answer.answer d.word

  -- where the tables of the map Spread have a padded bit
  abbrev pub spread : ℕ → ℕ
  spread i = nth (layout_of Spread degrees).pos i

  -- into a part of n
  abbrev pub packed : ℕ → List ℕ → Value
  packed n b =
      let a : Result (Unit {0}) Refusal = answered (first_of (bits_to_syms_refusals (length b) (length (nines n)))) tt in
      value_of a (written a (nines n) (bits_to_syms b))

  abbrev pub evened : ℕ → ℕ → Value
  evened n e =
      let a : Result (Unit {0}) Refusal = answered (first_of (even_refusals n (nines n))) tt in
      value_of a (written a (nines n) (values n (even_degree n e)))

  abbrev pub starred : List (Value × Value)
  starred =
      -- "16·2 = 5. 31·27 = 1. 31·31 = 18"
      (multiplied 16 2, gives (5 ∷ []))
      ∷ (multiplied 31 27, gives (1 ∷ []))
      ∷ (multiplied 31 31, gives (18 ∷ []))
      -- "n = 3, m = 0: symbols 5, 37, 255 encode to 5, 5, 31"
      ∷ (encoding_of (5 ∷ 37 ∷ 255 ∷ []), gives (5 ∷ 5 ∷ 31 ∷ []))
      -- "n = 1, m = 1, degree 1, metrics all 0.0, one round: word 0. Zero rounds, same code: 10"
      ∷ (decoding_in 1, gives (0 ∷ []))
      ∷ (decoding_in 0, refused 10)
      -- "Spread: 1 to 53, 255 to 255, 256 to 48"
      ∷ (gives (spread 1 ∷ spread 255 ∷ spread 256 ∷ []), gives (53 ∷ 255 ∷ 48 ∷ []))
      -- "Bits 1,0,1 give symbol 20; six ones give 31, 16"
      ∷ (packed 1 (1 ∷ 0 ∷ 1 ∷ []), gives (20 ∷ []))
      ∷ (packed 2 (1 ∷ 1 ∷ 1 ∷ 1 ∷ 1 ∷ 1 ∷ []), gives (31 ∷ 16 ∷ []))
      -- "Degrees for 4 and 10: 3, 3, 2, 2"
      ∷ (evened 4 10, gives (3 ∷ 3 ∷ 2 ∷ 2 ∷ []))
      -- "No bits, no symbols"
      ∷ (packed 0 [], gives [])
      ∷ []

abbrev pub StarredValues : Type 0
StarredValues = (seed known : ℕ) (degrees : List ℕ) (h pivots vectors : ℕ) → WorkFits h pivots vectors → Agree (starred seed known degrees h pivots vectors)
