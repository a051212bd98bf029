-- The word that list decoding finds by the parts in which a code is held. Ours; laws alone cite it, and it is `list_word`.
-- Assumes nothing.
use Rattle.std.specs.Prelude.{ℕ, ◌-◌, ◌^◌, min, List, Float}
use Rattle.lists.specs.Entry.{nth}
use Rattle.lists.specs.Values.{values}
use Rattle.words.specs.EncoderParts.{encoded_by}
use Rattle.candidates.specs.Alternatives.{likeliest_at, difference_at, margin_at, least_sure}
use Rattle.candidates.specs.GeneratorRows.{column}
use Rattle.candidates.specs.Tried.{tried}

module _ (n r : ℕ) (parity info a : List ℕ) (posteriors : List Float) where
  -- how many information positions there are
  abbrev k : ℕ
  k = n - r

  unfoldable pub held_base : List ℕ
  held_base = encoded_by n r k parity info a (values k (likeliest_at posteriors (nth info)))

  unfoldable pub held_slots : ℕ → List ℕ
  held_slots width = least_sure k (margin_at posteriors (nth info)) (min width k)

  unfoldable pub held_generator : ℕ → ℕ → List ℕ
  held_generator width j = let s = nth (held_slots width) j in column n r k parity info a s (difference_at posteriors (nth info) s)

  unfoldable pub held_word : List Float → ℕ → List ℕ
  held_word metrics width = (tried metrics (held_generator width) held_base (2 ^ min width k - 1)).best
