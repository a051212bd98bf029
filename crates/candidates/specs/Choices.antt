-- Which of its two likeliest values a word has at each slot: one of the two, or the one that the digits of a number choose. Ours.
-- Assumes nothing.
use Rattle.std.specs.Prelude.{ℕ, ◌<◌, ◌≡◌, ◌⊎◌, List, Float, length}
use Rattle.lists.specs.Entry.{nth}
use Rattle.elimination.specs.Graph.{Graph}
use Rattle.words.specs.Encoding.{information_of, info_symbols}
use Rattle.candidates.specs.Alternatives.{likeliest_at, second_at}
use Rattle.candidates.specs.Gray.{digit}
use Rattle.candidates.specs.ListWord.{alternatives, slot_of}

module _ (g : Graph) (order : List ℕ) (posteriors : List Float) (width : ℕ) where
  abbrev positions : List ℕ
  positions = information_of g order

  -- how many alternatives there are, and their slots
  abbrev all : ℕ
  all = alternatives g order posteriors width

  abbrev slot : ℕ → ℕ
  slot = slot_of g order posteriors width

  -- a is the likeliest value at slot t, or the second likeliest where an alternative has the slot
  abbrev pub OneOfTwo : ℕ → ℕ → Type 0
  OneOfTwo t a = (a ≡ likeliest_at posteriors (nth positions) t) ⊎ ((a ≡ second_at posteriors (nth positions) t) × ((j : ℕ) × (j < all) × (slot j ≡ t)))

  -- x has at the slot of alternative j the second likeliest value where digit j of c is 1, and the likeliest at a slot of which that holds of no alternative
  pub record Chosen (c : ℕ) (x : List ℕ) : Type 0 where
    pub second : (j : ℕ) → j < all → digit c j ≡ 1 → nth (info_symbols g order x) (slot j) ≡ second_at posteriors (nth positions) (slot j)
    pub first : (t : ℕ) → t < length positions → ((j : ℕ) → j < all → slot j ≡ t → digit c j ≡ 0) → nth (info_symbols g order x) t ≡ likeliest_at posteriors (nth positions) t
