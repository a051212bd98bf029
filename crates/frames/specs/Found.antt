-- What a frame's decoding finds on a code, by a map of its layout: the word by belief propagation on the metrics with the priors, or by the list, and the bits of that word. nb.rs,
-- `decode_bits_prior_at`.
-- Assumes nothing.
use Rattle.std.specs.Prelude.{ℕ, Bool, false, not, ◌&&◌, List, [], ◌∷◌, Float}
use Rattle.lists.specs.Choice.{pick}
use Rattle.lists.specs.Entry.{nth}
use Rattle.calls.specs.declared.Refusal.{Refusal}
use Rattle.calls.specs.declared.Refusal.TheVariants.{WideCheck, NoWord, Padding}
use Rattle.lent.specs.Held.{Held}
use Rattle.lent.specs.LentCode.{graph_of}
use Rattle.words.specs.Encoding.{information_of}
use Rattle.layouts.specs.declared.BitMap.{BitMap}
use Rattle.layouts.specs.Symbols.{own_bits, padding_used}
use Rattle.priors.specs.Present.{present}
use Rattle.priors.specs.WithPriors.{with_priors}
use Rattle.candidates.specs.ListWord.{list_word}
use Rattle.decoders.specs.BeliefPropagation.{satisfied, rounds, wide}
use Rattle.decoders.specs.DecodeSoft.{last_decisions, last_posteriors}
use Rattle.frames.specs.declared.decode.Fallback.{Fallback}
use Rattle.frames.specs.declared.decode.Fallback.TheVariants.{Bp, List as ByList}
use Rattle.frames.specs.SlotSymbols.{layout_in, word_bits}

-- a frame has 52 known symbols, 100 rounds and list width 10
abbrev pub known : ℕ
known = 52

abbrev pub limit : ℕ
limit = 100

abbrev pub width : ℕ
width = 10

-- the metrics with the priors: packed symbol j stands at the information position of its slot
unfoldable pub frame_metrics : Held → BitMap → List Float → List Float → List Float
frame_metrics l map metrics prior =
    let t = layout_in l map in
    with_priors (nth t.bit) (λ j. nth (information_of (graph_of l) l.parts.order) (nth t.slot j)) prior metrics

-- ---- from here on `m` is these metrics

-- the rounds: whether one satisfies all checks, how many are made, and the last one's posteriors
abbrev pub frame_satisfied : Held → List Float → Bool
frame_satisfied l m = satisfied l.code l.parts m known limit

abbrev pub frame_rounds : Held → List Float → ℕ
frame_rounds l m = rounds l.code l.parts m known limit

abbrev pub frame_posteriors : Held → List Float → List Float
frame_posteriors l m = last_posteriors l.code l.parts m known limit

-- whether the list is asked where none does; blind decoding, that without a prior, never asks it
abbrev pub asks_list : Fallback → List Float → Bool
asks_list Bp prior = false
asks_list ByList prior = present prior

-- the word: the decisions of the first round that satisfies all checks, or the list's around the last posteriors
unfoldable pub frame_word : Held → List Float → List ℕ
frame_word l m =
    pick (frame_satisfied l m) (last_decisions l.code l.parts m known limit)
    (list_word (graph_of l) l.parts.order (frame_posteriors l m) m width)

-- 9; 10, where the list is not asked; and 11, where a padding bit of the word is not 0
abbrev pub frame_tests : Held → BitMap → List Float → List Float → Fallback → List (Bool × Refusal)
frame_tests l map m prior fallback =
    (wide l.code.m l.parts.row, WideCheck)
    ∷ (not (frame_satisfied l m) && not (asks_list fallback prior), NoWord)
    ∷ (padding_used (word_bits l map (frame_word l m)), Padding)
    ∷ []

-- the frame's bits
abbrev pub frame_bits : Held → BitMap → List Float → List ℕ
frame_bits l map m = own_bits (word_bits l map (frame_word l m))
