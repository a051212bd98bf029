-- What stands in a code's information slots, of every code that is not refused and has 52 information positions or more: in the tones of a frame its symbols, and in the slots past
-- the 52nd 0; and a word with 0 in these is the tones of the bits that are read from it.
-- Assumes nothing.
use Prim.Native.Nat.{ℕ, ◌%◌, ◌<◌, ◌≤◌}
use mathlib.Core.Path.{◌≡◌, sym, ap, ◌∙◌}
use mathlib.Core.Logic.{◌⊎◌, ⊎_elim}
use mathlib.Core.List.{List}
use native.Mathlib.Nat.{mod-eq_of_lt}
use native.Mathlib.Omega.{arith}
use lib.ListN.{length, get_or-eq_default}
use lib.Seq.{ext_get_or, get_or-take, length-take-le}
use Rattle.lists.specs.Entry.{nth}
use Rattle.lists.proofs.Cases.{less_or_not}
use Rattle.lists.proofs.Values.{values_at}
use Rattle.elimination.specs.Held.{held}
use Rattle.lent.specs.Held.{Held}
use Rattle.lent.specs.LentCode.{graph_of}
use Rattle.words.specs.Encode.{encoded}
use Rattle.words.specs.Encoding.{information_of, symbol}
use Rattle.words.specs.InfoOf.{own_symbols}
use Rattle.words.specs.K.{k_of}
use Rattle.words.specs.Word.{Symbols, Word}
use Rattle.words.proofs.Encodings.{info_length, info_at}
use Rattle.words.specs.Promise.{Words}
use Rattle.layouts.specs.declared.BitMap.{BitMap}
use Rattle.layouts.specs.Promise.{Layouts}
use Rattle.layouts.proofs.Theorem.{layouts}
use Rattle.frames.specs.SlotSymbols.{slot_degrees, layout_in, slot_symbols}

pub layout_laws_in : (l : Held) (map : BitMap) → Layouts (layout_in l map)
unfolding layout_in
layout_laws_in l map = layouts map (slot_degrees l)

-- an entry of n symbols, and past them
any_small : (n : ℕ) (x : List ℕ) → Symbols n x → (j : ℕ) → nth x j < 32
any_small n x y j =
    ⊎_elim (λ h. y.small j h) (λ h. let e = get_or-eq_default x 0 {n = j} (omega (arith, y.long)) in omega arith) (less_or_not j n)

-- 52 symbols as an encoder takes them
symbol_past : (u : List ℕ) → length u ≡ 52 → (j : ℕ) → 52 ≤ j → symbol u j ≡ 0
symbol_past u e j h = ap (λ (x : ℕ). x % 32) (get_or-eq_default u 0 {n = j} (omega arith))

module _ (l : Held) (w : Words l.code l.parts) (enough : 52 ≤ k_of l) where
  own-length : (x : List ℕ) → length (own_symbols l x) ≡ k_of l
  own-length x = info_length (graph_of l) l.parts.order x

  pub slots-length : (x : List ℕ) → length (slot_symbols l x) ≡ 52
  unfolding slot_symbols
  slots-length x = length-take-le 52 (own_symbols l x) (omega (arith, own-length x))

  pub slot_at : (x : List ℕ) (j : ℕ) → j < 52 → nth (slot_symbols l x) j ≡ nth (own_symbols l x) j
  unfolding slot_symbols
  slot_at x j h = get_or-take 52 (own_symbols l x) j 0 h

  own_small : (x : List ℕ) → Word (graph_of l) x → (j : ℕ) → j < k_of l → nth (own_symbols l x) j < 32
  own_small x y j h = omega (arith, info_at (graph_of l) l.parts.order x j h, any_small _ x y.symbols (nth (information_of (graph_of l) l.parts.order) j))

  pub slots_small : (x : List ℕ) → Word (graph_of l) x → (j : ℕ) → j < 52 → nth (slot_symbols l x) j < 32
  slots_small x y j h = omega (arith, slot_at x j h, own_small x y j (omega arith))

  -- ---- an encoding of 52 symbols

  module _ (u : List ℕ) (long : length u ≡ 52) where
    own_at : (j : ℕ) → j < k_of l → nth (own_symbols l (encoded l u)) j ≡ symbol u j
    own_at j h = ap (λ (s : List ℕ). nth s j) (w.own u) ∙ values_at (symbol u) (k_of l) j 0 h

    pub past_slots : (j : ℕ) → 52 ≤ j → nth (own_symbols l (encoded l u)) j ≡ 0
    past_slots j h =
        ⊎_elim
        (λ b. own_at j b ∙ symbol_past u long j h)
        (λ b. get_or-eq_default (own_symbols l (encoded l u)) 0 {n = j} (omega (arith, own-length (encoded l u))))
        (less_or_not j (k_of l))

    pub slots_own : ((j : ℕ) → j < 52 → nth u j < 32) → slot_symbols l (encoded l u) ≡ u
    slots_own small =
        ext_get_or 0 (slot_symbols l (encoded l u)) u (slots-length (encoded l u) ∙ sym long)
        (λ j b. let h : j < 52 = omega (arith, slots-length (encoded l u)) in slot_at (encoded l u) j h ∙ own_at j (omega arith) ∙ mod-eq_of_lt (small j h))

  -- a word is the encoding of its own information symbols
  own_word : (x : List ℕ) → Word (graph_of l) x → x ≡ encoded l (own_symbols l x)
  unfolding held
  own_word x y = (w.encodings x y.symbols).0 y

  -- ---- a word with 0 past the slots is the encoding of its symbols in them

  pub slots_encoded : (x : List ℕ) → Word (graph_of l) x → ((j : ℕ) → 52 ≤ j → j < k_of l → nth (own_symbols l x) j ≡ 0) → encoded l (slot_symbols l x) ≡ x
  slots_encoded x y past =
      own_word z (w.encoded u) ∙ ap (encoded l) same ∙ sym (own_word x y)
    where
      u : List ℕ
      u = slot_symbols l x

      z : List ℕ
      z = encoded l u

      own : (j : ℕ) → j < k_of l → (j < 52) ⊎ (52 ≤ j) → symbol u j ≡ nth (own_symbols l x) j
      own j h a =
          ⊎_elim
          (λ b. mod-eq_of_lt (slots_small x y j b) ∙ slot_at x j b)
          (λ b. symbol_past u (slots-length x) j b ∙ sym (past j b h))
          a

      same : own_symbols l z ≡ own_symbols l x
      same =
          ext_get_or 0 (own_symbols l z) (own_symbols l x) (own-length z ∙ sym (own-length x))
          (λ j b. let h : j < k_of l = omega (arith, own-length z) in own_at u (slots-length x) j h ∙ own j h (less_or_not j 52))
