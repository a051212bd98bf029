-- Sums and field multiples of words are words, and the encoder is linear: both by one law, of every linear way to combine two symbols.
-- Assumes nothing.
use mathlib.Core.Path.{◌≡◌, refl, sym, ap, ap₂, ◌∙◌}
use mathlib.Core.List.{List, [], ◌∷◌, foldl}
use Prim.Native.Nat.{ℕ, max, ◌%◌, ◌<◌}
use native.Mathlib.Nat.{mod-eq_of_lt}
use native.Mathlib.Omega.{arith}
use lib.Bits.{bit_xor, xor_mod}
use lib.ListN.{length}
use Rattle.lists.specs.EachOnce.{EachOnce}
use Rattle.lists.specs.Entry.{nth}
use Rattle.lists.specs.Values.{values}
use Rattle.lists.proofs.Values.{values-length, map_entries}
use Rattle.field.specs.Field.{product}
use Rattle.field.proofs.Product.{mod32, product-lt, product_comm, product_assoc, product_xor, zero-product, product-mod_left}
use Rattle.field.proofs.Sum.{xor_inter}
use Rattle.elimination.specs.Graph.{Edge, Graph, check}
use Rattle.elimination.proofs.Entries.{Small, Inside}
use Rattle.words.specs.Encoding.{information_of, encoding}
use Rattle.words.specs.Linear.{sum_of, multiple_of}
use Rattle.words.specs.Word.{sum_turn, check_sum, Word}
use Rattle.words.proofs.Encodings.{encoding_info, encoding_word, word_encoding}
use Rattle.words.proofs.Sums.{combined, combined_at}

-- f keeps the field's sums and multiples, and of a number above 31 takes the five lowest digits
record Linear (f : ℕ → ℕ → ℕ) : Type 0 where
  sums : (a b c d : ℕ) → f (bit_xor a b) (bit_xor c d) ≡ bit_xor (f a c) (f b d)
  products : (e a b : ℕ) → f (product e a) (product e b) ≡ product e (f a b)
  mods : (a b : ℕ) → f (a % 32) (b % 32) ≡ f a b % 32

module _ (f : ℕ → ℕ → ℕ) (w : Linear f) where
  zeros : f 0 0 ≡ 0
  zeros = sym (ap₂ f (zero-product 0) (zero-product 0)) ∙ w.products 0 0 0 ∙ zero-product (f 0 0)

  below : (a b : ℕ) → a < 32 → b < 32 → f a b < 32
  below a b h l = rw (ap₂ f (sym (mod-eq_of_lt h)) (sym (mod-eq_of_lt l)) ∙ w.mods a b) (mod32 (f a b))

  module _ (x y : List ℕ) where
    fold_combined : (es : List Edge) (a b : ℕ) → foldl (sum_turn (combined f x y)) (f a b) es ≡ f (foldl (sum_turn x) a es) (foldl (sum_turn y) b es)
    fold_combined [] a b = refl
    fold_combined (e ∷ es) a b =
        ap (λ (s : ℕ). foldl (sum_turn (combined f x y)) s es)
        (ap (bit_xor (f a b)) (ap (product e.1) (combined_at f zeros x y e.0) ∙ sym (w.products e.1 (nth x e.0) (nth y e.0)))
        ∙ sym (w.sums a (product e.1 (nth x e.0)) b (product e.1 (nth y e.0))))
        ∙ fold_combined es (sum_turn x a e) (sum_turn y b e)

    sum_combined : (es : List Edge) → check_sum es (combined f x y) ≡ f (check_sum es x) (check_sum es y)
    unfolding check_sum
    sum_combined es = ap (λ (s : ℕ). foldl (sum_turn (combined f x y)) s es) (sym zeros) ∙ fold_combined es 0 0

  word_combined : (g : Graph) (x y : List ℕ) → Word g x → Word g y → Word g (combined f x y)
  word_combined g x y a b = record {
    symbols = record {
      long = omega (arith, values-length (λ j. f (nth x j) (nth y j)) (max (length x) (length y)), a.symbols.long, b.symbols.long);
      small = λ j h. rw (combined_at f zeros x y j) (below (nth x j) (nth y j) (a.symbols.small j h) (b.symbols.small j h));
    };
    satisfied = λ c h. sum_combined x y (check g c) ∙ ap₂ f (a.satisfied c h) (b.satisfied c h) ∙ zeros;
  }

  -- the combined encodings are a word, so they are the encoding of the symbols at the information positions
  encoding-combined : (g : Graph) (order : List ℕ) → Small g → EachOnce g.n (nth order) → Inside g → (u v : List ℕ)
      → encoding g order (combined f u v) ≡ combined f (encoding g order u) (encoding g order v)
  encoding-combined g order small each inside u v =
      sym (word_encoding g order small each inside (combined f x y) (combined f u v)
      (word_combined g x y (encoding_word g order small each inside u) (encoding_word g order small each inside v))
      (λ t h.
      combined_at f zeros x y (nth (information_of g order) t)
      ∙ ap₂ f (encoding_info g order u t h) (encoding_info g order v t h)
      ∙ w.mods (nth u t) (nth v t)
      ∙ ap (λ (a : ℕ). a % 32) (sym (combined_at f zeros u v t))))
    where
      x : List ℕ
      x = encoding g order u

      y : List ℕ
      y = encoding g order v

-- ---- sums and multiples

by_sum : Linear bit_xor
by_sum = record { sums = xor_inter; products = λ e a b. sym (product_xor e a b); mods = λ a b. sym (xor_mod a b 5) }

-- the multiple of the first
by_factor : (f : ℕ) → Linear (λ a b. product f a)
by_factor f = record {
  sums = λ a b c d. product_xor f a b;
  products = λ e a b. sym (product_assoc f e a) ∙ ap (λ (c : ℕ). product c a) (product_comm f e) ∙ product_assoc e f a;
  mods = λ a b. product_comm f (a % 32) ∙ product-mod_left a f ∙ product_comm a f ∙ sym (mod-eq_of_lt (product-lt f a));
}

multiple_is : (f : ℕ) (x : List ℕ) → multiple_of f x ≡ combined (λ a b. product f a) x x
unfolding multiple_of
multiple_is f x = map_entries (product f) 0 x ∙ ap (λ (n : ℕ). values n (λ j. product f (nth x j))) (omega arith)

pub word_sum : (g : Graph) (x y : List ℕ) → Word g x → Word g y → Word g (sum_of x y)
unfolding sum_of
word_sum = word_combined bit_xor by_sum

pub word_multiple : (g : Graph) (f : ℕ) (x : List ℕ) → Word g x → Word g (multiple_of f x)
word_multiple g f x a = rw multiple_is (word_combined (λ a b. product f a) (by_factor f) g x x a a)

module _ (g : Graph) (order : List ℕ) (small : Small g) (each : EachOnce g.n (nth order)) (inside : Inside g) where
  pub encoding_sum : (u v : List ℕ) → encoding g order (sum_of u v) ≡ sum_of (encoding g order u) (encoding g order v)
  unfolding sum_of
  encoding_sum = encoding-combined bit_xor by_sum g order small each inside

  pub encoding_multiple : (f : ℕ) (u : List ℕ) → encoding g order (multiple_of f u) ≡ multiple_of f (encoding g order u)
  encoding_multiple f u =
      ap (encoding g order) (multiple_is f u) ∙ encoding-combined (λ a b. product f a) (by_factor f) g order small each inside u u
      ∙ sym (multiple_is f (encoding g order u))
