-- Rows of 256 in the work part: their lengths and entries, and what stands in them after one is written.
-- Assumes nothing.
use Prim.Native.Nat.{ℕ, ◌+◌, ◌-◌, ◌*◌, ◌<◌, ◌≤◌}
use mathlib.Core.Path.{◌≡◌, refl, sym, ap, ap₂, ◌∙◌}
use mathlib.Core.Logic.{◌≢◌, ◌⊎◌, inl, inr, ⊎_elim}
use mathlib.Core.Bool.{not}
use mathlib.Core.List.{List, ◌++◌}
use native.Mathlib.Omega.{arith}
use lib.Dec.{eqb}
use lib.ListN.{length, set, take, drop, replicate, length-set, length-drop, length-replicate}
use lib.Seq.{ext_get_or, length-take-le, get_or-take, get_or-drop, drop-drop, get_or-set_same, get_or-set_other}
use Rattle.lists.specs.Entry.{nth}
use Rattle.lists.specs.Laid.{laid, laid_from}
use Rattle.lists.proofs.Blank.{blank_at}
use Rattle.lists.proofs.Cases.{less_or_not, same_or_not}
use Rattle.lists.proofs.Keep.{keep_below-length}
use Rattle.lists.proofs.Laid.{from_length, from_before, from_own, from_after}
use Rattle.lists.proofs.Placed.{set_small, placed-length, placed_small}
use Rattle.field.specs.Field.{product}
use Rattle.field.proofs.Product.{product-lt}
use Rattle.candidates.specs.GeneratorRows.{column, row_of, support, Generators}

-- ---- what a row holds

module _ (n r k : ℕ) (parity info a : List ℕ) (s d : ℕ) where
  pub column-length : length (column n r k parity info a s d) ≡ n
  unfolding column
  column-length =
      placed-length (nth parity) (λ i. product d (nth a (i * k + s))) (set (replicate n 0) (nth info s) d) r ∙ length-set (replicate n 0) (nth info s) d ∙ length-replicate {A = ℕ} n 0

  pub column_small : d < 32 → (v : ℕ) → nth (column n r k parity info a s d) v < 32
  unfolding column
  column_small h =
      placed_small (nth parity) (λ i. product d (nth a (i * k + s))) (set (replicate n 0) (nth info s) d) 32 r
      (λ i l. product-lt d (nth a (i * k + s)))
      (set_small (replicate n 0) (nth info s) d 32 h (λ j. omega (arith, blank_at {A = ℕ} n j 0)))

-- ---- the rows

-- as code lends one
pub row_lent : (n at : ℕ) (h : List ℕ) → take (at + n - at) (drop at h) ≡ take n (drop at h)
row_lent n at h = let e : at + n - at ≡ n = omega arith in ap (λ (m : ℕ). take m (drop at h)) e

-- and takes it back
pub row_back : (n at : ℕ) (h ys : List ℕ) → length ys ≡ n → take at h ++ (ys ++ drop (at + n - at) (drop at h)) ≡ laid_from at ys h
unfolding laid_from
row_back n at h ys e =
    let f : at + (at + n - at) ≡ at + length ys = omega arith in
    ap (λ (r : List ℕ). take at h ++ (ys ++ r)) (drop-drop (at + n - at) at h ∙ ap (λ (m : ℕ). drop m h) f)

pub row_length : (n : ℕ) (h : List ℕ) (j : ℕ) → n ≤ 256 → length h ≡ 65536 → j < 256 → length (row_of n h j) ≡ n
row_length n h j few e l = length-take-le n (drop (j * 256) h) (omega (arith, length-drop (j * 256) h))

pub row_at : (n : ℕ) (h : List ℕ) (j v : ℕ) → v < n → nth (row_of n h j) v ≡ nth h (j * 256 + v)
row_at n h j v l = get_or-take n (drop (j * 256) h) v 0 l ∙ get_or-drop (j * 256) h v 0

-- a row in front of a place at which the part is split, and the two parts joined, the second with a list over its front
pub row_in_front : (n at m : ℕ) (h : List ℕ) → at + n ≤ m → m ≤ length h → take n (drop at (take m h)) ≡ take n (drop at h)
row_in_front n at m h fits long =
    let k = length-take-le n (drop at (take m h)) (omega (arith, length-drop at (take m h), length-take-le m h long)) in
    ext_get_or 0 (take n (drop at (take m h))) (take n (drop at h)) (k ∙ sym (length-take-le n (drop at h) (omega (arith, length-drop at h))))
    (λ v l.
    let b : v < n = omega (arith, k) in
    get_or-take n (drop at (take m h)) v 0 b ∙ get_or-drop at (take m h) v 0 ∙ get_or-take m h (at + v) 0 (omega arith)
    ∙ sym (get_or-take n (drop at h) v 0 b ∙ get_or-drop at h v 0))

pub joined : (m : ℕ) (l h : List ℕ) → take m h ++ laid l (drop m h) ≡ laid_from m l h
unfolding laid laid_from
joined m l h = ap (λ (r : List ℕ). take m h ++ (l ++ r)) (drop-drop (length l) m h)

-- row j written
module _ (h : List ℕ) (j : ℕ) (ys : List ℕ) (e : length h ≡ 65536) (b : j < 256) (short : length ys ≤ 256) where
  abbrev after : List ℕ
  after = laid_from (j * 256) ys h

  pub written_length : length (laid_from (j * 256) ys h) ≡ 65536
  written_length = from_length (j * 256) ys h (omega arith) ∙ e

  pub written_same : (n : ℕ) → length ys ≡ n → row_of n (laid_from (j * 256) ys h) j ≡ ys
  written_same n long =
      let k = row_length n after j (omega arith) written_length b in
      ext_get_or 0 (row_of n after j) ys (k ∙ sym long)
      (λ v l. row_at n after j v (omega (arith, k)) ∙ from_own (j * 256) v ys h 0 (omega (arith, k)) (omega arith))

  pub written_other : (n i : ℕ) → n ≤ 256 → i < 256 → i ≢ j → row_of n (laid_from (j * 256) ys h) i ≡ row_of n h i
  written_other n i few c d =
      let k = row_length n after i few written_length c in
      ext_get_or 0 (row_of n after i) (row_of n h i) (k ∙ sym (row_length n h i few e c))
      (λ v l. row_at n after i v (omega (arith, k)) ∙ go v (omega (arith, k)) (less_or_not i j) ∙ sym (row_at n h i v (omega (arith, k))))
    where
      go : (v : ℕ) → v < n → (i < j) ⊎ (j ≤ i) → nth after (i * 256 + v) ≡ nth h (i * 256 + v)
      go v k (inl l) = from_before (j * 256) (i * 256 + v) ys h 0 (omega arith) (omega arith)
      go v k (inr l) = from_after (j * 256) (i * 256 + v) ys h 0 (omega arith) (omega arith)

-- ---- supports

pub support-length : (g : List ℕ) → length (support g) ≤ length g
unfolding support
support-length g = keep_below-length (λ v. not (eqb (nth g v) 0)) (length g)

-- ---- generators with their supports, one after another, over a part of zeros

-- the first j generators are written, and the rows of the others are 0
pub record Writing (n : ℕ) (gens : ℕ → List ℕ) (j : ℕ) (counts h : List ℕ) : Type 0 where
  pub long : length h ≡ 65536
  pub counted : length counts ≡ 16
  pub rows : (i : ℕ) → i < j → row_of n h i ≡ gens i
  pub bounds : (i : ℕ) → i < j → nth counts i ≤ 256
  pub supports : (i : ℕ) → i < j → row_of (nth counts i) h (i + 16) ≡ support (gens i)
  pub blank : (i : ℕ) → j ≤ i → i < 16 → row_of n h i ≡ replicate n 0

pub writing_same : (n : ℕ) (gens : ℕ → List ℕ) (j : ℕ) (counts counts' h h' : List ℕ) → counts ≡ counts' → h ≡ h' → Writing n gens j counts' h' → Writing n gens j counts h
writing_same n gens j counts counts' h h' e f w = rw (e, f) w

module _ (n : ℕ) (few : n ≤ 256) (gens : ℕ → List ℕ) where
  pub writing_start : (counts h : List ℕ) → length counts ≡ 16 → h ≡ replicate 65536 0 → Writing n gens 0 counts h
  writing_start counts h c e = record {
    long = long;
    counted = c;
    rows = λ i l. absurd (omega arith);
    bounds = λ i l. absurd (omega arith);
    supports = λ i l. absurd (omega arith);
    blank = λ i l b.
        let k = row_length n h i few long (omega arith) in
        ext_get_or 0 (row_of n h i) (replicate n 0) (k ∙ sym (length-replicate {A = ℕ} n 0))
        (λ v m. row_at n h i v (omega (arith, k)) ∙ ap (λ (l : List ℕ). nth l (i * 256 + v)) e ∙ blank_at 65536 (i * 256 + v) 0 ∙ sym (blank_at n v 0));
  }
    where
      long : length h ≡ 65536
      long = ap length e ∙ length-replicate {A = ℕ} 65536 0

  module _ (j : ℕ) (counts h ys : List ℕ) (w : Writing n gens j counts h) (b : j < 16) (long : length ys ≡ n) (own : ys ≡ gens j) where
    -- with the generator, and with its support
    abbrev first : List ℕ
    first = laid_from (j * 256) ys h

    abbrev both : List ℕ
    both = laid_from ((j + 16) * 256) (support ys) first

    short : length (support ys) ≤ 256
    short = omega (arith, support-length ys)

    first_long : length first ≡ 65536
    first_long = written_length h j ys w.long (omega arith) (omega arith)

    pub first_row : row_of n (laid_from (j * 256) ys h) j ≡ ys
    first_row = written_same h j ys w.long (omega arith) (omega arith) n long

    -- a row that is neither
    others : (m i : ℕ) → m ≤ 256 → i < 256 → i ≢ j → i ≢ j + 16 → row_of m both i ≡ row_of m h i
    others m i f c p q =
        written_other first (j + 16) (support ys) first_long (omega arith) short m i f c q ∙ written_other h j ys w.long (omega arith) (omega arith) m i f c p

    here : row_of n both j ≡ ys
    here = written_other first (j + 16) (support ys) first_long (omega arith) short n j few (omega arith) (λ q. omega arith) ∙ first_row

    pub writing_on : Writing n gens (j + 1) (set counts j (length (support ys))) (laid_from ((j + 16) * 256) (support ys) (laid_from (j * 256) ys h))
    writing_on = record {
      long = written_length first (j + 16) (support ys) first_long (omega arith) short;
      counted = length-set counts j (length (support ys)) ∙ w.counted;
      rows = λ i l. ⊎_elim
          (λ q. ap (row_of n both) q ∙ here ∙ own ∙ ap gens (sym q))
          (λ q. others n i few (omega arith) q (λ r. omega arith) ∙ w.rows i (omega (arith, q)))
          (same_or_not i j);
      bounds = λ i l. ⊎_elim
          (λ q. omega (arith, ap (nth new) q, count, short))
          (λ q. omega (arith, get_or-set_other counts j i (length (support ys)) 0 q, w.bounds i (omega (arith, q))))
          (same_or_not i j);
      supports = λ i l. ⊎_elim
          (λ q.
          ap₂ (λ (m k : ℕ). row_of m both (k + 16)) (ap (nth new) q ∙ count) q
          ∙ written_same first (j + 16) (support ys) first_long (omega arith) short (length (support ys)) refl ∙ ap support (own ∙ ap gens (sym q)))
          (λ q.
          let m = get_or-set_other counts j i (length (support ys)) 0 q in
          let k = w.bounds i (omega (arith, q)) in
          ap (λ (m : ℕ). row_of m both (i + 16)) m ∙ others (nth counts i) (i + 16) k (omega arith) (λ r. omega arith) (λ r. omega (arith, q)) ∙ w.supports i (omega (arith, q)))
          (same_or_not i j);
      blank = λ i l c. others n i few (omega arith) (λ r. omega arith) (λ r. omega arith) ∙ w.blank i (omega arith) c;
    }
      where
        new : List ℕ
        new = set counts j (length (support ys))

        count : nth new j ≡ length (support ys)
        count = get_or-set_same counts j (length (support ys)) 0 (omega (arith, w.counted))

  pub writing_end : (j m : ℕ) (counts h : List ℕ) → j ≡ m → Writing n gens j counts h → Generators n m gens counts h
  writing_end j m counts h e w = record { long = w.long; rows = λ i l. w.rows i (omega arith); bounds = λ i l. w.bounds i (omega arith); supports = λ i l. w.supports i (omega arith) }

-- the rows as the generators that they are, where sizes are written in another way
pub generators_own : (n m w k : ℕ) (gens : ℕ → List ℕ) (counts h : List ℕ) → m ≡ n → k ≡ w → Generators n w gens counts h → Generators m k (row_of m h) counts h
generators_own n m w k gens counts h e f g = record {
  long = g.long;
  rows = λ j l. refl;
  bounds = λ j l. g.bounds j (omega arith);
  supports = λ j l. g.supports j (omega arith) ∙ ap support (sym (g.rows j (omega arith)) ∙ ap (λ (i : ℕ). row_of i h j) (sym e));
}
