-- A sound code is not refused where every entry that is not used is 0: a law for each test, then for the code.
-- Assumes nothing.
use Prim.Native.Nat.{ℕ, ◌+◌, ◌-◌, ◌<◌, ◌≤◌}
use mathlib.Core.Path.{◌≡◌, refl, ap, sym, ◌∙◌}
use mathlib.Core.Bool.{false, not, ◌||◌}
use mathlib.Core.List.{List, [], ◌∷◌}
use native.Mathlib.Omega.{arith}
use borrow.Author.Tests.{eq-eqb, ne_eqb, le-ltb}
use lib.Dec.{eqb, ltb}
use lib.ListN.{length}
use Rattle.lists.specs.AnyBelow.{any_below}
use Rattle.lists.specs.EachOnce.{EachOnce, repeated, each_once}
use Rattle.lists.specs.Entry.{nth}
use Rattle.lists.specs.Values.{values}
use Rattle.lists.proofs.AnyBelow.{any_below_none}
use Rattle.lists.proofs.EachOnce.{none_outside, none_repeated, true-each_once}
use Rattle.lists.proofs.Front.{not_differs}
use Rattle.lists.proofs.Values.{values-length, values_at}
use Rattle.calls.specs.declared.Refusal.TheVariants.{Size, Length, Malformed, Misencoded}
use Rattle.calls.specs.Refusal.{misfit}
use Rattle.calls.proofs.Refusals.{one_miss, one_none, first_miss, fitting}
use Rattle.graph.specs.declared.Code.{Code}
use Rattle.graph.specs.Sizes.{too_large, code_lengths}
use Rattle.elimination.specs.Elimination.{infos, table}
use Rattle.graph.specs.Parts.{Parts}
use Rattle.lent.specs.Malformed.{bad_starts, twice, bad_coefs, foreign, disagree, unused_hold, malformed}
use Rattle.lent.specs.Misencoded.{reduced_in, misencoded}
use Rattle.lent.specs.LentCode.{NotRefused}
use Rattle.graph.specs.Buildable.{PartsFit}
use Rattle.lent.specs.Sound.{Starts, Formed, Encoded, IsSound}

-- ---- 2 and 3

sizes_pass : (n m : ℕ) → n ≤ 256 → m ≤ 256 → too_large n m ≡ false
sizes_pass n m h l = rw (le-ltb 256 n h, le-ltb 256 m l)

lengths_pass : (p : Parts) → PartsFit p → misfit (code_lengths p) ≡ false
lengths_pass p w = fitting (code_lengths p) false (w.var, (w.coef, (w.row, (w.start, (w.col, (w.order, (w.parity, (w.info, (w.a, tt))))))))) refl

-- ---- 6

starts_pass : (k count : ℕ) (starts : List ℕ) → Starts k count (nth starts) → bad_starts k count starts ≡ false
unfolding bad_starts
starts_pass k count starts w =
    rw (
      eq-eqb (nth starts 0) 0 w.first,
      any_below_none k (λ i. ltb (nth starts (i + 1)) (nth starts i)) (λ i h. le-ltb (nth starts (i + 1)) (nth starts i) (w.rise i h)),
      eq-eqb (nth starts k) count w.last,
    )

once_pass : (n : ℕ) (l : List ℕ) → EachOnce n (nth l) → not (each_once n (nth l)) ≡ false
once_pass n l e = ap not (true-each_once n (nth l) e)

module _ (c : Code) (p : Parts) (w : Formed c p) where
  twice_pass : twice c.m p.row p.var ≡ false
  unfolding twice
  twice_pass =
      any_below_none c.m (λ i. repeated (nth p.row (i + 1) - nth p.row i) (λ j. nth p.var (nth p.row i + j)))
      (λ i h. none_repeated (nth p.row (i + 1) - nth p.row i) (λ j. nth p.var (nth p.row i + j)) (λ s t a b q. w.once i s t h (omega arith) (omega arith) q))

  coefficients_pass : bad_coefs c.edges p.coef ≡ false
  unfolding bad_coefs
  coefficients_pass =
      any_below_none c.edges (λ e. eqb (nth p.coef e) 0 || ltb 31 (nth p.coef e))
      (λ e h. let b = w.coefs e h in rw (ne_eqb (nth p.coef e) 0 (λ q. omega arith), le-ltb 31 (nth p.coef e) (omega arith)))

  own_pass : foreign c.n p.var p.start p.col ≡ false
  unfolding foreign
  own_pass =
      any_below_none c.n
      (λ v. any_below (nth p.start (v + 1) - nth p.start v) (λ j. not (eqb (nth p.var (nth p.col (nth p.start v + j))) v)))
      (λ v h. any_below_none (nth p.start (v + 1) - nth p.start v) (λ j. not (eqb (nth p.var (nth p.col (nth p.start v + j))) v))
      (λ j l. ap not (eq-eqb (nth p.var (nth p.col (nth p.start v + j))) v (w.own v j h (omega arith)))))

  lists_pass : disagree c.n c.edges p.var p.start p.col ≡ false
  unfolding disagree
  lists_pass =
      sym
      (one_miss _ refl (starts_pass c.n c.edges p.start w.columns)
      (one_miss _ refl (once_pass c.edges p.col w.places)
      (one_miss _ refl own_pass one_none)))

  formed_passes : unused_hold c p ≡ false → malformed c p ≡ false
  unfolding malformed
  formed_passes u =
      sym
      (one_miss _ refl (le-ltb 512 c.edges w.few)
      (one_miss _ refl (starts_pass c.m c.edges p.row w.rows)
      (one_miss _ refl (none_outside c.edges (nth p.var) c.n w.vars)
      (one_miss _ refl twice_pass
      (one_miss _ refl coefficients_pass
      (one_miss _ refl lists_pass
      (one_miss _ refl (once_pass c.n p.order w.order)
      (one_miss _ refl u one_none))))))))

-- ---- 7

pub encoded_passes : (c : Code) (p : Parts) → Encoded c p → misencoded c p ≡ false
unfolding misencoded
encoded_passes c p w =
    sym
    (one_miss _ refl (ap not (eq-eqb c.rank (reduced_in c p).rank w.rank))
    (one_miss _ refl (not_differs p.parity (values (reduced_in c p).rank (reduced_in c p).pivot) parity)
    (one_miss _ refl (not_differs p.info (infos c.n (reduced_in c p)) w.info)
    (one_miss _ refl (not_differs p.a (table c.n (reduced_in c p)) w.a) one_none))))
  where
    parity : (k : ℕ) → k < length (values (reduced_in c p).rank (reduced_in c p).pivot) → nth p.parity k ≡ nth (values (reduced_in c p).rank (reduced_in c p).pivot) k
    parity k h =
        let l : k < (reduced_in c p).rank = omega (arith, values-length (reduced_in c p).pivot (reduced_in c p).rank) in
        w.parity k (omega (arith, w.rank)) ∙ sym (values_at (reduced_in c p).pivot (reduced_in c p).rank k 0 l)

-- ---- the code

pub sound_passes : (c : Code) (p : Parts) → IsSound c p → unused_hold c p ≡ false → NotRefused c p
sound_passes c p w u =
    let wrong = (misencoded c p, Misencoded) ∷ [] in
    let bad = (malformed c p, Malformed) ∷ wrong in
    let short = (misfit (code_lengths p), Length) ∷ bad in
    sym
    (first_miss Size short refl (sizes_pass c.n c.m w.fits.n_small w.fits.m_small)
    (first_miss Length bad refl (lengths_pass p w.fits.parts)
    (first_miss Malformed wrong refl (formed_passes c p w.formed u)
    (first_miss Misencoded [] refl (encoded_passes c p w.encoded) refl))))
