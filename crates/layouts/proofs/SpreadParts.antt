-- SpreadHeavy as code makes it: the dealt bits at their places with marks, and the bits without a mark at the places without one.
-- Assumes nothing.
use Prim.Native.Nat.{ℕ, ◌+◌, ◌-◌}
use mathlib.Core.Path.{◌≡◌, sym, ap, ap₂, ◌∙◌}
use mathlib.Core.Bool.{Bool, false, not}
use mathlib.Core.List.{List}
use native.Mathlib.Omega.{arith}
use lib.ListN.{length, get_or, set, replicate}
use Rattle.lists.specs.Entry.{nth}
use Rattle.lists.specs.Keep.{keep_below}
use Rattle.lists.specs.Placed.{placed}
use Rattle.lists.proofs.Iter.{iter_later}
use Rattle.lists.proofs.Keep.{keep_below_ext}
use Rattle.lists.proofs.Placed.{placed_ext}
use Rattle.lists.specs.Completed.{rest, completed}
use Rattle.layouts.specs.SpreadHeavy.{dealt, deal, spread_over}
use Rattle.lists.specs.Marks.{Marks}
use Rattle.layouts.specs.Slots.{Distinct}
use Rattle.layouts.specs.VariableBits.{variable}
use Rattle.lists.proofs.Completed.{completed_first, completed-rest, rest_count}
use Rattle.layouts.proofs.DealtOnce.{dealt_bits, deal_inside, deal_distinct}
use Rattle.layouts.proofs.VariableIndex.{variable_inside, variable_distinct}

-- what has no mark is the rest
pub unmarked : (n r : ℕ) (f : ℕ → ℕ) (marks : List Bool) → Marks n f r marks → keep_below (λ x. not (get_or marks x false)) n ≡ rest n r f
unfolding rest
unmarked n r f marks w = keep_below_ext (λ x. not (get_or marks x false)) _ n (λ x h. ap not (w.marked x h))

-- values placed by two completed rules: first those given, then the rest into the rest
pub completed-placed : (n r : ℕ) (f g : ℕ → ℕ) (x : List ℕ) → r + length (rest n r f) ≡ n
    → placed n (completed n r f) (completed n r g) x ≡ placed (length (rest n r f)) (nth (rest n r f)) (nth (rest n r g)) (placed r f g x)
unfolding placed
completed-placed n r f g x e =
    let k = length (rest n r f) in
    let q : n ≡ k + r = omega arith in
    ap (λ (m : ℕ). placed m (completed n r f) (completed n r g) x) q
    ∙ iter_later k r (λ t y. set y (completed n r f t) (completed n r g t)) x
    ∙ ap (λ (y : List ℕ). placed k (λ i. completed n r f (i + r)) (λ i. completed n r g (i + r)) y) (placed_ext r (completed n r f) f (completed n r g) g x (completed_first n r f) (completed_first n r g))
    ∙ placed_ext k (λ i. completed n r f (i + r)) (nth (rest n r f)) (λ i. completed n r g (i + r)) (nth (rest n r g)) (placed r f g x) (λ t h. later f t) (λ t h. later g t)
  where
    later : (f : ℕ → ℕ) (t : ℕ) → completed n r f (t + r) ≡ nth (rest n r f) t
    later f t = let e : t + r - r ≡ t = omega arith in completed-rest n r f (t + r) (omega arith) ∙ ap (nth (rest n r f)) e

module _ (slots : List ℕ) (w : Distinct slots) (used taken : List Bool) (u : Marks 260 variable (dealt slots) used) (t : Marks 260 (deal slots) (dealt slots) taken) where
  abbrev bits : List ℕ
  bits = keep_below (λ x. not (get_or used x false)) 260

  abbrev free : List ℕ
  free = keep_below (λ x. not (get_or taken x false)) 260

  pub bits_count : dealt slots + length (keep_below (λ x. not (get_or used x false)) 260) ≡ 260
  bits_count =
      ap (λ (l : List ℕ). dealt slots + length l) (unmarked 260 (dealt slots) variable used u)
      ∙ rest_count 260 (dealt slots) variable (λ i l. omega (arith, variable_inside i (omega (arith, dealt_bits slots))))
      (λ i v l k. variable_distinct i v (omega (arith, dealt_bits slots)) (omega (arith, dealt_bits slots)))

  pub free_count : dealt slots + length (keep_below (λ x. not (get_or taken x false)) 260) ≡ 260
  free_count =
      ap (λ (l : List ℕ). dealt slots + length l) (unmarked 260 (dealt slots) (deal slots) taken t)
      ∙ rest_count 260 (dealt slots) (deal slots) (deal_inside slots w) (deal_distinct slots w)

  -- the others' places, after those that are dealt
  pub spread_parts : placed (length bits) (nth bits) (nth free) (placed (dealt slots) variable (deal slots) (replicate 260 0)) ≡ spread_over slots
  unfolding spread_over
  spread_parts =
      let m = dealt slots in
      let given = placed m variable (deal slots) (replicate 260 0) in
      let e = unmarked 260 m variable used u in
      ap₂ (λ (b p : List ℕ). placed (length b) (nth b) (nth p) given) e (unmarked 260 m (deal slots) taken t)
      ∙ sym (completed-placed 260 m variable (deal slots) (replicate 260 0) (ap (λ (l : List ℕ). m + length l) (sym e) ∙ bits_count))
