-- Entries past the front: none is used where all are 0; and joined by "or" bit by bit, as a loop without branches does, the outcome is 0 exactly where all are.
-- Assumes nothing.
use Prim.Native.Nat.{ℕ, suc, ◌+◌, ◌-◌, ◌<◌, ◌≤◌}
use mathlib.Core.Path.{◌≡◌, sym, ap, ◌∙◌}
use mathlib.Core.Logic.{⊎_elim}
use mathlib.Core.Bool.{Bool, false, not, ◌||◌}
use mathlib.Core.List.{List}
use native.Mathlib.Omega.{arith}
use borrow.Author.Tests.{eq-eqb, ne_eqb}
use lib.Bits.{bit_or, or_add_and, and_le_l, and_le_r}
use lib.Dec.{eqb}
use lib.ListN.{length}
use Rattle.lists.specs.AnyBelow.{any_below}
use Rattle.lists.specs.Entry.{nth}
use Rattle.lists.specs.Front.{used_past}
use Rattle.lists.proofs.Cases.{same_or_not}
use Rattle.lists.proofs.AnyBelow.{any_below_start, any_below_none}

pub not_used : (k : ℕ) (part : List ℕ) → ((j : ℕ) → j < length part - k → nth part (k + j) ≡ 0) → used_past k part ≡ false
unfolding used_past
not_used k part e = any_below_none (length part - k) (λ j. not (eqb (nth part (k + j)) 0)) (λ j h. ap not (eq-eqb (nth part (k + j)) 0 (e j h)))

-- an "or" is not 0 where one of the two is not
pub or_used : (a b : ℕ) → not (eqb (bit_or a b) 0) ≡ (not (eqb b 0) || not (eqb a 0))
or_used a b =
    let s = or_add_and a b in
    let l = and_le_l a b in
    let r = and_le_r a b in
    ⊎_elim
    (λ y. ⊎_elim
    (λ x. rw (eq-eqb a 0 x, eq-eqb b 0 y, eq-eqb (bit_or a b) 0 (omega arith)))
    (λ x. rw (ne_eqb a 0 x, eq-eqb b 0 y, ne_eqb (bit_or a b) 0 (λ z. x (omega arith))))
    (same_or_not a 0))
    (λ y. rw (ne_eqb b 0 y, ne_eqb (bit_or a b) 0 (λ z. y (omega arith))))
    (same_or_not b 0)

-- `any` joins the entries from k up to j
pub record Joined (k : ℕ) (part : List ℕ) (j any : ℕ) : Type 0 where
  pub past : k ≤ j
  pub inside : j - k ≤ length part - k
  pub used : not (eqb any 0) ≡ any_below (j - k) (λ i. not (eqb (nth part (k + i)) 0))

module _ (k : ℕ) (part : List ℕ) where
  abbrev test : ℕ → Bool
  test i = not (eqb (nth part (k + i)) 0)

  pub joined_start : Joined k part k 0
  joined_start = record {
    past = omega arith;
    inside = omega arith;
    used = let e : k - k ≡ 0 = omega arith in rw e (sym (any_below_start test));
  }

  pub joined_on : (j any : ℕ) → j < length part → Joined k part j any → Joined k part (j + 1) (bit_or any (nth part j))
  unfolding any_below
  joined_on j any h w =
      let e : j + 1 - k ≡ suc (j - k) = omega (arith, w.past) in
      let at : k + (j - k) ≡ j = omega (arith, w.past) in
      record {
        past = omega (arith, w.past);
        inside = omega (arith, w.past);
        used = or_used any (nth part j) ∙ ap (λ t. not (eqb (nth part j) 0) || t) w.used ∙ ap (λ (i : ℕ). not (eqb (nth part i) 0) || any_below (j - k) test) (sym at) ∙ ap (λ (i : ℕ). any_below i test) (sym e);
      }

  pub joined_end : (j any : ℕ) → length part ≤ j → Joined k part j any → not (eqb any 0) ≡ used_past k part
  unfolding used_past
  joined_end j any h w = let e : j - k ≡ length part - k = omega (arith, w.past, w.inside) in w.used ∙ ap (λ (i : ℕ). any_below i test) e
