-- The refusals' classes, and what an output part that is longer than the answer holds.
-- Assumes nothing.
use Prim.Native.Nat.{ℕ, zero, suc, ◌+◌, ◌-◌, ◌≤◌, ◌<◌}
use mathlib.Core.Path.{◌≡◌, refl, ap, sym, ◌∙◌}
use mathlib.Core.Bool.{true, false}
use mathlib.Core.List.{List, ◌++◌}
use native.Mathlib.Omega.{arith}
use lib.ListN.{length, get_or, drop, replicate, length-append, length-replicate, get_or-append, get_or-replicate}
use lib.Seq.{get_or-append-add}
use Rattle.lists.specs.Entry.{nth}
use Rattle.lists.specs.Front.{used_past}
use Rattle.lists.specs.Laid.{laid}
use Rattle.lists.proofs.UsedPast.{not_used}
use Rattle.calls.specs.declared.Refusal.TheVariants.{RateOrLayout, Size, Length, DegreeSum, DegreeTooHigh, Malformed, Misencoded, Value, WideCheck, NoWord, Padding}
use Rattle.calls.specs.Parts.{touches_nothing, before_rounds, after_rounds, padded}

-- ---- document 01's numbers are in their classes

one_to_three : (touches_nothing RateOrLayout ≡ true) × (touches_nothing Size ≡ true) × (touches_nothing Length ≡ true)
one_to_three = (refl, refl, refl)

four_to_nine : (before_rounds DegreeSum ≡ true) × (before_rounds DegreeTooHigh ≡ true) × (before_rounds Malformed ≡ true) × (before_rounds Misencoded ≡ true) × (before_rounds Value ≡ true) × (before_rounds WideCheck ≡ true)
four_to_nine = (refl, refl, refl, refl, refl, refl)

ten_and_eleven : (after_rounds NoWord ≡ true) × (after_rounds Padding ≡ true)
ten_and_eleven = (refl, refl)

-- ---- an output part that is longer than the answer

module _ {ℓ} {A : Type ℓ} (n : ℕ) (blank : A) (answer : List A) (fits : length answer ≤ n) where
  pub padded-length : length (padded n blank answer) ≡ n
  unfolding padded
  padded-length = simp (length-append, length-replicate) (omega arith)

  pub padded_in : (k : ℕ) (d : A) → k < length answer → get_or (padded n blank answer) k d ≡ get_or answer k d
  unfolding padded
  padded_in k d h = get_or-append answer (replicate (n - length answer) blank) d k h

  pub padded_past : (k : ℕ) (d : A) → k < n - length answer → get_or (padded n blank answer) (length answer + k) d ≡ blank
  unfolding padded
  padded_past k d h = rw (get_or-append-add answer (replicate (n - length answer) blank) k d, get_or-replicate (n - length answer) k blank d h)

-- k numbers in a part of n: its length, its front, and that nothing past the front is used
pub record Padded (n k : ℕ) (answer : List ℕ) : Type 0 where
  pub whole : length (padded n 0 answer) ≡ n
  pub front : (i : ℕ) → i < k → nth (padded n 0 answer) i ≡ nth answer i
  pub unused : used_past k (padded n 0 answer) ≡ false

pub padded_is : (n k : ℕ) (answer : List ℕ) → length answer ≡ k → k ≤ n → Padded n k answer
padded_is n k answer e h = record {
  whole = padded-length n 0 answer fits;
  front = λ i l. padded_in n 0 answer fits i 0 (omega arith);
  unused =
      not_used k (padded n 0 answer)
      (λ j l. ap (λ (i : ℕ). nth (padded n 0 answer) (i + j)) (sym e) ∙ padded_past n 0 answer fits j 0 (omega (arith, padded-length n 0 answer fits)));
}
  where
    fits : length answer ≤ n
    fits = omega arith

drop-replicate {ℓ} : {A : Type ℓ} (k n : ℕ) (v : A) → drop k (replicate n v) ≡ replicate (n - k) v
drop-replicate zero n v = ap (λ (m : ℕ). replicate m v) (let e : n ≡ n - 0 = omega arith in e)
drop-replicate (suc k) zero v = ap (λ (m : ℕ). replicate m v) (let e : 0 ≡ 0 - suc k = omega arith in e)
drop-replicate (suc k) (suc n) v = drop-replicate k n v ∙ ap (λ (m : ℕ). replicate m v) (let e : n - k ≡ suc n - suc k = omega arith in e)

-- a cleared part with the answer over its front
pub padded-laid {ℓ} : {A : Type ℓ} (n : ℕ) (blank : A) (answer : List A) → laid answer (replicate n blank) ≡ padded n blank answer
unfolding padded laid
padded-laid n blank answer = ap (λ (l : List _). answer ++ l) (drop-replicate (length answer) n blank)

-- the same of a part that a call has cleared and filled
pub padded_filled {ℓ} : {A : Type ℓ} (k n : ℕ) (blank : A) (answer part whole : List A) → n ≡ k → part ≡ replicate n blank → whole ≡ laid answer part → whole ≡ padded k blank answer
padded_filled k n blank answer part whole e b h = h ∙ ap (laid answer) (b ∙ ap (λ (i : ℕ). replicate i blank) e) ∙ padded-laid k blank answer
