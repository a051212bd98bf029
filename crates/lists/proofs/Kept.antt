-- The numbers below j that pass a test, put one after another into a part from place `at` on: as a loop runs it, k being the next place.
-- Assumes nothing.
use mathlib.Core.Path.{◌≡◌, sym, ap, ◌∙◌}
use mathlib.Core.Bool.{Bool, true, false}
use mathlib.Core.List.{List, [], ◌∷◌, ◌++◌}
use Prim.Native.Nat.{ℕ, ◌+◌, ◌<◌}
use native.Mathlib.Nat.{add-zero}
use native.Mathlib.Numerals.{add-one}
use native.Mathlib.Omega.{arith}
use lib.ListN.{length, set, length-append}
use Rattle.lists.specs.Keep.{keep_below}
use Rattle.lists.specs.Laid.{laid_from}
use Rattle.lists.proofs.Keep.{keep_below_yes, keep_below_no, keep_below_none}
use Rattle.lists.proofs.Laid.{from_start, from_on}

pub record Kept (test : ℕ → Bool) (at j k : ℕ) (part l : List ℕ) : Type 0 where
  pub count : k ≡ at + length (keep_below test j)
  pub there : l ≡ laid_from at (keep_below test j) part

module _ (test : ℕ → Bool) (at : ℕ) (part : List ℕ) where
  pub kept_start : Kept test at 0 at part part
  kept_start = record {
    count = sym (ap (λ (x : List ℕ). at + length x) (keep_below_none test) ∙ add-zero at);
    there = from_start at part ∙ ap (λ (x : List ℕ). laid_from at x part) (sym (keep_below_none test));
  }

  pub kept_pass : (j k : ℕ) (l : List ℕ) → test j ≡ true → k < length part → Kept test at j k part l → Kept test at (j + 1) (k + 1) part (set l k j)
  kept_pass j k l t h w = record {
    count = let n = ap length more ∙ length-append (keep_below test j) (j ∷ []) in omega (arith, w.count);
    there = from_on at (keep_below test j) part l k j w.count h w.there ∙ ap (λ (x : List ℕ). laid_from at x part) (sym more);
  }
    where
      more : keep_below test (j + 1) ≡ keep_below test j ++ j ∷ []
      more = ap (keep_below test) (add-one j) ∙ keep_below_yes test j t

  pub kept_fail : (j k : ℕ) (l : List ℕ) → test j ≡ false → Kept test at j k part l → Kept test at (j + 1) k part l
  kept_fail j k l t w = record { count = w.count ∙ ap (λ (x : List ℕ). at + length x) (sym same); there = w.there ∙ ap (λ (x : List ℕ). laid_from at x part) (sym same) }
    where
      same : keep_below test (j + 1) ≡ keep_below test j
      same = ap (keep_below test) (add-one j) ∙ keep_below_no test j t
