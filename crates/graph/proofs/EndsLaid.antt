-- Where each of the lists that stand one after another ends, written past a 0, is where each begins.
-- Assumes nothing.
use Prim.Native.Nat.{ℕ, ◌+◌, ◌-◌, ◌<◌}
use mathlib.Core.Path.{◌≡◌, ap, sym, ◌∙◌}
use mathlib.Core.List.{List}
use native.Mathlib.Omega.{arith}
use borrow.Rule.Slice.PartMut.{put_mid}
use lib.ListN.{length, set}
use Rattle.lists.specs.Chain.{start_of}
use Rattle.lists.specs.Laid.{laid, laid_from}
use Rattle.lists.specs.Values.{values}
use Rattle.lists.proofs.Chain.{start_none}
use Rattle.lists.proofs.InPlace.{put_laid}
use Rattle.lists.proofs.Laid.{fill_start, fill_on, from_laid}
use Rattle.lists.proofs.Values.{values-length, values-add}

-- where list c ends
abbrev pub end_of : (ℕ → List ℕ) → ℕ → ℕ
end_of lists c = start_of lists (1 + c)

pub ends_laid : (lists : ℕ → List ℕ) (n : ℕ) (p q : List ℕ) → n < length p → q ≡ values n (end_of lists) → put_mid 1 (1 + n - 1) (set p 0 0) q ≡ laid (values (n + 1) (start_of lists)) p
ends_laid lists n p q h e =
    let f : ℕ → ℕ = start_of lists in
    let first : set p 0 0 ≡ laid (values (0 + 1) f) p = ap (set p 0) (sym (start_none lists)) ∙ fill_on f 0 p p (omega arith) (fill_start f p) in
    let count : 1 + n ≡ n + 1 = omega arith in
    ap (put_mid 1 (1 + n - 1) (set p 0 0)) e
    ∙ put_laid 1 n (set p 0 0) (values n (end_of lists)) (sym (values-length (end_of lists) n))
    ∙ ap (laid_from 1 (values n (end_of lists))) first
    ∙ from_laid 1 (values (0 + 1) f) (values n (end_of lists)) p (sym (values-length f (0 + 1)))
    ∙ ap (λ (l : List ℕ). laid l p) (sym (values-add 1 n f) ∙ ap (λ (k : ℕ). values k f) count)
