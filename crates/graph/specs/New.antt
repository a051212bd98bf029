-- The call new: a code from n, m, a seed and the degrees; the numbers of the code, and by which refusals it is turned down. Document 01, part 2; nb.rs, `NbCode::new`.
-- Assumes nothing.
use Rattle.std.specs.Prelude.{ℕ, Bool, List, [], ◌∷◌, ◌++◌, ltb, length}
use Rattle.lists.specs.AnyBelow.{any_below}
use Rattle.lists.specs.Entry.{nth}
use Rattle.lists.specs.Total.{total}
use Rattle.calls.specs.Refusal.{misfit}
use Rattle.calls.specs.declared.Refusal.{Refusal}
use Rattle.calls.specs.declared.Refusal.TheVariants.{Size, Length, DegreeSum, DegreeTooHigh}
use Rattle.graph.specs.declared.Code.{Code}
use Rattle.graph.specs.Sizes.{too_large, code_lengths}
use Rattle.elimination.specs.Graph.{Graph, check_count, edges}
use Rattle.elimination.specs.Elimination.{reduced}
use Rattle.graph.specs.Parts.{Parts}

-- the work parts: each check's variables with their counts, each variable's checks with theirs
pub record Work : Type 0 where
  pub chk : List ℕ
  pub load : List ℕ
  pub own : List ℕ
  pub deg : List ℕ

-- what stands in them
abbrev pub lent_work : List ℕ → List ℕ → List ℕ → List ℕ → Work
lent_work chk load own deg = record { chk = chk; load = load; own = own; deg = deg }

abbrev pub work_lengths : Work → List (ℕ × ℕ)
work_lengths w = (length w.chk, 65536) ∷ (length w.load, 256) ∷ (length w.own, 65536) ∷ (length w.deg, 256) ∷ []

-- 4: "Degrees that sum to more than 512"
unfoldable pub too_many : ℕ → List ℕ → Bool
too_many n degrees = ltb 512 (total n (nth degrees))

-- 5: "A degree above m"
unfoldable pub too_high : ℕ → ℕ → List ℕ → Bool
too_high n m degrees = any_below n (λ v. ltb m (nth degrees v))

abbrev pub new_refusals : ℕ → ℕ → List ℕ → Parts → Work → List (Bool × Refusal)
new_refusals n m degrees code work =
    (too_large n m, Size)
    ∷ (misfit ((length degrees, n) ∷ (code_lengths code ++ work_lengths work)), Length)
    ∷ (too_many n degrees, DegreeSum)
    ∷ (too_high n m degrees, DegreeTooHigh)
    ∷ []

-- the numbers of a code
unfoldable pub numbers : Graph → List ℕ → Code
numbers g order = record { n = g.n; m = check_count g; edges = length (edges g); rank = (reduced g order).rank }
