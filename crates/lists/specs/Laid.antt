-- A list over the front of a part: the part's first entries are the list's, the others as they were. Ours, for a part that a loop fills from the front.
-- Assumes nothing.
use Rattle.std.specs.Prelude.{ℕ, ◌+◌, List, ◌++◌, length, take, drop}

unfoldable pub laid {ℓ} : {A : Type ℓ} → List A → List A → List A
laid l part = l ++ drop (length l) part

-- the same from place `at` on
unfoldable pub laid_from {ℓ} : {A : Type ℓ} → ℕ → List A → List A → List A
laid_from at l part = take at part ++ (l ++ drop (at + length l) part)
