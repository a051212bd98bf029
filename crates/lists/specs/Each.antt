-- The loop over a list's entries in place: entry k, for k below n, becomes g k of what stood there. Ours.
-- Assumes nothing.
use Rattle.std.specs.Prelude.{ℕ, List, get_or, set}
use Rattle.lists.specs.Iter.{iter}

-- turn k; `d` stands for an entry past the end
abbrev pub each_turn {ℓ} : {A : Type ℓ} → A → (ℕ → A → A) → ℕ → List A → List A
each_turn d g k l = set l k (g k (get_or l k d))

unfoldable pub each {ℓ} : {A : Type ℓ} → A → ℕ → (ℕ → A → A) → List A → List A
each d n g l = iter n (each_turn d g) l
