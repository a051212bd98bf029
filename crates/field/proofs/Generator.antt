-- Laws of the generator's states.
-- Assumes nothing.
use Rattle.std.proofs.Common.{◌≡◌, ℕ, ◌+◌}
use Rattle.lists.proofs.Iter.{iter_start, iter_on}
use Rattle.field.specs.SplitMix64.{next, after}

pub after_start : (s : ℕ) → s ≡ after 0 s
unfolding after
after_start s = iter_start (λ _ t. next t) s

pub after_on : (k s t : ℕ) → t ≡ after k s → next t ≡ after (k + 1) s
unfolding after
after_on k s t e = iter_on k (λ _ t. next t) s t e
