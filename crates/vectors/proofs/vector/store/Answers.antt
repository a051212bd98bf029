-- `vectors::vector::store` meets its contract. The invariant: the first x entries are laid from the vector's place on.
use native.Mathlib.Omega.{arith}
use Rattle.vectors.proofs.Stored.{storing_start, storing_on, storing_end}
use Rattle.vectors.proofs.vector.store.Goals as goal

pub loop-x-init : goal.loop-x-init
loop-x-init c = storing_start _ _ _

pub loop-x-preserved : goal.loop-x-preserved
loop-x-preserved c = storing_on _ _ _ _ _ (omega arith) c.loop-x.invariant

pub returns : goal.returns
returns c = storing_end _ _ _ _ _ (omega arith) c.loop-x.invariant
