-- A lent code as a value: its numbers, and what stands in its parts. Ours.
-- Assumes nothing.
use Rattle.graph.specs.declared.Code.{Code}
use Rattle.graph.specs.Parts.{Parts}

pub record Held : Type 0 where
  pub code : Code
  pub parts : Parts
