-- The call decode: "`decode` only drops the posteriors". Document 01, part 4; nb.rs, `decode`.
-- Assumes nothing.
use Rattle.std.specs.Prelude.{ℕ, ◌*◌, List, Result, Float, length}
use Rattle.calls.specs.declared.Refusal.{Refusal}
use Rattle.calls.specs.Parts.{written, counted}
use Rattle.graph.specs.declared.Code.{Code}
use Rattle.graph.specs.Parts.{Parts}
use Rattle.decoders.specs.declared.Decoding.{Decoding}
use Rattle.decoders.specs.BeliefPropagation.{rounds}
use Rattle.decoders.specs.DecodeSoft.{soft_answer, last_decisions}

-- decode_soft's answer, with a part of the right length for the posteriors
abbrev pub decode_answer : Code → Parts → List Float → ℕ → ℕ → ℕ → ℕ → ℕ → ℕ → Result (Unit {0}) Refusal
decode_answer c p metrics known limit word h pivots vectors = soft_answer c p metrics known limit word (c.n * 32) h pivots vectors

-- what it gives, together: the answer with its count, and the word part, which holds `word` before
pub record Decoded : Type 0 where
  pub answer : Decoding
  pub word : List ℕ

unfoldable pub decode : Code → Parts → List Float → ℕ → ℕ → List ℕ → ℕ → ℕ → ℕ → Decoded
decode c p metrics known limit word h pivots vectors =
    let a = decode_answer c p metrics known limit (length word) h pivots vectors in
    record { answer = record { answer = a; rounds = counted a (rounds c p metrics known limit) }; word = written a word (last_decisions c p metrics known limit) }
