-- Work parts as calls are lent them and as calls clear them, by the numbers that stand for their entries. Ours.
-- Assumes nothing.
use Rattle.std.specs.Prelude.{ℕ, List, replicate}
use Rattle.replay.specs.declared.digest.WorkKind.{WorkKind}
use Rattle.replay.specs.declared.digest.WorkKind.TheVariants.{Large, Small, Vectors, CodeWords, CodeBytes, FrameWords, FrameBytes, FrameFloats}

-- 1065353216 is the bits of 1.0.
abbrev pub as_lent : WorkKind → List ℕ
as_lent Large = replicate 65536 1
as_lent Small = replicate 256 1
as_lent Vectors = replicate 50176 1065353216
as_lent CodeWords = replicate 512 1
as_lent CodeBytes = replicate 131072 1
as_lent FrameWords = replicate 2818 1
as_lent FrameBytes = replicate 147968 1
as_lent FrameFloats = replicate 58368 1065353216

abbrev pub as_cleared : WorkKind → List ℕ
as_cleared Large = replicate 65536 0
as_cleared Small = replicate 256 0
as_cleared Vectors = replicate 50176 0
as_cleared CodeWords = replicate 512 0
as_cleared CodeBytes = replicate 131072 0
as_cleared FrameWords = replicate 2818 0
as_cleared FrameBytes = replicate 147968 0
as_cleared FrameFloats = replicate 58368 0
