-- The promise of frames holds: the tones of all bits, and the decoding of all metrics and priors.
-- Assumes nothing.
use Rattle.frames.specs.Promise.{Promised}
use Rattle.frames.proofs.Decoded.{frame_decodes, rate_decodes}
use Rattle.frames.proofs.Encoded.{tones, frame_tones}
use Rattle.frames.proofs.Narrow.{never_wide}

pub promise : Promised
promise = record { tones = tones; rate_tones = λ r layout ok. frame_tones r layout ok; decoding = frame_decodes; rate_decoding = rate_decodes; narrow = never_wide }
