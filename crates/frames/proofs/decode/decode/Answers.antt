-- `frames::decode::decode` meets its contract: what it builds and views is the rate's code, which is sound.
use Prim.Native.Nat.{ℕ, ◌*◌, ◌≤◌}
use mathlib.Core.Path.{◌≡◌, sym, ap, ◌∙◌}
use native.Mathlib.Omega.{arith}
use lib.ListN.{length}
use lib.Seq.{length-take-le}
use Rattle.calls.specs.Refusal.{first_of, answered}
use Rattle.calls.specs.Parts.{written, posted, counted}
use Rattle.graph.specs.declared.Code.{Code}
use Rattle.lent.specs.Held.{Held}
use Rattle.rates.specs.RateCode.{rate_code}
use Rattle.rates.proofs.RateCode.{rate_accepted, rate_parts_fit, rate_n}
use Rattle.rates.proofs.Theorem.{rate_well}
use Rattle.frames.specs.Found.{frame_metrics, frame_rounds, frame_posteriors, frame_tests, frame_bits}
use Rattle.frames.specs.Decode.{decoded_bits, decoded_rounds, decoded_posteriors}
use Rattle.frames.proofs.decode.decode.Goals.{After-view-lent, After-known_sound}
use Rattle.frames.proofs.decode.decode.Goals as goal

-- the code that is viewed
held : (c : After-view-lent) → c.view-lent.result ≡ rate_code c.args.rate c.args.layout.set
held c =
    let l = rate_code c.args.rate c.args.layout.set in
    let built = c.build_in-code.ensures in
    c.view-lent.ensures l.parts (rate_parts_fit c.args.rate c.requires.is_rate c.args.layout.set) built.words_after built.bytes_after
    ∙ ap (λ (n : Code). record { code = n; parts = l.parts }) built.value

pub known_sound-requires : goal.known_sound-requires
known_sound-requires c = record { accepted = rw (held (goal.at.known_sound-requires c).After-view-lent) (rate_accepted c.args.rate c.requires.is_rate c.args.layout.set) }

same : (c : After-known_sound) → c.known_sound.result ≡ rate_code c.args.rate c.args.layout.set
same c = c.known_sound.ensures ∙ held (goal.at.After-known_sound c).After-view-lent

-- its symbols
count : (c : After-known_sound) → c.args.rate.n ≡ c.known_sound.result.code.n
count c = sym (ap (λ (l : Held). l.code.n) (same c) ∙ rate_n c.args.rate c.requires.is_rate c.args.layout.set)

pub decode_on-requires-clause-enough : goal.decode_on-requires-clause-enough
decode_on-requires-clause-enough c =
    rw (same (goal.at.decode_on-requires-clause-enough c).After-known_sound)
    ((rate_well c.args.rate c.requires.is_rate).sets c.args.layout.set).enough

pub decode_on-requires-clause-outputs : goal.decode_on-requires-clause-outputs
decode_on-requires-clause-outputs c =
    let n = ap (λ (k : ℕ). k * 32) (count (goal.at.decode_on-requires-clause-outputs c).After-known_sound) in
    (c.requires.lengths.1, c.requires.lengths.2 ∙ n)

-- the lengths of the parts that are cut off
module _ (c : After-known_sound) where
  matrix-length : 65536 ≤ length c.build_in-code.new.more_bytes
  matrix-length = omega (arith, c.build_in-code.auto.more_bytes, c.split_at_mut-bytes.ensures.back_len, c.requires.work.1)

  with-length : c.args.rate.n * 32 ≤ length c.split_at_mut-vectors.result.1.now
  with-length = omega (arith, c.split_at_mut-vectors.ensures.back_len, c.requires.work.2, c.requires.is_rate.buildable.n_small)

pub slice_bounds-decode_on-end-2 : goal.slice_bounds-decode_on-end-2
slice_bounds-decode_on-end-2 c =
    sym (length-take-le 65536 c.build_in-code.new.more_bytes (matrix-length (goal.at.slice_bounds-decode_on-end-2 c).After-known_sound))

pub decode_on-requires-clause-lengths : goal.decode_on-requires-clause-lengths
decode_on-requires-clause-lengths c =
    let k = (goal.at.decode_on-requires-clause-lengths c).After-known_sound in
    let n = ap (λ (k : ℕ). k * 32) (count k) in (
      omega (arith, c.split_at_mut-vectors.ensures.front_len),
      c.requires.lengths.0 ∙ n,
      length-take-le 65536 c.build_in-code.new.more_bytes (matrix-length k),
      length-take-le (c.args.rate.n * 32) c.split_at_mut-vectors.result.1.now (with-length k) ∙ n,
    )

pub returns-clause-answer : goal.returns-clause-answer
returns-clause-answer c =
    let a = c.args in
    c.decode_on.ensures.answer
    ∙ ap (λ (l : Held). answered (first_of (frame_tests l a.layout.map (frame_metrics l a.layout.map a.metrics.now a.prior.now) a.prior.now a.fallback)) tt)
    (same (goal.at.returns-clause-answer c).After-known_sound)

pub returns-clause-rounds : goal.returns-clause-rounds
unfolding decoded_rounds
returns-clause-rounds c =
    let a = c.args in
    c.decode_on.ensures.rounds
    ∙ ap (λ (l : Held). counted c.decode_on.result.answer (frame_rounds l (frame_metrics l a.layout.map a.metrics.now a.prior.now)))
    (same (goal.at.returns-clause-rounds c).After-known_sound)

pub returns-clause-bits_after : goal.returns-clause-bits_after
unfolding decoded_bits
returns-clause-bits_after c =
    let a = c.args in
    c.decode_on.ensures.bits_after
    ∙ ap (λ (l : Held). written c.decode_on.result.answer a.bits.now (frame_bits l a.layout.map (frame_metrics l a.layout.map a.metrics.now a.prior.now)))
    (same (goal.at.returns-clause-bits_after c).After-known_sound)

pub returns-clause-posteriors_after : goal.returns-clause-posteriors_after
unfolding decoded_posteriors
returns-clause-posteriors_after c =
    let a = c.args in
    c.decode_on.ensures.posteriors_after
    ∙ ap (λ (l : Held). posted c.decode_on.result.answer a.posteriors.now (frame_posteriors l (frame_metrics l a.layout.map a.metrics.now a.prior.now)))
    (same (goal.at.returns-clause-posteriors_after c).After-known_sound)
