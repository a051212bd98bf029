-- The clauses of the calls of words, peeling, rates and frames, as they stand in their contracts, say what the promise says of these calls.
-- Assumes nothing.
use Prim.Native.Nat.{ℕ}
use mathlib.Core.Path.{◌≡◌, sym, ap, ◌∙◌}
use mathlib.Core.List.{List}
use lib.Ieee.{Float}
use lib.IntN.{ℤ}
use lib.ListN.{length}
use Rattle.std.specs.Prelude.{Result, Ok}
use Rattle.calls.specs.declared.Refusal.{Refusal}
use Rattle.calls.specs.Refusal.{first_of, answered}
use Rattle.calls.specs.Parts.{written, counted}
use Rattle.graph.specs.declared.Code.{Code}
use Rattle.graph.specs.Parts.{Parts}
use Rattle.lent.specs.Held.{Held}
use Rattle.words.specs.Encode.{encode_refusals, encoded}
use Rattle.peeling.specs.WithPeeledInfo.{peeled_refusals, peeled_code, peeled_parts}
use Rattle.rates.specs.Rate.{rate_of}
use Rattle.rates.specs.RateCode.{set_of, rate_code}
use Rattle.decoders.specs.declared.Decoding.{Decoding}
use Rattle.frames.specs.Decode.{decode_answer, decoded_bits, decoded_rounds}
use Rattle.frames.specs.EncodeBits.{encode_bits_refusals}
use Rattle.frames.specs.FrameLayout.{frame_layout}
use Rattle.frames.specs.Tones.{tones_of}
use Rattle.promise.specs.Calls.{Encodes, Peels}
use Rattle.promise.specs.FrameCalls.{code_at_answer, CodeAt, Toned, encode_bits_at, Framed, decode_bits_prior_at}

-- encode, by `answer` and `word_after`: where it accepts, the symbols encode to what it leaves
pub encode_given : (l : Held) (u word : List ℕ) (h pivots : ℕ) {result : Result (Unit {0}) Refusal} {new : List ℕ}
    → result ≡ answered (first_of (encode_refusals l u (length word) h pivots)) tt → new ≡ written result word (encoded l u)
    → result ≡ Ok tt → Encodes l h pivots word u new
encode_given l u word h pivots a w e =
    record { accepts = sym a ∙ e; leaves = ap (λ (r : Result (Unit {0}) Refusal). written r word (encoded l u)) (sym a) ∙ sym w }

-- with_peeled_info, by `answer` and `code_after`
pub peeled_given : (l : Held) (prefer : List ℤ) (h pivots : ℕ) {result : Result Code Refusal} {new : Parts}
    → result ≡ answered (first_of (peeled_refusals l.code l.parts prefer h pivots)) (peeled_code l.code l.parts prefer)
    → new ≡ written result l.parts (peeled_parts l.code l.parts prefer)
    → (c : Code) → result ≡ Ok c → Peels l h pivots prefer (record { code = c; parts = new })
peeled_given l prefer h pivots a w c e =
    record { accepts = sym a ∙ e; leaves = ap (λ (r : Result Code Refusal). written r l.parts (peeled_parts l.code l.parts prefer)) (sym a) ∙ sym w }

-- code_at, by `answer` and `code_after`
pub code_at_given : (rate set : ℕ) (p : Parts) (words bytes : ℕ) {result : Result Code Refusal} {new : Parts}
    → result ≡ code_at_answer rate set p words bytes → new ≡ written result p (rate_code (rate_of rate) (set_of set)).parts
    → (c : Code) → result ≡ Ok c → CodeAt rate set p words bytes (record { code = c; parts = new })
code_at_given rate set p words bytes a w c e =
    record { accepts = sym a ∙ e; leaves = ap (λ (r : Result Code Refusal). written r p (rate_code (rate_of rate) (set_of set)).parts) (sym a) ∙ sym w }

-- encode_bits_at, by `answer` and `tones_after`; the forms without a rate or a layout are its instances
pub encode_bits_given : (rate layout : ℕ) (bits tones : List ℕ) (words bytes : ℕ) {result : Result (Unit {0}) Refusal} {new : List ℕ}
    → result ≡ answered (first_of (encode_bits_refusals rate layout (length bits) (length tones) words bytes)) tt
    → new ≡ written result tones (tones_of (rate_of rate) (frame_layout layout) bits)
    → ◌≡◌ {A = Toned} (record { answer = result; tones = new }) (encode_bits_at rate layout bits tones words bytes)
unfolding encode_bits_at
encode_bits_given rate layout bits tones words bytes {result} a w =
    rw (w)
    (ap (λ (r : Result (Unit {0}) Refusal). record { answer = r; tones = written r tones (tones_of (rate_of rate) (frame_layout layout) bits) }) a)

-- decode_bits_prior_at, by `answer`, `rounds` and `bits_after`; the forms without a rate, a layout, a fallback or a prior are its instances
pub decode_bits_given : (rate layout : ℕ) (metrics prior : List Float) (fallback : ℕ) (bits : List ℕ) (posteriors words bytes floats : ℕ)
    → {a : Decoding} → a.answer ≡ decode_answer rate layout metrics prior fallback (length bits) posteriors words bytes floats
    → a.rounds ≡ counted a.answer (decoded_rounds (rate_of rate) (frame_layout layout) metrics prior)
    → {new : List ℕ} → new ≡ written a.answer bits (decoded_bits (rate_of rate) (frame_layout layout) metrics prior)
    → ◌≡◌ {A = Framed} (record { answer = a; bits = new }) (decode_bits_prior_at rate layout metrics prior fallback bits posteriors words bytes floats)
unfolding decode_bits_prior_at
decode_bits_given rate layout metrics prior fallback bits posteriors words bytes floats {a} e r w =
    let made = decoded_rounds (rate_of rate) (frame_layout layout) metrics prior in
    let back = decoded_bits (rate_of rate) (frame_layout layout) metrics prior in
    rw (w)
    (ap (λ (k : ℕ). record { answer = record { answer = a.answer; rounds = k }; bits = written a.answer bits back }) r
    ∙ ap (λ (x : Result (Unit {0}) Refusal). record { answer = record { answer = x; rounds = counted x made }; bits = written x bits back }) e)
