-- The clauses of a decoder say together what the terms are of which the theorems speak: `decode_soft` and `list_decode` of specs/. Here they are made one equation each.
-- Assumes nothing.
use Prim.Native.Nat.{ℕ, ◌*◌}
use mathlib.Core.Path.{◌≡◌, refl, sym, ap, ◌∙◌}
use mathlib.Core.List.{List}
use lib.Ieee.{Float}
use lib.ListN.{length, replicate, length-replicate}
use Rattle.std.specs.Prelude.{Result}
use Rattle.calls.specs.declared.Refusal.{Refusal}
use Rattle.calls.specs.Parts.{written, posted, counted}
use Rattle.graph.specs.declared.Code.{Code}
use Rattle.graph.specs.Parts.{Parts}
use Rattle.lent.specs.Misencoded.{graph_in}
use Rattle.vectors.specs.Float32.{zero32}
use Rattle.candidates.specs.ListWord.{list_word}
use Rattle.decoders.specs.declared.Decoding.{Decoding}
use Rattle.decoders.specs.BeliefPropagation as Bp
use Rattle.decoders.specs.DecodeSoft.{DecodedSoft, soft_answer, last_decisions, last_posteriors, decoded_from, decode_soft}
use Rattle.decoders.specs.Decode.{decode_answer, Decoded, decode}
use Rattle.decoders.specs.ListDecode.{list_answer, ListDecoded, list_decode}

-- decode_soft
pub soft_given : (c : Code) (p : Parts) (metrics : List Float) (known limit : ℕ) (word : List ℕ) (posteriors : List Float) (h pivots vectors : ℕ)
    → {a : Decoding} → a.answer ≡ soft_answer c p metrics known limit (length word) (length posteriors) h pivots vectors → a.rounds ≡ counted a.answer (Bp.rounds c p metrics known limit)
    → {word' : List ℕ} → word' ≡ written a.answer word (last_decisions c p metrics known limit)
    → {posteriors' : List Float} → posteriors' ≡ posted a.answer posteriors (last_posteriors c p metrics known limit)
    → ◌≡◌ {A = DecodedSoft} (record { answer = a; word = word'; posteriors = posteriors' }) (decode_soft c p metrics known limit word posteriors h pivots vectors)
unfolding decode_soft decoded_from Bp.first Bp.rounds
soft_given c p metrics known limit word posteriors h pivots vectors {a} e r w q =
    rw (w, q)
    (ap (λ (k : ℕ). record { answer = record { answer = a.answer; rounds = k }; word = written a.answer word (last_decisions c p metrics known limit); posteriors = posted a.answer posteriors (last_posteriors c p metrics known limit) }) r
    ∙ ap (λ (x : Result (Unit {0}) Refusal). record { answer = record { answer = x; rounds = counted x (Bp.rounds c p metrics known limit) }; word = written x word (last_decisions c p metrics known limit); posteriors = posted x posteriors (last_posteriors c p metrics known limit) }) e)

-- decode: the answer and the word of decode_soft with a part of zeros for the posteriors
pub decode_given : (c : Code) (p : Parts) (metrics : List Float) (known limit : ℕ) (word : List ℕ) (h pivots vectors : ℕ)
    → {a : Decoding} → a.answer ≡ decode_answer c p metrics known limit (length word) h pivots vectors → a.rounds ≡ counted a.answer (Bp.rounds c p metrics known limit)
    → {word' : List ℕ} → word' ≡ written a.answer word (last_decisions c p metrics known limit)
    → (a ≡ (decode_soft c p metrics known limit word (replicate (c.n * 32) zero32) h pivots vectors).answer)
    × (word' ≡ (decode_soft c p metrics known limit word (replicate (c.n * 32) zero32) h pivots vectors).word)
decode_given c p metrics known limit word h pivots vectors {a} e r w =
    let zeros : List Float = replicate (c.n * 32) zero32 in
    let long = ap (λ (k : ℕ). soft_answer c p metrics known limit (length word) k h pivots vectors) (sym (length-replicate (c.n * 32) zero32)) in
    let given = soft_given c p metrics known limit word zeros h pivots vectors {a = a} (e ∙ long) r w {posteriors' = posted a.answer zeros (last_posteriors c p metrics known limit)} refl in
    (ap (λ (d : DecodedSoft). d.answer) given, ap (λ (d : DecodedSoft). d.word) given)

-- and its own term
pub hard_given : (c : Code) (p : Parts) (metrics : List Float) (known limit : ℕ) (word : List ℕ) (h pivots vectors : ℕ)
    → {a : Decoding} → a.answer ≡ decode_answer c p metrics known limit (length word) h pivots vectors → a.rounds ≡ counted a.answer (Bp.rounds c p metrics known limit)
    → {word' : List ℕ} → word' ≡ written a.answer word (last_decisions c p metrics known limit)
    → ◌≡◌ {A = Decoded} (record { answer = a; word = word' }) (decode c p metrics known limit word h pivots vectors)
unfolding decode
hard_given c p metrics known limit word h pivots vectors {a} e r w =
    rw (w)
    (ap (λ (k : ℕ). record { answer = record { answer = a.answer; rounds = k }; word = written a.answer word (last_decisions c p metrics known limit) }) r
    ∙ ap (λ (x : Result (Unit {0}) Refusal). record { answer = record { answer = x; rounds = counted x (Bp.rounds c p metrics known limit) }; word = written x word (last_decisions c p metrics known limit) }) e)

-- list_decode
pub list_given : (c : Code) (p : Parts) (metrics posteriors : List Float) (width : ℕ) (word : List ℕ) (matrix pivots : ℕ)
    → {a : Decoding} → a.answer ≡ list_answer c p metrics posteriors width (length word) matrix pivots → a.rounds ≡ 0
    → {new : List ℕ} → new ≡ written a.answer word (list_word (graph_in c p) p.order posteriors metrics width)
    → ◌≡◌ {A = ListDecoded} (record { answer = a; word = new }) (list_decode c p metrics posteriors width word matrix pivots)
unfolding list_decode
list_given c p metrics posteriors width word matrix pivots {a} e r w =
    rw (w)
    (ap (λ (k : ℕ). record { answer = record { answer = a.answer; rounds = k }; word = written a.answer word (list_word (graph_in c p) p.order posteriors metrics width) }) r
    ∙ ap (λ (x : Result (Unit {0}) Refusal). record { answer = record { answer = x; rounds = 0 }; word = written x word (list_word (graph_in c p) p.order posteriors metrics width) }) e)
