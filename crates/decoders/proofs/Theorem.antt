-- What is promised of the decoders holds, of belief propagation by its rounds: it accepts exactly where one of them up to the limit satisfies all checks, with the decisions of
-- the first that does. Of list decoding: ListTheorem.
-- Assumes nothing.
use Prim.Native.Nat.{ℕ, ◌+◌, ◌*◌, ◌<◌, ◌≤◌}
use mathlib.Core.Path.{◌≡◌, refl, sym, ap, subst, ◌∙◌}
use mathlib.Core.Bool.{Bool, false, ◌&&◌}
use mathlib.Core.List.{List, [], ◌∷◌}
use native.Mathlib.Omega.{arith}
use lib.Dec.{ltb}
use lib.Ieee.{Float, nan}
use lib.ListN.{length, replicate}
use Rattle.lists.specs.Chain.{chain}
use Rattle.lists.specs.Entry.{nth}
use Rattle.lists.proofs.Chain.{start_even, chain_at}
use Rattle.std.specs.Prelude.{Ok, Err}
use Rattle.calls.specs.declared.Refusal.{Refusal}
use Rattle.calls.specs.declared.Refusal.TheVariants.{WideCheck, NoWord}
use Rattle.calls.specs.Refusal.{number_of, misfit}
use Rattle.calls.proofs.Refusals as Refusals
use Rattle.elimination.specs.Held.{held}
use Rattle.elimination.proofs.Infos.{info_inside}
use Rattle.graph.specs.declared.Code.{Code}
use Rattle.graph.specs.Parts.{Parts}
use Rattle.lent.specs.Misencoded.{graph_in, reduced_in}
use Rattle.lent.specs.LentCode.{NotRefused, matrix_lengths, code_refusals}
use Rattle.lent.proofs.SoundCode.{call_passes}
use Rattle.words.specs.Encoding.{information_of}
use Rattle.vectors.specs.Fine.{Fine}
use Rattle.vectors.specs.Float32.{zero32}
use Rattle.vectors.specs.Vector.{Vector, at}
use Rattle.rounds.specs.Tanner.{Tanner, tanner_in}
use Rattle.rounds.specs.Round.{State}
use Rattle.rounds.specs.Begin.{begin}
use Rattle.rounds.specs.Rounds.{posteriors_after, decisions}
use Rattle.rounds.proofs.ByRounds.{decisions-zero}
use Rattle.rounds.proofs.FineRounds.{channels_fine, posteriors_after-length, posteriors_after_fine}
use Rattle.rounds.proofs.KnownRounds.{known_channel}
use Rattle.decoders.specs.declared.Decoding.{Decoding}
use Rattle.decoders.specs.BeliefPropagation.{start, wide, tests}
use Rattle.decoders.specs.DecodeSoft.{DecodedSoft, own_lengths, decode_soft}
use Rattle.decoders.specs.Decode.{Decoded, decode}
use Rattle.decoders.specs.Decodes as Specs
use Rattle.decoders.specs.Promise.{Promised}
use Rattle.decoders.specs.Propagates.{Propagates}
use Rattle.decoders.proofs.Answers.{done_not_refused, one_refusal}
use Rattle.decoders.proofs.FromState as From
use Rattle.decoders.proofs.Given.{decode_given}
use Rattle.decoders.proofs.ListTheorem.{list_decodes, accepted_passes}

-- n vectors one after another, read back
vectors_at : (n : ℕ) (f : ℕ → Vector) → ((v : ℕ) → length (f v) ≡ 32) → (v x : ℕ) → v < n → x < 32 → at (chain n f) (v * 32 + x) ≡ at (f v) x
vectors_at n f long v x h l =
    ap (λ (k : ℕ). at (chain n f) (k + x)) (sym (start_even 32 v f (λ i _. long i))) ∙ chain_at f n v x nan h (omega (arith, long v))

module _ (c : Code) (p : Parts) (metrics : List Float) (known limit : ℕ) (word : List ℕ) (given : List Float) (matrix pivots vectors : ℕ) where
  -- what the call gives, matrix, pivots and vectors being the lengths of the work parts
  abbrev d : DecodedSoft
  d = decode_soft c p metrics known limit word given matrix pivots vectors

  -- the graph, and the state from which rounds are made
  abbrev t : Tanner
  t = tanner_in c p

  abbrev s : State
  s = start c p metrics known

  abbrev positions : List ℕ
  positions = information_of (graph_in c p) p.order

  -- whether one of the call's own parts has a wrong length
  abbrev rest : Bool
  rest = misfit (own_lengths c (length metrics) (length word) (length given) vectors)

  -- that it comes to its rounds, and what is then promised of it
  abbrev ComesToRounds : Type 0
  ComesToRounds = Specs.ComesToRounds c p metrics known limit word given matrix pivots vectors

  abbrev Decodes : Type 0
  Decodes = Specs.Decodes c p metrics known limit word given matrix pivots vectors

  -- the tests before the rounds
  abbrev early : List (Bool × Refusal)
  early = tests c p matrix pivots rest limit

  -- "Unless refused by a number other than 10" it comes to its rounds
  pub comes : ((r : Refusal) → d.answer.answer ≡ Err r → number_of r ≡ 10) → ComesToRounds
  unfolding decode_soft
  comes = From.comes early tt t s limit word given

  -- so does every call on a code that is not refused, with parts of the right lengths and, where a round may be made, no check of degree above 32
  pub fitting_comes : NotRefused c p → Refusals.Alike (matrix_lengths matrix pivots) → Refusals.Alike (own_lengths c (length metrics) (length word) (length given) vectors) → (ltb 0 limit && wide c.m p.row) ≡ false → ComesToRounds
  fitting_comes ok a b w =
      Refusals.second (code_refusals c p matrix pivots rest) ((ltb 0 limit && wide c.m p.row, WideCheck) ∷ [])
      (call_passes c p matrix pivots rest ok a (Refusals.fitting (own_lengths c (length metrics) (length word) (length given) vectors) false b refl))
      ∙ sym (Refusals.first_miss WideCheck [] refl w refl)

  -- the posteriors of round r
  every_fine : (r v : ℕ) → Fine (posteriors_after t s r v)
  unfolding start begin
  every_fine r v = posteriors_after_fine t s v (channels_fine positions metrics known v) r

  -- the later information positions begin as known zeros
  pub begun_known : From.KnownPast c p s known
  unfolding start
  begun_known = known_channel t positions metrics known

  every_zero : (r i : ℕ) → known ≤ i → i < length positions → nth (decisions t s r) (nth positions i) ≡ 0
  unfolding information_of held
  every_zero r i a b = decisions-zero t s r (nth positions i) (info_inside c.n (reduced_in c p) i b) (begun_known i a b)

  pub decodes : ComesToRounds → Decodes
  unfolding decode_soft
  decodes e =
      let w = From.decodes early tt t s limit word given e in
      let q = w.rounds in
      record {
        accepts = λ r a b y. q.exactly.1 (r, record { from = a; upto = b; satisfied = y });
        counts = λ z. let n = q.counted z in (n.from, n.upto, n.satisfied);
        earliest = q.earliest;
        decided = q.decided;
        is_word = q.is_word;
        zeros = λ z i a b. ap (λ (x : List ℕ). nth x (nth positions i)) (q.decided z) ∙ every_zero d.answer.rounds i a b;
        refused = λ z. ((w.refused z).0, q.limited z, (w.refused z).1);
        none = q.none;
        finite = λ v x h l.
            rw (w.posteriors, vectors_at c.n (posteriors_after t s d.answer.rounds) (posteriors_after-length t s d.answer.rounds) v x h l)
            (every_fine d.answer.rounds v x l);
        rounds_finite = every_fine;
        rounds_zeros = every_zero;
      }

  -- so of every call that accepts, and of every one that 10 turns down
  pub accepted : d.answer.answer ≡ Ok tt → Decodes
  accepted z = decodes (comes (λ r q. absurd (done_not_refused r (sym z ∙ q))))

  pub under_ten : d.answer.answer ≡ Err NoWord → Decodes
  under_ten z = decodes (comes (λ r q. ap number_of (one_refusal r NoWord (sym q ∙ z))))

  -- ---- by its answer, its count and its word

  pub soft_propagates : Propagates c p s known limit d.answer.answer d.answer.rounds d.word
  unfolding decode_soft
  soft_propagates = From.from_propagates c p s known begun_known early tt limit word given

-- and of the one without posteriors
module _ (c : Code) (p : Parts) (metrics : List Float) (known limit : ℕ) (word : List ℕ) (h pivots vectors : ℕ) where
  -- what it gives, and what the other does with a part of zeros
  abbrev hard : Decoded
  hard = decode c p metrics known limit word h pivots vectors

  abbrev soft : DecodedSoft
  soft = decode_soft c p metrics known limit word (replicate (c.n * 32) zero32) h pivots vectors

  hard_same : (hard.answer ≡ soft.answer) × (hard.word ≡ soft.word)
  unfolding decode
  hard_same = decode_given c p metrics known limit word h pivots vectors {a = hard.answer} refl refl refl

  pub hard_propagates : Propagates c p (start c p metrics known) known limit hard.answer.answer hard.answer.rounds hard.word
  hard_propagates =
      subst (λ (a : Decoding). Propagates c p (start c p metrics known) known limit a.answer a.rounds hard.word) (sym hard_same.0)
      (subst (Propagates c p (start c p metrics known) known limit soft.answer.answer soft.answer.rounds) (sym hard_same.1)
      (soft_propagates c p metrics known limit word (replicate (c.n * 32) zero32) h pivots vectors))

pub promise : Promised
promise c p metrics known limit likely width word posteriors h pivots vectors = record {
  comes = comes c p metrics known limit word posteriors h pivots vectors;
  decodes = decodes c p metrics known limit word posteriors h pivots vectors;
  soft_rounds = soft_propagates c p metrics known limit word posteriors h pivots vectors;
  hard_rounds = hard_propagates c p metrics known limit word h pivots vectors;
  list_passes = accepted_passes c p metrics likely width word h pivots;
  list_decodes = list_decodes c p metrics likely width word h pivots;
}
