-- A frame's decoding, of every code that is not refused and has 52 information positions or more, every map, all metrics and priors and both fallbacks: from the theorem about belief
-- propagation.
-- Assumes nothing.
use Prim.Native.Nat.{ℕ, ◌*◌, ◌≤◌}
use mathlib.Core.Path.{◌≡◌, refl, sym, ap, subst, ◌∙◌}
use mathlib.Core.Logic.{◌≢◌}
use mathlib.Core.Bool.{Bool, true, false, not, true≢false, ◌&&◌}
use mathlib.Core.List.{List}
use native.Mathlib.Omega.{arith}
use lib.Dec.{eqb}
use lib.Ieee.{Float}
use lib.ListN.{length, replicate, length-replicate}
use Rattle.std.specs.Prelude.{Ok, Err, is_err}
use Rattle.lists.specs.Entry.{nth}
use Rattle.lists.proofs.Choice.{pick-true, pick-false}
use Rattle.calls.specs.declared.Refusal.{Refusal}
use Rattle.calls.specs.declared.Refusal.TheVariants.{NoWord, Padding}
use Rattle.calls.specs.Refusal.{number_of, first_of, answered, misfit}
use Rattle.calls.specs.Parts.{counted}
use Rattle.lent.specs.Held.{Held}
use Rattle.lent.specs.LentCode.{graph_of, NotRefused}
use Rattle.lent.proofs.SoundCode.{sound}
use Rattle.words.specs.Encoding.{information_of}
use Rattle.words.specs.K.{k_of}
use Rattle.words.specs.Word.{Word}
use Rattle.words.proofs.Encodings.{info_at}
use Rattle.words.proofs.Theorem.{words}
use Rattle.layouts.specs.declared.BitMap.{BitMap}
use Rattle.layouts.specs.Symbols.{padding_used}
use Rattle.vectors.specs.Float32.{zero32}
use Rattle.rates.specs.declared.Rate.{Rate}
use Rattle.rates.specs.Rate.{IsRate}
use Rattle.rates.specs.RateCode.{rate_code}
use Rattle.rates.proofs.Theorem.{rate_well}
use Rattle.rounds.specs.Tanner.{Tanner, tanner_in}
use Rattle.rounds.specs.Round.{State}
use Rattle.rounds.specs.Rounds.{decisions, satisfies, first_satisfied}
use Rattle.candidates.proofs.ListWords.{Word-list_word}
use Rattle.decoders.specs.BeliefPropagation.{start, first, rounds, wide, ended_by}
use Rattle.decoders.specs.DecodeSoft.{DecodedSoft, decoded_from, decode_soft, own_lengths, last_decisions}
use Rattle.decoders.specs.Decodes.{ComesToRounds, Decodes}
use Rattle.decoders.proofs.Answers.{done_not_refused, one_refusal}
use Rattle.decoders.proofs.DecodingEnds.{ended_answer, posted_ended}
use Rattle.decoders.proofs.Theorem.{decodes, fitting_comes}
use Rattle.frames.specs.declared.decode.Fallback.{Fallback}
use Rattle.frames.specs.declared.layout.FrameLayout.{FrameLayout}
use Rattle.frames.specs.FrameDecodes.{FrameDecodes}
use Rattle.frames.specs.FrameTones.{PastSlots}
use Rattle.frames.specs.Found.{frame_metrics, frame_satisfied, frame_rounds, frame_posteriors, asks_list, frame_word, frame_tests}
use Rattle.frames.specs.SlotSymbols.{word_bits}
use Rattle.frames.proofs.Endings.{Answer, tests}
use Rattle.frames.proofs.OnCode.{metrics-length}
use Rattle.frames.proofs.Encoded.{tones}

-- ---- what an answer says of the tests of 9, 10 and 11

module _ (wide none used : Bool) where
  abbrev answer_by : Answer
  answer_by = answered (first_of (tests wide none used)) tt

  is_ok : answer_by ≡ Ok tt → (none ≡ false) × (used ≡ false)
  is_ok e = go wide none used e
    where
      go : (w n p : Bool) → ◌≡◌ {A = Answer} (answered (first_of (tests w n p)) tt) (Ok tt) → (n ≡ false) × (p ≡ false)
      go true n p q = absurd (true≢false (ap is_err q))
      go false true p q = absurd (true≢false (ap is_err q))
      go false false true q = absurd (true≢false (ap is_err q))
      go false false false q = (refl, refl)

  is_none : wide ≡ false → answer_by ≡ Err NoWord → none ≡ true
  is_none h e = go wide none used h e
    where
      go : (w n p : Bool) → w ≡ false → ◌≡◌ {A = Answer} (answered (first_of (tests w n p)) tt) (Err NoWord) → n ≡ true
      go true n p h q = absurd (true≢false h)
      go false true p h q = refl
      go false false true h q = absurd (true≢false (ap (λ (r : Refusal). eqb (number_of r) 11) (one_refusal Padding NoWord q)))
      go false false false h q = absurd (done_not_refused NoWord q)

not_satisfied : (sat asked : Bool) → (not sat && not asked) ≡ true → sat ≡ false
not_satisfied true asked e = absurd (true≢false (sym e))
not_satisfied false asked e = refl

is_asked : (sat asked : Bool) → sat ≡ false → (not sat && not asked) ≡ false → asked ≡ true
is_asked true asked z e = absurd (true≢false z)
is_asked false true z e = refl
is_asked false false z e = absurd (true≢false e)

-- ---- the theorem

module _ (l : Held) (map : BitMap) (metrics prior : List Float) (fallback : Fallback) where
  -- the metrics with the priors, and the rounds on them
  abbrev m : List Float
  m = frame_metrics l map metrics prior

  abbrev t : Tanner
  t = tanner_in l.code l.parts

  abbrev s : State
  s = start l.code l.parts m 52

  -- what the call answers after refusals 1 and 3
  abbrev answer : Answer
  answer = answered (first_of (frame_tests l map m prior fallback)) tt

  module _ (ok : NotRefused l.code l.parts) (enough : 52 ≤ k_of l) (narrow : wide l.code.m l.parts.row ≡ false) (long : length metrics ≡ l.code.n * 32) where
    -- belief propagation on these metrics, as a call with parts that fit
    abbrev word₀ : List ℕ
    word₀ = replicate l.code.n 0

    abbrev given₀ : List Float
    given₀ = replicate (l.code.n * 32) zero32

    abbrev d : DecodedSoft
    d = decode_soft l.code l.parts m 52 100 word₀ given₀ 65536 256 50176

    m-long : length m ≡ l.code.n * 32
    m-long = metrics-length l (sound l.code l.parts ok) enough map metrics prior long

    comes : ComesToRounds l.code l.parts m 52 100 word₀ given₀ 65536 256 50176
    comes =
        fitting_comes l.code l.parts m 52 100 word₀ given₀ 65536 256 50176 ok (refl, (refl, tt))
        (m-long, (length-replicate l.code.n 0, (length-replicate (l.code.n * 32) zero32, (refl, tt))))
        narrow

    promised : Decodes l.code l.parts m 52 100 word₀ given₀ 65536 256 50176
    promised = decodes l.code l.parts m 52 100 word₀ given₀ 65536 256 50176 comes

    answer_is : d.answer.answer ≡ ended_by (frame_satisfied l m)
    unfolding decode_soft decoded_from first first_satisfied
    answer_is = sym (ended_answer l.code l.parts m 52 100 65536 256 (misfit (own_lengths l.code (length m) (length word₀) (length given₀) 50176)) comes (frame_satisfied l m) refl)

    count_is : d.answer.rounds ≡ frame_rounds l m
    unfolding decode_soft decoded_from rounds
    count_is =
        ap (λ (a : Answer). counted a (rounds l.code l.parts m 52 100)) answer_is
        ∙ posted_ended (frame_satisfied l m) 0 (rounds l.code l.parts m 52 100)

    module _ (y : frame_satisfied l m ≡ true) where
      accepted : d.answer.answer ≡ Ok tt
      accepted = answer_is ∙ ap ended_by y

      word_decided : frame_word l m ≡ decisions t s (frame_rounds l m)
      unfolding frame_word
      word_decided = pick-true (frame_satisfied l m) (last_decisions l.code l.parts m 52 100) _ y

      soft_word : d.word ≡ frame_word l m
      soft_word = promised.decided accepted ∙ ap (decisions t s) count_is ∙ sym word_decided

      word_own : Word (graph_of l) (frame_word l m)
      word_own = subst (Word (graph_of l)) soft_word (promised.is_word accepted)

      past : PastSlots l map (frame_word l m)
      past j h b =
          info_at (graph_of l) l.parts.order (frame_word l m) j b
          ∙ ap (λ (x : List ℕ). nth x (nth (information_of (graph_of l) l.parts.order) j)) (sym soft_word)
          ∙ promised.zeros accepted j h b

    module _ (z : frame_satisfied l m ≡ false) where
      not_accepted : d.answer.answer ≢ Ok tt
      not_accepted e = done_not_refused NoWord (sym e ∙ answer_is ∙ ap ended_by z)

      word_listed : Word (graph_of l) (frame_word l m)
      unfolding frame_word
      word_listed =
          subst (Word (graph_of l)) (sym (pick-false (frame_satisfied l m) (last_decisions l.code l.parts m 52 100) _ z))
          (Word-list_word l.code l.parts (words l.code l.parts ok) (frame_posteriors l m) m 10)

    any_word : (b : Bool) → frame_satisfied l m ≡ b → Word (graph_of l) (frame_word l m)
    any_word true y = word_own y
    any_word false z = word_listed z

    unused : answer ≡ Ok tt → padding_used (word_bits l map (frame_word l m)) ≡ false
    unused e = (is_ok (wide l.code.m l.parts.row) (not (frame_satisfied l m) && not (asks_list fallback prior)) (padding_used (word_bits l map (frame_word l m))) e).1

    pub frame_decodes : FrameDecodes l map metrics prior fallback
    frame_decodes = record {
      counts = λ y. subst (λ (k : ℕ). (1 ≤ k) × (k ≤ 100) × (satisfies t s k ≡ true)) count_is (promised.counts (accepted y));
      earliest = λ y q a b. promised.earliest (accepted y) q a (omega (arith, count_is, b));
      decided = word_decided;
      again = λ y e. (tones l map ok enough).again (frame_word l m) (word_own y) (past y) (unused e) ∙ word_decided y;
      none = λ z. (sym count_is ∙ (promised.refused (not_accepted z)).1, promised.none (not_accepted z));
      ten = λ e.
          not_satisfied (frame_satisfied l m) (asks_list fallback prior)
          (is_none (wide l.code.m l.parts.row) (not (frame_satisfied l m) && not (asks_list fallback prior)) (padding_used (word_bits l map (frame_word l m))) narrow e);
      listed = λ e z.
          is_asked (frame_satisfied l m) (asks_list fallback prior) z
          (is_ok (wide l.code.m l.parts.row) (not (frame_satisfied l m) && not (asks_list fallback prior)) (padding_used (word_bits l map (frame_word l m))) e).0;
      word = any_word (frame_satisfied l m) refl;
    }

-- of every rate and layout
pub rate_decodes : (r : Rate) (layout : FrameLayout) (metrics prior : List Float) (fallback : Fallback) → IsRate r
    → wide (rate_code r layout.set).code.m (rate_code r layout.set).parts.row ≡ false → length metrics ≡ r.n * 32
    → FrameDecodes (rate_code r layout.set) layout.map metrics prior fallback
rate_decodes r layout metrics prior fallback ok narrow long =
    let w = (rate_well r ok).sets layout.set in
    frame_decodes (rate_code r layout.set) layout.map metrics prior fallback w.not_refused w.enough narrow (long ∙ ap (λ (n : ℕ). n * 32) (sym w.n))
