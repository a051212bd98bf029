-- What is promised of frames holds of the frame calls, at every rate and in every layout: by the theorems about a frame's decoding and its tones, and the tests of the calls.
-- Assumes nothing.
use Prim.Native.Nat.{ℕ, ◌*◌, ◌%◌, ◌<◌, ◌≤◌}
use mathlib.Core.Path.{◌≡◌, refl, sym, ap, subst, ◌∙◌}
use mathlib.Core.Logic.{◌⊎◌, inl, ⊎_elim, ◌↔◌}
use mathlib.Core.Bool.{Bool, true, false, true≢false, not, ◌&&◌, ◌||◌}
use mathlib.Core.List.{List, [], ◌∷◌, ◌++◌}
use native.Mathlib.Omega.{arith}
use borrow.Author.Tests.{ltb-false, le-leb}
use lib.Dec.{eqb, ltb}
use lib.Ieee.{Float}
use lib.ListN.{length}
use lib.Seq.{length-take-le}
use Rattle.lists.specs.Entry.{nth}
use Rattle.lists.proofs.Cases.{less_or_not, true_or_false}
use Rattle.lists.proofs.Lowest.{IsLowest, lowest_is}
use Rattle.std.specs.Prelude.{Option, None, Some, Result, Ok, Err}
use Rattle.calls.specs.declared.Refusal.{Refusal}
use Rattle.calls.specs.declared.Refusal.TheVariants.{RateOrLayout, Length, WideCheck, NoWord, Padding}
use Rattle.calls.specs.Refusal.{number_of, answer_number, first_of, answered, misfit}
use Rattle.calls.specs.Parts.{written, counted}
use Rattle.calls.proofs.Refusals as Refusals
use Rattle.lent.specs.Held.{Held}
use Rattle.lent.specs.LentCode.{graph_of}
use Rattle.words.specs.Encoding.{information_of}
use Rattle.words.specs.Word.{Word}
use Rattle.words.proofs.Encodings.{info_at}
use Rattle.layouts.specs.Symbols.{own_bits, padding_used}
use Rattle.rates.specs.declared.Rate.{Rate}
use Rattle.rates.specs.Promise.{SetWell}
use Rattle.rates.specs.Rate.{IsRate, rate_of}
use Rattle.rates.proofs.Rates.{rates_are}
use Rattle.rates.proofs.Theorem.{rate_well}
use Rattle.rounds.specs.ByRounds.{Satisfied, NoneSatisfied, ByRounds}
use Rattle.rounds.specs.Round.{State}
use Rattle.rounds.specs.Rounds.{decisions, satisfies, first_satisfied, rounds_made}
use Rattle.rounds.specs.Tanner.{Tanner, tanner_of}
use Rattle.rounds.proofs.ByRounds.{by_rounds}
use Rattle.decoders.specs.BeliefPropagation.{start, first, rounds, wide}
use Rattle.decoders.proofs.FromEnds.{Early, early_not}
use Rattle.frames.specs.declared.layout.FrameLayout.{FrameLayout}
use Rattle.frames.specs.Decode.{fallback_of, code_of, metrics_of, floats_length, decode_refusals, decode_answer, decoded_bits, decoded_rounds}
use Rattle.frames.specs.EncodeBits.{encode_bits_refusals}
use Rattle.frames.specs.Found.{frame_satisfied, asks_list, frame_word, frame_bits}
use Rattle.frames.specs.FrameDecodes.{FrameDecodes}
use Rattle.frames.specs.FrameLayout.{frame_layout}
use Rattle.frames.specs.FrameTones.{Tones}
use Rattle.frames.specs.SlotSymbols.{slot_symbols, layout_in, word_bits}
use Rattle.frames.specs.Tones.{tones_in, tones_of}
use Rattle.frames.specs.Work.{words_length, bytes_length}
use Rattle.frames.proofs.Decoded.{rate_decodes}
use Rattle.frames.proofs.Encoded.{tones, frame_tones}
use Rattle.frames.proofs.OnCode.{padded_long}
use Rattle.promise.specs.FrameCalls.{Toned, encode_bits_at, Framed, decode_bits_prior_at}
use Rattle.promise.specs.FrameFields.{FrameFields, Believed}

-- the two tests after the rounds: either leaves the count, and the later is not number 10
late_counted : (a b : Bool) (made : ℕ) → counted {A = Unit {0}} (answered (first_of ((a, NoWord) ∷ (b, Padding) ∷ [])) tt) made ≡ made
late_counted true b made = refl
late_counted false true made = refl
late_counted false false made = refl

padding_number : (b : Bool) → answer_number {A = Unit {0}} (answered (first_of ((b, Padding) ∷ [])) tt) ≡ 10 → ⊥
padding_number true e = absurd (omega (arith, e))
padding_number false e = absurd (omega (arith, e))

module _ (rate layout fallback : ℕ) (metrics prior : List Float) (bits : List ℕ) (posteriors words_given bytes_given floats : ℕ) where
  abbrev r : Rate
  r = rate_of rate

  abbrev f : FrameLayout
  f = frame_layout layout

  abbrev l : Held
  l = code_of r f

  abbrev m : List Float
  m = metrics_of r f metrics prior

  abbrev t : Tanner
  t = tanner_of l

  abbrev s : State
  s = start l.code l.parts m 52

  -- ---- the tests: those before the rounds, and 10 and 11

  abbrev lengths : List (ℕ × ℕ)
  lengths =
      (length metrics, r.n * 32) ∷ (length bits, 256) ∷ (posteriors, r.n * 32) ∷ (words_given, words_length) ∷ (bytes_given, bytes_length) ∷ (floats, floats_length) ∷ []

  abbrev tests : List (Bool × Refusal)
  tests = decode_refusals rate layout fallback (length metrics) (length bits) posteriors words_given bytes_given floats

  abbrev nine : List (Bool × Refusal)
  nine = (wide l.code.m l.parts.row, WideCheck) ∷ []

  abbrev early : List (Bool × Refusal)
  early = tests ++ nine

  abbrev no_word : Bool
  no_word = not (frame_satisfied l m) && not (asks_list (fallback_of fallback) prior)

  abbrev used : Bool
  used = padding_used (word_bits l f.map (frame_word l m))

  abbrev late : List (Bool × Refusal)
  late = (no_word, NoWord) ∷ (used, Padding) ∷ []

  abbrev answer : Option Refusal → Result (Unit {0}) Refusal
  answer n = answered n tt

  numbers : Early early
  numbers = tt

  abbrev d : Framed
  d = decode_bits_prior_at rate layout metrics prior fallback bits posteriors words_given bytes_given floats

  answer_is : d.answer.answer ≡ answer (first_of (early ++ late))
  unfolding decode_bits_prior_at decode_answer
  answer_is = refl

  comes : ((k : Refusal) → d.answer.answer ≡ Err k → (number_of k ≡ 10) ⊎ (number_of k ≡ 11)) → first_of early ≡ None
  comes h = go (first_of early) refl
    where
      go : (n : Option Refusal) → first_of early ≡ n → n ≡ None
      go None e = refl
      go (Some k) e =
          let no = early_not early numbers e in
          let other : (i : ℕ) → number_of k ≡ i → (eqb i 10 || eqb i 11) ≡ true → ⊥ = λ i q y. true≢false (sym y ∙ ap (λ (j : ℕ). eqb j 10 || eqb j 11) (sym q) ∙ no) in
          absurd (⊎_elim (λ q. other 10 q refl) (λ q. other 11 q refl) (h k (answer_is ∙ ap answer (Refusals.stays early late e))))

  accepted_passes : d.answer.answer ≡ Ok tt → (first_of early ≡ None) × (first_of late ≡ None)
  accepted_passes z = Refusals.both_pass early late (Refusals.by_ok (first_of (early ++ late)) tt (sym z ∙ answer_is)).0

  -- ---- what the tests before the rounds leave

  module _ (e : first_of early ≡ None) where
    passed_rate : (ltb 3 rate ≡ false) × (first_of ((ltb 7 layout, RateOrLayout) ∷ (ltb 1 fallback, RateOrLayout) ∷ (misfit lengths, Length) ∷ []) ≡ None)
    passed_rate =
        Refusals.pass (ltb 3 rate) RateOrLayout ((ltb 7 layout, RateOrLayout) ∷ (ltb 1 fallback, RateOrLayout) ∷ (misfit lengths, Length) ∷ []) (Refusals.both_pass tests nine e).0

    passed_layout : (ltb 7 layout ≡ false) × (first_of ((ltb 1 fallback, RateOrLayout) ∷ (misfit lengths, Length) ∷ []) ≡ None)
    passed_layout = Refusals.pass (ltb 7 layout) RateOrLayout ((ltb 1 fallback, RateOrLayout) ∷ (misfit lengths, Length) ∷ []) passed_rate.1

    fitted : Refusals.Alike lengths
    fitted =
        let p = Refusals.pass (ltb 1 fallback) RateOrLayout ((misfit lengths, Length) ∷ []) passed_layout.1 in
        (Refusals.alike lengths false (Refusals.pass (misfit lengths) Length [] p.1).0).0

    is_rate : IsRate r
    is_rate = rates_are rate (let h = ltb-false 3 rate passed_rate.0 in omega (arith, h))

    well : SetWell r f.set
    well = (rate_well r is_rate).sets f.set

    -- an encoding of 256 bits, whose tones fit, passes its tests, too
    encodes : (tones : List ℕ) → length tones ≡ r.n → (b : List ℕ) → length b ≡ 256 → first_of (encode_bits_refusals rate layout (length b) (length tones) words_given bytes_given) ≡ None
    encodes tones h b long =
        let own : List (ℕ × ℕ) = (length b, 256) ∷ (length tones, r.n) ∷ (words_given, words_length) ∷ (bytes_given, bytes_length) ∷ [] in
        let fit = Refusals.fitting own false (long, (h, (fitted.1.1.1.0, (fitted.1.1.1.1.0, tt)))) refl in
        sym
        (Refusals.first_miss RateOrLayout ((ltb 7 layout, RateOrLayout) ∷ (misfit own, Length) ∷ []) refl passed_rate.0
        (Refusals.first_miss RateOrLayout ((misfit own, Length) ∷ []) refl passed_layout.0 (Refusals.first_miss Length [] refl fit refl)))

    decodes : FrameDecodes l f.map metrics prior (fallback_of fallback)
    decodes = rate_decodes r f metrics prior (fallback_of fallback) is_rate (Refusals.pass (wide l.code.m l.parts.row) WideCheck [] (Refusals.both_pass tests nine e).1).0 fitted.0

    toned_well : Tones l f.map
    toned_well = tones l f.map well.not_refused well.enough

    late_answer : d.answer.answer ≡ answer (first_of late)
    late_answer = answer_is ∙ ap answer (Refusals.second early late e)

    count_is : d.answer.rounds ≡ rounds_made t s 100
    unfolding decode_bits_prior_at decoded_rounds rounds
    count_is = ap (λ (a : Result (Unit {0}) Refusal). counted a (rounds_made t s 100)) late_answer ∙ late_counted no_word used (rounds_made t s 100)

  -- ---- the rounds

  abbrev round : ℕ
  round = first_satisfied t s 100

  first_is : IsLowest (satisfies t s) 100 1 round
  unfolding first_satisfied
  first_is = lowest_is (satisfies t s) 100 1

  is_satisfied : round ≤ 100 → frame_satisfied l m ≡ true
  unfolding first
  is_satisfied h = le-leb round 100 h

  within : ((i : ℕ) × Satisfied t s 100 i) → round ≤ 100
  within w = ⊎_elim (λ (h : 100 < round). absurd (true≢false (sym w.1.satisfied ∙ first_is.none w.0 w.1.from (omega (arith, w.1.upto))))) (λ (h : round ≤ 100). h) (less_or_not 100 round)

  -- where a round satisfies all checks, the padding decides
  hit : first_of early ≡ None → round ≤ 100 → d.answer.answer ≡ answer (first_of ((used, Padding) ∷ []))
  hit e h =
      late_answer e
      ∙ ap answer (sym (Refusals.first_miss NoWord ((used, Padding) ∷ []) refl (ap (λ (b : Bool). not b && not (asks_list (fallback_of fallback) prior)) (is_satisfied h)) refl))

  bits_are : d.answer.answer ≡ Ok tt → d.bits ≡ frame_bits l f.map m
  unfolding decode_bits_prior_at decoded_bits
  bits_are z = ap (λ (a : Result (Unit {0}) Refusal). written a bits (frame_bits l f.map m)) z

  counts : ((k : Refusal) → d.answer.answer ≡ Err k → (number_of k ≡ 10) ⊎ (number_of k ≡ 11)) → d.answer.rounds ≡ rounds_made t s 100
  counts h = count_is (comes h)

  ten : answer_number d.answer.answer ≡ 10 → NoneSatisfied t s 100
  ten e = ⊎_elim (λ (h : 100 < round). none h) (λ (h : round ≤ 100). absurd (not_ten h)) (less_or_not 100 round)
    where
      none : 100 < round → NoneSatisfied t s 100
      none h i a b = first_is.none i a (omega arith)

      is_ten : (k : Refusal) → d.answer.answer ≡ Err k → (number_of k ≡ 10) ⊎ (number_of k ≡ 11)
      is_ten k q = inl (sym (ap answer_number q) ∙ e)

      not_ten : round ≤ 100 → ⊥
      not_ten h = padding_number used (sym (ap answer_number (hit (comes is_ten) h)) ∙ e)

  read : d.answer.answer ≡ Ok tt → (x : List ℕ) × (Word (graph_of l) x × (d.bits ≡ own_bits (word_bits l f.map x)))
  read z = (frame_word l m, ((decodes (accepted_passes z).0).word, bits_are z))

  -- ---- encodings at the same rate and layout

  module _ (tones_given : List ℕ) where
    abbrev toned : List ℕ → Toned
    toned b = encode_bits_at rate layout b tones_given words_given bytes_given

    abbrev encode_tests : List ℕ → List (Bool × Refusal)
    encode_tests b = encode_bits_refusals rate layout (length b) (length tones_given) words_given bytes_given

    abbrev encode_lengths : List ℕ → List (ℕ × ℕ)
    encode_lengths b = (length b, 256) ∷ (length tones_given, r.n) ∷ (words_given, words_length) ∷ (bytes_given, bytes_length) ∷ []

    toned_is : (b : List ℕ) → (toned b).answer ≡ Ok tt → (toned b).tones ≡ tones_of r f b
    unfolding encode_bits_at
    toned_is b p = ap (λ (a : Result (Unit {0}) Refusal). written a tones_given (tones_of r f b)) p

    toned_rate : (b : List ℕ) → (toned b).answer ≡ Ok tt → IsRate r
    unfolding encode_bits_at
    toned_rate b p =
        let passed = (Refusals.by_ok (first_of (encode_tests b)) tt (sym p)).0 in
        let low = (Refusals.pass (ltb 3 rate) RateOrLayout ((ltb 7 layout, RateOrLayout) ∷ (misfit (encode_lengths b), Length) ∷ []) passed).0 in
        rates_are rate (let h = ltb-false 3 rate low in omega (arith, h))

    notices : (a b : List ℕ) → (toned a).answer ≡ Ok tt → (toned b).answer ≡ Ok tt → ((toned a).tones ≡ (toned b).tones) ↔ ((i : ℕ) → i < 256 → nth a i % 2 ≡ nth b i % 2)
    notices a b p q =
        let w = (frame_tones r f (toned_rate a p)).one_word a b in
        (λ e. w.0 (sym (toned_is a p) ∙ e ∙ toned_is b q), λ h. toned_is a p ∙ w.1 h ∙ sym (toned_is b q))

    -- ---- of the bits that belief propagation hands back

    abbrev Believes : Type 0
    Believes = Believed rate layout fallback metrics prior bits tones_given posteriors words_given bytes_given floats

    module _ (fits : length tones_given ≡ r.n) where
      module _ (b : Believes) where
        none_early : first_of early ≡ None
        none_early = (accepted_passes b.0).0

        bits_long : length d.bits ≡ 256
        unfolding word_bits
        bits_long =
            let u = slot_symbols l (frame_word l m) in
            ap length (bits_are b.0) ∙ length-take-le 256 (word_bits l f.map (frame_word l m)) (omega (arith, padded_long (layout_in l f.map) u))

        again_answer : (toned d.bits).answer ≡ Ok tt
        unfolding encode_bits_at
        again_answer = ap answer (encodes none_early tones_given fits d.bits bits_long)

        -- they are a word whose later information symbols are 0, as those of all bits are
        again_tones : (toned d.bits).tones ≡ tones_in l f.map d.bits
        unfolding tones_of
        again_tones = toned_is d.bits again_answer

        again_word : Word (graph_of l) (toned d.bits).tones
        again_word = subst (Word (graph_of l)) (sym again_tones) ((toned_well none_early).word d.bits)

        again_zero : (i : ℕ) → 52 ≤ i → i < length (information_of (graph_of l) l.parts.order) → nth (toned d.bits).tones (nth (information_of (graph_of l) l.parts.order) i) ≡ 0
        again_zero i x y =
            ap (λ (v : List ℕ). nth v (nth (information_of (graph_of l) l.parts.order) i)) again_tones
            ∙ sym (info_at (graph_of l) l.parts.order (tones_in l f.map d.bits) i y)
            ∙ (toned_well none_early).past d.bits i x y

        -- and the decisions
        again_decided : (toned d.bits).tones ≡ decisions t s d.answer.rounds
        unfolding rounds
        again_decided =
            let e = none_early in
            let asked = ap answer (Refusals.second nine late (Refusals.both_pass tests nine e).1 ∙ (accepted_passes b.0).1) in
            again_tones
            ∙ ap (tones_in l f.map) (bits_are b.0)
            ∙ (decodes e).again (is_satisfied (within b.1)) asked
            ∙ ap (decisions t s) (sym (count_is e))

      believed : ((k : Refusal) → d.answer.answer ≡ Err k → number_of k ≡ 10) → first_of early ≡ None → round ≤ 100 → Believes
      believed unless e h = ⊎_elim no yes (true_or_false used)
        where
          is : (b : Bool) → used ≡ b → d.answer.answer ≡ answer (first_of ((b, Padding) ∷ []))
          is b q = hit e h ∙ ap (λ (b : Bool). answer (first_of ((b, Padding) ∷ []))) q

          no : used ≡ true → Believes
          no q = absurd (let z : 11 ≡ 10 = unless Padding (is true q) in omega (arith, z))

          yes : used ≡ false → Believes
          yes q = (is false q, (round, record { from = first_is.from; upto = h; satisfied = first_is.found (omega arith) }))

      frame_by_rounds : ((k : Refusal) → d.answer.answer ≡ Err k → number_of k ≡ 10) → ByRounds t s 100 Believes d.answer.rounds (toned d.bits).tones
      frame_by_rounds unless =
          let e = comes (λ k q. inl (unless k q)) in
          by_rounds t s 100 Believes d.answer.rounds (toned d.bits).tones (believed unless e) (λ h w. let k = within w.1 in absurd (omega arith)) (count_is e) again_decided

    pub frame_fields : FrameFields rate layout fallback metrics prior bits tones_given posteriors words_given bytes_given floats
    frame_fields = record {
      frame_read = read;
      frame_words = again_word;
      frame_zeros = again_zero;
      frame_rounds = frame_by_rounds;
      frame_tones = again_answer;
      frame_count = counts;
      frame_ten = ten;
      frame_notices = notices;
    }
