-- `frames::encoding::encode` meets its contract: what it builds and views is the rate's code, which is sound.
use mathlib.Core.Path.{◌≡◌, sym, ap, ◌∙◌}
use Rattle.graph.specs.declared.Code.{Code}
use Rattle.lent.specs.Held.{Held}
use Rattle.rates.specs.RateCode.{rate_code}
use Rattle.rates.proofs.RateCode.{rate_accepted, rate_parts_fit, rate_n}
use Rattle.rates.proofs.Theorem.{rate_well}
use Rattle.frames.specs.Tones.{tones_in, tones_of}
use Rattle.frames.proofs.encoding.encode.Goals.{After-view-lent}
use Rattle.frames.proofs.encoding.encode.Goals as goal

-- the code that is viewed
held : (c : After-view-lent) → c.view-lent.result ≡ rate_code c.args.rate c.args.layout.set
held c =
    let l = rate_code c.args.rate c.args.layout.set in
    let built = c.build_in-code.ensures in
    c.view-lent.ensures l.parts (rate_parts_fit c.args.rate c.requires.is_rate c.args.layout.set) built.words_after built.bytes_after
    ∙ ap (λ (n : Code). record { code = n; parts = l.parts }) built.value

pub known_sound-requires : goal.known_sound-requires
known_sound-requires c = record { accepted = rw (held (goal.at.known_sound-requires c).After-view-lent) (rate_accepted c.args.rate c.requires.is_rate c.args.layout.set) }

pub tones-requires-clause-enough : goal.tones-requires-clause-enough
tones-requires-clause-enough c =
    rw (c.known_sound.ensures, held (goal.at.tones-requires-clause-enough c).After-view-lent)
    ((rate_well c.args.rate c.requires.is_rate).sets c.args.layout.set).enough

pub tones-requires-clause-lengths : goal.tones-requires-clause-lengths
tones-requires-clause-lengths c =
    let same = c.known_sound.ensures ∙ held (goal.at.tones-requires-clause-lengths c).After-view-lent in
    (c.requires.lengths.0, c.requires.lengths.1 ∙ sym (ap (λ (l : Held). l.code.n) same ∙ rate_n c.args.rate c.requires.is_rate c.args.layout.set))

pub returns : goal.returns
unfolding tones_of
returns c =
    let same = c.known_sound.ensures ∙ held (goal.at.returns c).After-view-lent in
    c.tones.ensures ∙ ap (λ (l : Held). tones_in l c.args.layout.map c.args.bits.now) same
