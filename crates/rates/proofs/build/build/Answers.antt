-- `rates::build::build` meets its contract: what its steps leave is the code of the rate for the set.
use Prim.Native.Nat.{ℕ}
use mathlib.Core.Path.{◌≡◌, sym, ap, ◌∙◌}
use mathlib.Core.List.{List}
use lib.ListN.{length}
use Rattle.graph.specs.declared.Code.{Code}
use Rattle.peeling.specs.Best.{last_of_equal}
use Rattle.rates.specs.declared.Rate.{Rate}
use Rattle.rates.specs.declared.InfoSet.{InfoSet}
use Rattle.rates.specs.Rate.{rate_degrees}
use Rattle.rates.specs.RateCode.{rate_code}
use Rattle.rates.proofs.RateDegrees.{degrees-length}
use Rattle.rates.proofs.RateCode.{echelon_n}
use Rattle.rates.proofs.Building.{echelon_numbers, echelon_parts, echelon_sound, peeled_numbers, peeled_parts}
use Rattle.rates.proofs.build.build.Goals as goal

long : (r : Rate) (degrees : List ℕ) → degrees ≡ rate_degrees r → length degrees ≡ r.n
long r degrees e = ap length e ∙ degrees-length r

pub peel-requires-clause-sound : goal.peel-requires-clause-sound
peel-requires-clause-sound c =
    echelon_sound c.args.rate c.lay.new.degrees c.lay.ensures _ _ c.build-code.ensures.value c.build-code.ensures.fact c.requires.is_rate

pub peel-requires-clause-lengths : goal.peel-requires-clause-lengths
peel-requires-clause-lengths c =
    let n = ap (λ (x : Code). x.n) (echelon_numbers c.args.rate c.lay.new.degrees c.lay.ensures _ _ c.build-code.ensures.value c.build-code.ensures.fact) in (
      long c.args.rate c.lay.new.degrees c.lay.ensures ∙ sym (n ∙ echelon_n c.args.rate c.requires.is_rate),
      c.build-code.auto.chk ∙ c.requires.work_fits.chk,
    )

pub returns-in-Echelon-clause-value : goal.returns-in-Echelon-clause-value
unfolding rate_code
returns-in-Echelon-clause-value c =
    echelon_numbers c.args.rate c.lay.new.degrees c.lay.ensures _ _ c.build-code.ensures.value c.build-code.ensures.fact
    ∙ sym (ap (λ (s : InfoSet). (rate_code c.args.rate s).code) c.in-Echelon.is)

pub returns-in-Echelon-clause-code_after : goal.returns-in-Echelon-clause-code_after
unfolding rate_code
returns-in-Echelon-clause-code_after c =
    echelon_parts c.args.rate c.lay.new.degrees c.lay.ensures _ _ c.build-code.ensures.value c.build-code.ensures.fact
    ∙ sym (ap (λ (s : InfoSet). (rate_code c.args.rate s).parts) c.in-Echelon.is)

pub returns-in-Peeled-clause-value : goal.returns-in-Peeled-clause-value
unfolding rate_code
returns-in-Peeled-clause-value c =
    c.peel.ensures.value
    ∙ peeled_numbers c.args.rate c.lay.new.degrees c.lay.ensures _ _ c.build-code.ensures.value c.build-code.ensures.fact last_of_equal
    ∙ sym (ap (λ (s : InfoSet). (rate_code c.args.rate s).code) c.in-Peeled.is)

pub returns-in-Peeled-clause-code_after : goal.returns-in-Peeled-clause-code_after
unfolding rate_code
returns-in-Peeled-clause-code_after c =
    c.peel.ensures.code_after
    ∙ peeled_parts c.args.rate c.lay.new.degrees c.lay.ensures _ _ c.build-code.ensures.value c.build-code.ensures.fact last_of_equal
    ∙ sym (ap (λ (s : InfoSet). (rate_code c.args.rate s).parts) c.in-Peeled.is)
