-- The promise of rates holds: of every record that is a rate and for either information set.
-- Assumes nothing.
use Prim.Native.Nat.{ℕ, ◌-◌, ◌≤◌}
use mathlib.Core.Path.{◌≡◌, sym, subst, ◌∙◌}
use native.Mathlib.Omega.{arith}
use Rattle.lent.proofs.SoundCode.{sound_rows}
use Rattle.words.specs.K.{k_of}
use Rattle.words.specs.Word.{Symbols}
use Rattle.words.proofs.LentWords.{positions-length}
use Rattle.words.proofs.Theorem.{same_words}
use Rattle.rates.specs.declared.Rate.{Rate}
use Rattle.rates.specs.declared.InfoSet.{InfoSet}
use Rattle.rates.specs.Promise.{SetWell, RateWell, Promised}
use Rattle.rates.specs.Rate.{checks, IsRate}
use Rattle.rates.specs.RateCode.{rate_code}
use Rattle.rates.proofs.RateCode.{rate_not_refused, rate_accepted, rate_sound, rate_n, rate_m, rate_graph_is}
use Rattle.rates.proofs.Narrow.{narrow}
use Rattle.rates.proofs.Rates.{rates_are, row_checks, tested_rate, rate_passes}

module _ (r : Rate) (ok : IsRate r) where
  rank_low : (set : InfoSet) → (rate_code r set).code.rank ≤ checks r
  rank_low set = omega (arith, sound_rows (rate_code r set).code (rate_code r set).parts (rate_sound r ok set), rate_m r ok set)

  count : (set : InfoSet) → k_of (rate_code r set) ≡ r.n - (rate_code r set).code.rank
  count set = omega (arith, positions-length (rate_code r set).code (rate_code r set).parts (rate_sound r ok set), rate_n r ok set)

  set_well : (set : InfoSet) → SetWell r set
  set_well set = record {
    not_refused = rate_not_refused r ok set;
    accepted = rate_accepted r ok set;
    n = rate_n r ok set;
    m = rate_m r ok set;
    graph = rate_graph_is r ok set;
    rank = rank_low set;
    positions = count set;
    enough = omega (arith, rank_low set, count set, ok.long);
  }

  pub rate_well : RateWell r
  rate_well = record {
    sets = set_well;
    same_words = λ s t x y.
        same_words (rate_code r s).code (rate_code r t).code (rate_code r s).parts (rate_code r t).parts (rate_not_refused r ok s) (rate_not_refused r ok t)
        (rate_graph_is r ok s ∙ sym (rate_graph_is r ok t)) x (subst (λ (n : ℕ). Symbols n x) (sym (rate_n r ok s)) y);
  }

pub promise : Promised
promise = record { numbers = rates_are; row_checks = row_checks; narrow = narrow; rates = rate_well; tested = λ r. (λ ok. (ok.long, (ok.buildable.n_small, rate_passes r ok)), λ t. tested_rate r t.0 t.1.0 t.1.1) }
