-- What is promised of rates, of every record that is a rate and for either information set. As promised
-- (docs/PROMISE.md), "both information sets of a rate have the same" words.
-- Assumes nothing.
use Rattle.std.specs.Prelude.{ℕ, ◌-◌, ◌<◌, ◌≤◌, ◌≡◌, ◌↔◌, Bool, List, [], ◌∷◌, None, length}
use Rattle.calls.specs.declared.Refusal.{Refusal}
use Rattle.calls.specs.declared.Refusal.TheVariants.{DegreeSum, DegreeTooHigh}
use Rattle.calls.specs.Refusal.{first_of}
use Rattle.field.specs.DegreeRows.{degree_row}
use Rattle.elimination.specs.Graph.{check}
use Rattle.graph.specs.New.{too_many, too_high}
use Rattle.lent.specs.LentCode.{NotRefused, graph_of}
use Rattle.lent.specs.Sound.{IsAccepted}
use Rattle.words.specs.Encoding.{info_symbols}
use Rattle.words.specs.Encode.{encoded}
use Rattle.words.specs.K.{k_of}
use Rattle.words.specs.Word.{Symbols}
use Rattle.rates.specs.declared.Rate.{Rate}
use Rattle.rates.specs.declared.InfoSet.{InfoSet}
use Rattle.rates.specs.Rate.{checks, symbols, rate_degrees, rate_of, IsRate}
use Rattle.rates.specs.RateCode.{rate_graph, rate_code}

module _ (r : Rate) where
  -- of one set
  pub record SetWell (set : InfoSet) : Type 0 where
    -- no call on a lent code refuses the code
    pub not_refused : NotRefused (rate_code r set).code (rate_code r set).parts
    pub accepted : IsAccepted (rate_code r set).code (rate_code r set).parts
    -- its sizes and its graph are those of the rate
    pub n : (rate_code r set).code.n ≡ r.n
    pub m : (rate_code r set).code.m ≡ checks r
    pub graph : graph_of (rate_code r set) ≡ rate_graph r
    -- a frame's symbols have a position each
    pub rank : (rate_code r set).code.rank ≤ checks r
    pub positions : k_of (rate_code r set) ≡ r.n - (rate_code r set).code.rank
    pub enough : symbols ≤ k_of (rate_code r set)

  pub record RateWell : Type 0 where
    pub sets : (set : InfoSet) → SetWell set
    -- both sets have the same words: n symbols below 32 are the encoding of their own information symbols in the one exactly when they are in the other
    pub same_words : (s t : InfoSet) (x : List ℕ) → Symbols r.n x
        → (x ≡ encoded (rate_code r s) (info_symbols (graph_of (rate_code r s)) (rate_code r s).parts.order x))
        ↔ (x ≡ encoded (rate_code r t) (info_symbols (graph_of (rate_code r t)) (rate_code r t).parts.order x))

-- the tests of refusals 4 and 5
abbrev pub degree_tests : Rate → List (Bool × Refusal)
degree_tests r = (too_many r.n (rate_degrees r), DegreeSum) ∷ (too_high r.n (checks r) (rate_degrees r), DegreeTooHigh) ∷ []

pub record Promised : Type 0 where
  -- the numbers 0 to 3 name rates, which have as many checks as their rows say
  pub numbers : (rate : ℕ) → rate < 4 → IsRate (rate_of rate)
  pub row_checks : (rate : ℕ) → rate < 4 → (degree_row rate).m ≡ checks (rate_of rate)
  -- and no check of more than 32 edges
  pub narrow : (rate : ℕ) → rate < 4 → (c : ℕ) → c < checks (rate_of rate) → length (check (rate_graph (rate_of rate)) c) ≤ 32
  pub rates : (r : Rate) → IsRate r → RateWell r
  -- a record is a rate exactly where it has 54 symbols or more and is not refused by 2, 4 or 5
  pub tested : (r : Rate) → IsRate r ↔ ((54 ≤ r.n) × ((r.n ≤ 256) × (first_of (degree_tests r) ≡ None)))
