-- What the steps of a build leave, as the code of the rate: `new`'s code from the rate's degrees, then that code in the order that peeling gives.
-- Assumes nothing.
use Prim.Native.Nat.{ℕ, ◌-◌}
use mathlib.Core.Path.{◌≡◌, ap, ◌∙◌}
use mathlib.Core.Bool.{Bool}
use mathlib.Core.List.{List, map}
use lib.IntN.{pos}
use Rattle.graph.specs.declared.Code.{Code}
use Rattle.graph.specs.Built.{built}
use Rattle.graph.specs.Descending.{descending}
use Rattle.graph.specs.New.{numbers}
use Rattle.graph.specs.Parts.{Parts, parts}
use Rattle.lent.specs.Sound.{IsSound}
use Rattle.lent.proofs.SoundCode.{sound}
use Rattle.peeling.specs.WithPeeledInfo.{order_of, code_in, parts_in}
use Rattle.rates.specs.declared.Rate.{Rate}
use Rattle.rates.specs.Rate.{checks, rate_degrees, IsRate}
use Rattle.rates.specs.RateCode.{rate_graph, echelon_code, in_peeled_order, preferences}
use Rattle.rates.proofs.RateCode.{echelon_not_refused}

module _ (r : Rate) (degrees : List ℕ) (d : degrees ≡ rate_degrees r) where
  module _ (c : Code) (p : Parts) (a : c ≡ numbers (built r.n (r.n - 52) degrees r.seed) (descending r.n)) (b : p ≡ parts (built r.n (r.n - 52) degrees r.seed) (descending r.n)) where
    pub echelon_numbers : c ≡ (echelon_code r).code
    unfolding echelon_code rate_graph
    echelon_numbers = a ∙ ap (λ (l : List ℕ). numbers (built r.n (checks r) l r.seed) (descending r.n)) d

    pub echelon_parts : p ≡ (echelon_code r).parts
    unfolding echelon_code rate_graph
    echelon_parts = b ∙ ap (λ (l : List ℕ). parts (built r.n (checks r) l r.seed) (descending r.n)) d

    pub echelon_sound : IsRate r → IsSound c p
    echelon_sound ok = rw (echelon_numbers, echelon_parts) (sound (echelon_code r).code (echelon_code r).parts (echelon_not_refused r ok))

    -- and in the order that peeling gives
    module _ (last : Bool) where
      pub peeled_numbers : code_in c p (order_of last c p (map (λ (x : ℕ). pos x) degrees)) ≡ (in_peeled_order last (echelon_code r) (preferences r)).code
      unfolding in_peeled_order preferences
      peeled_numbers = rw (echelon_numbers, echelon_parts, d)

      pub peeled_parts : parts_in c p (order_of last c p (map (λ (x : ℕ). pos x) degrees)) ≡ (in_peeled_order last (echelon_code r) (preferences r)).parts
      unfolding in_peeled_order preferences
      peeled_parts = rw (echelon_numbers, echelon_parts, d)
