-- What code_at answers and leaves for either information set of a rate: a code that is not refused, with the graph of the rate. So both sets have the same words.
-- Assumes nothing.
use Prim.Native.Nat.{ℕ}
use mathlib.Core.Path.{◌≡◌, sym, ap, ap₂, subst, ◌∙◌}
use mathlib.Core.Logic.{◌↔◌}
use mathlib.Core.List.{List, [], ◌∷◌, ◌++◌}
use native.Mathlib.Omega.{arith}
use borrow.Author.Tests.{ltb-false}
use lib.Dec.{ltb}
use Rattle.std.specs.Prelude.{None, Result}
use Rattle.calls.specs.declared.Refusal.{Refusal}
use Rattle.calls.specs.declared.Refusal.TheVariants.{RateOrLayout, Length}
use Rattle.calls.specs.Refusal.{first_of, misfit}
use Rattle.calls.specs.Parts.{written}
use Rattle.calls.proofs.Refusals.{pass, by_ok}
use Rattle.graph.specs.declared.Code.{Code}
use Rattle.graph.specs.Parts.{Parts}
use Rattle.graph.specs.Sizes.{code_lengths}
use Rattle.lent.specs.Held.{Held}
use Rattle.lent.specs.LentCode.{NotRefused, graph_of}
use Rattle.words.specs.Word.{Symbols}
use Rattle.rates.specs.CodeAt.{code_at_refusals}
use Rattle.rates.specs.Rate.{IsRate, rate_of}
use Rattle.rates.specs.RateCode.{set_of, rate_graph, rate_code}
use Rattle.rates.proofs.RateCode.{rate_not_refused, rate_graph_is}
use Rattle.rates.proofs.Rates.{rates_are}
use Rattle.promise.specs.Calls.{Fit, OwnEncoding}
use Rattle.promise.specs.FrameCalls.{CodeAt}
use Rattle.promise.proofs.OwnWords.{one_graph}

module _ (rate set : ℕ) (p : Parts) (words bytes : ℕ) (d : Held) (a : CodeAt rate set p words bytes d) where
  abbrev made : Held
  made = rate_code (rate_of rate) (set_of set)

  passed : (first_of (code_at_refusals rate set p words bytes) ≡ None) × (d.code ≡ made.code)
  passed = by_ok (first_of (code_at_refusals rate set p words bytes)) made.code (sym a.accepts)

  is_rate : IsRate (rate_of rate)
  is_rate =
      let t = pass (ltb 3 rate) RateOrLayout ((ltb 1 set, RateOrLayout) ∷ (misfit (code_lengths p ++ (words, 512) ∷ (bytes, 131072) ∷ []), Length) ∷ []) passed.0 in
      rates_are rate (let h = ltb-false 3 rate t.0 in omega (arith, h))

  left : d.parts ≡ made.parts
  left = sym a.leaves ∙ ap (λ (r : Result Code Refusal). written r p made.parts) a.accepts

  code_is : made ≡ d
  code_is = sym (ap₂ (λ (c : Code) (q : Parts). record { code = c; parts = q }) passed.1 left)

  pub code_at_not_refused : NotRefused d.code d.parts
  code_at_not_refused = subst (λ (l : Held). NotRefused l.code l.parts) code_is (rate_not_refused (rate_of rate) is_rate (set_of set))

  pub code_at_graph : graph_of d ≡ rate_graph (rate_of rate)
  code_at_graph = subst (λ (l : Held). graph_of l ≡ rate_graph (rate_of rate)) code_is (rate_graph_is (rate_of rate) is_rate (set_of set))

-- the codes of two sets have the same words
pub one_rate : (rate s t : ℕ) (p q : Parts) (words bytes : ℕ) (d e : Held) → CodeAt rate s p words bytes d → CodeAt rate t q words bytes e
    → (h pivots : ℕ) (word symbols : List ℕ) → Fit d.code.n word symbols h pivots → (x : List ℕ) → Symbols d.code.n x
    → OwnEncoding d h pivots word symbols x ↔ OwnEncoding e h pivots word symbols x
one_rate rate s t p q words bytes d e a b =
    one_graph d e (code_at_not_refused rate s p words bytes d a) (code_at_not_refused rate t q words bytes e b)
    (code_at_graph rate s p words bytes d a ∙ sym (code_at_graph rate t q words bytes e b))
