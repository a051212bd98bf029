-- The code of a rate is not refused for either information set, and both sets have one graph.
-- Assumes nothing.
use mathlib.Core.Path.{◌≡◌, refl, ◌∙◌}
use mathlib.Core.Bool.{Bool}
use mathlib.Core.List.{List}
use lib.IntN.{ℤ}
use Rattle.graph.specs.Buildable.{PartsFit}
use Rattle.graph.specs.Built.{built}
use Rattle.graph.specs.New.{numbers}
use Rattle.graph.specs.Parts.{parts}
use Rattle.graph.proofs.Built.{built_n, built_m}
use Rattle.graph.proofs.BuiltWell.{built_proper}
use Rattle.graph.proofs.Proper.{parts_hold}
use Rattle.lent.specs.Held.{Held}
use Rattle.lent.specs.LentCode.{NotRefused, graph_of}
use Rattle.lent.specs.Sound.{IsSound, IsAccepted}
use Rattle.lent.proofs.NotRefused.{built_not_refused}
use Rattle.lent.proofs.SoundCode.{accepted}
use Rattle.peeling.specs.WithPeeledInfo.{code_in, parts_in}
use Rattle.peeling.proofs.PeeledCode.{peeled_not_refused}
use Rattle.rates.specs.declared.Rate.{Rate}
use Rattle.rates.specs.declared.InfoSet.{InfoSet}
use Rattle.rates.specs.declared.InfoSet.TheVariants.{Echelon, Peeled}
use Rattle.rates.specs.Rate.{checks, rate_degrees, IsRate}
use Rattle.rates.specs.RateCode.{rate_graph, echelon_code, in_peeled_order, preferences, rate_code}

module _ (l : Held) where
  abbrev pub Unrefused : Type 0
  Unrefused = NotRefused l.code l.parts

-- any code in the order that peeling gives, whatever the preferences are and whichever of equal picks is taken
module _ (last : Bool) (l : Held) (prefer : List ℤ) where
  pub in_peeled_order_not_refused : Unrefused l → Unrefused (in_peeled_order last l prefer)
  unfolding in_peeled_order
  in_peeled_order_not_refused = peeled_not_refused last l.code l.parts prefer

  pub in_peeled_order_graph : graph_of (in_peeled_order last l prefer) ≡ graph_of l
  unfolding in_peeled_order code_in parts_in
  in_peeled_order_graph = refl

  pub in_peeled_order_n : (in_peeled_order last l prefer).code.n ≡ l.code.n
  unfolding in_peeled_order code_in
  in_peeled_order_n = refl

  pub in_peeled_order_m : (in_peeled_order last l prefer).code.m ≡ l.code.m
  unfolding in_peeled_order code_in
  in_peeled_order_m = refl

module _ (r : Rate) (ok : IsRate r) where
  pub echelon_not_refused : Unrefused (echelon_code r)
  unfolding echelon_code rate_graph
  echelon_not_refused = built_not_refused r.n (checks r) (rate_degrees r) r.seed ok.buildable

  pub echelon_n : (echelon_code r).code.n ≡ r.n
  unfolding echelon_code rate_graph numbers
  echelon_n = built_n r.n (checks r) (rate_degrees r) r.seed

  pub echelon_m : (echelon_code r).code.m ≡ checks r
  unfolding echelon_code rate_graph numbers
  echelon_m = built_m r.n (checks r) (rate_degrees r) r.seed

  pub echelon_graph : graph_of (echelon_code r) ≡ rate_graph r
  unfolding echelon_code rate_graph numbers parts
  echelon_graph = parts_hold (built r.n (checks r) (rate_degrees r) r.seed) (built_proper r.n (checks r) (rate_degrees r) r.seed ok.buildable)

  -- ---- for either set

  pub rate_not_refused : (set : InfoSet) → Unrefused (rate_code r set)
  unfolding rate_code
  rate_not_refused Echelon = echelon_not_refused
  rate_not_refused Peeled = in_peeled_order_not_refused _ (echelon_code r) (preferences r) echelon_not_refused

  pub rate_n : (set : InfoSet) → (rate_code r set).code.n ≡ r.n
  unfolding rate_code
  rate_n Echelon = echelon_n
  rate_n Peeled = in_peeled_order_n _ (echelon_code r) (preferences r) ∙ echelon_n

  pub rate_m : (set : InfoSet) → (rate_code r set).code.m ≡ checks r
  unfolding rate_code
  rate_m Echelon = echelon_m
  rate_m Peeled = in_peeled_order_m _ (echelon_code r) (preferences r) ∙ echelon_m

  -- the graph is that of the rate
  pub rate_graph_is : (set : InfoSet) → graph_of (rate_code r set) ≡ rate_graph r
  unfolding rate_code
  rate_graph_is Echelon = echelon_graph
  rate_graph_is Peeled = in_peeled_order_graph _ (echelon_code r) (preferences r) ∙ echelon_graph

  -- so it may be held as a `Sound` and its parts have their lengths
  pub rate_accepted : (set : InfoSet) → IsAccepted (rate_code r set).code (rate_code r set).parts
  rate_accepted set = accepted (rate_code r set).code (rate_code r set).parts (rate_not_refused set)

  pub rate_sound : (set : InfoSet) → IsSound (rate_code r set).code (rate_code r set).parts
  rate_sound set = (rate_accepted set).sound

  pub rate_parts_fit : (set : InfoSet) → PartsFit (rate_code r set).parts
  rate_parts_fit set = (rate_sound set).fits.parts
