-- No check of the four codes has more than 32 edges: antt grows each graph, on lists of lists.
-- Assumes nothing.
use Prim.Native.Nat.{ℕ, zero, suc, ◌-◌, ◌<◌, ◌≤◌}
use mathlib.Core.Path.{◌≡◌, refl, ap}
use mathlib.Core.Bool.{true}
use native.Mathlib.Omega.{arith}
use lib.Dec.{ltb}
use lib.ListN.{length}
use Rattle.lists.specs.Chain.{start_of}
use Rattle.lists.specs.Choice.{pick}
use Rattle.lists.specs.Entry.{nth}
use Rattle.lists.specs.Iter.{iter}
use Rattle.lists.specs.Keep.{keep}
use Rattle.lists.specs.Values.{values}
use Rattle.field.specs.DegreeRows.{degree_rows, degree_row}
use Rattle.field.specs.SplitMix64.{next, xor_shifted, times, output, draw}
use Rattle.growth.specs.Adjacency.{empty}
use Rattle.growth.specs.Growth.{Growth}
use Rattle.growth.specs.PickMin.{least}
use Rattle.elimination.specs.Graph.{check}
use Rattle.graph.proofs.Built.{growth, grown_chk, built-check, weighted-length}
use Rattle.rates.specs.declared.Rate.{Rate}
use Rattle.rates.specs.Rate.{checks, seed, degree_at, rate_degrees, rate_of}
use Rattle.rates.specs.RateCode.{rate_graph}
use Rattle.rates.proofs.Listed.{meet_x, visited_x, layer_x, unmarked_from, none_x, searched_x, after_c, after_r, after_v, pick_min_x, lightest_x, drawn_x, chosen_x, edge_x, served_x, degree_x, of_degree_x, grown_x, start_x, Listed, short, all_short, fits, narrow_checks, grown_ext}
use Rattle.rates.proofs.RateDegrees.{degrees_at}

abbrev listed : ℕ → ℕ → ℕ → Listed
listed n heavy degree = grown_x (n - 52) n (λ v. pick (ltb v heavy) degree 2) (start_x seed)

fits_0 : fits (listed 205 20 6) ≡ true
unfolding next xor_shifted times output draw pick least keep iter values meet_x visited_x layer_x unmarked_from none_x searched_x after_c after_r after_v pick_min_x lightest_x drawn_x chosen_x edge_x served_x degree_x of_degree_x grown_x short all_short
fits_0 = refl

fits_1 : fits (listed 156 16 5) ≡ true
unfolding next xor_shifted times output draw pick least keep iter values meet_x visited_x layer_x unmarked_from none_x searched_x after_c after_r after_v pick_min_x lightest_x drawn_x chosen_x edge_x served_x degree_x of_degree_x grown_x short all_short
fits_1 = refl

fits_2 : fits (listed 104 12 4) ≡ true
unfolding next xor_shifted times output draw pick least keep iter values meet_x visited_x layer_x unmarked_from none_x searched_x after_c after_r after_v pick_min_x lightest_x drawn_x chosen_x edge_x served_x degree_x of_degree_x grown_x short all_short
fits_2 = refl

fits_3 : fits (listed 78 12 3) ≡ true
unfolding next xor_shifted times output draw pick least keep iter values meet_x visited_x layer_x unmarked_from none_x searched_x after_c after_r after_v pick_min_x lightest_x drawn_x chosen_x edge_x served_x degree_x of_degree_x grown_x short all_short
fits_3 = refl

-- of any rate whose growth fits
narrow_graph : (r : Rate) → fits (grown_x (checks r) r.n (degree_at r) (start_x r.seed)) ≡ true → (c : ℕ) → c < checks r → length (check (rate_graph r) c) ≤ 32
unfolding rate_graph
narrow_graph r e c h =
    let chk = grown_chk r.n (checks r) (rate_degrees r) r.seed in
    omega (
      arith,
      ap length (built-check r.n (checks r) (rate_degrees r) r.seed c h),
      weighted-length (growth r.n (checks r) (rate_degrees r) r.seed).1 (start_of chk c) (chk c),
      ap (λ (w : Growth). length (w.0.chk c)) (grown_ext (checks r) r.n (nth (rate_degrees r)) (degree_at r) (empty, r.seed) (degrees_at r)),
      narrow_checks (checks r) r.n (degree_at r) r.seed e c,
    )

pub narrow : (rate : ℕ) → rate < 4 → (c : ℕ) → c < checks (rate_of rate) → length (check (rate_graph (rate_of rate)) c) ≤ 32
unfolding rate_of degree_row degree_rows
narrow zero h = narrow_graph (rate_of 0) fits_0
narrow (suc zero) h = narrow_graph (rate_of 1) fits_1
narrow (suc (suc zero)) h = narrow_graph (rate_of 2) fits_2
narrow (suc (suc (suc zero))) h = narrow_graph (rate_of 3) fits_3
narrow (suc (suc (suc (suc k)))) h = absurd (let l : suc (suc (suc (suc k))) < 4 = h in omega arith)
