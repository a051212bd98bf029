-- The grown graph: each variable has its degree, the two sides agree, no variable stands twice in a check, and there are as many edges as the degrees' sum.
-- Assumes nothing.
use Prim.Native.Nat.{ℕ, ◌+◌, ◌<◌, ◌≤◌}
use mathlib.Core.Path.{◌≡◌, sym, ◌∙◌}
use mathlib.Core.List.{[]}
use mathlib.Core.Logic.{⊎_elim}
use native.Mathlib.Omega.{arith}
use lib.ListN.{length}
use Rattle.lists.specs.Entry.{nth}
use Rattle.lists.specs.Total.{total}
use Rattle.lists.specs.Times.{times}
use Rattle.lists.proofs.Cases.{same_or_not}
use Rattle.lists.proofs.Keep.{keep_below-length}
use Rattle.lists.proofs.Total.{total_ext, total_swap}
use Rattle.lists.proofs.Times.{times_at, times_empty, times_distinct, total-times}
use Rattle.growth.specs.Adjacency.{Adjacency, empty}
use Rattle.growth.specs.Growth.{grown}
use Rattle.growth.specs.Served.{Good, sooner, Begun}
use Rattle.growth.proofs.Order.{grown_begun, soon_all}

-- m checks, and n variables of the given degrees
pub record GrownWell (m n : ℕ) (degs : ℕ → ℕ) (g : Adjacency) : Type 0 where
  -- every variable has its degree
  pub degree : (u : ℕ) → u < n → length (g.var u) ≡ degs u
  -- the two sides agree
  pub both : (c u : ℕ) → times u (g.chk c) ≡ times c (g.var u)
  -- a variable stands at most once in a check
  pub once : (c u : ℕ) → times u (g.chk c) ≤ 1
  pub distinct : (c t v : ℕ) → t < length (g.chk c) → v < length (g.chk c) → nth (g.chk c) t ≡ nth (g.chk c) v → t ≡ v
  -- only variables below n and checks below m
  pub variables : (c t : ℕ) → t < length (g.chk c) → nth (g.chk c) t < n
  pub checks : (u t : ℕ) → t < length (g.var u) → nth (g.var u) t < m
  pub no_check : (c : ℕ) → m ≤ c → g.chk c ≡ []
  pub no_variable : (u : ℕ) → n ≤ u → g.var u ≡ []
  -- as many edges as the degrees' sum
  pub edges : total m (λ c. length (g.chk c)) ≡ total n degs
  -- a check has at most n variables
  pub loads : (c : ℕ) → length (g.chk c) ≤ n

module _ (m n : ℕ) (g : Adjacency) (good : Good m n g) where
  inside : (c u : ℕ) → 0 < times u (g.chk c) → (c < m) × (u < n)
  inside c u h = good.inside c u (let b = good.both c u in omega arith)

  good_once : (c u : ℕ) → times u (g.chk c) ≤ 1
  good_once c u = let a = good.both c u in let b = good.once c u in omega arith

  -- both sides have as many edges
  good_total : total m (λ c. length (g.chk c)) ≡ total n (λ u. length (g.var u))
  good_total =
      total_ext m (λ c. length (g.chk c)) (λ c. total n (λ u. times c (g.var u)))
      (λ c h. sym (total-times n (g.chk c) (λ u q. (inside c u q).1)) ∙ total_ext n (λ u. times u (g.chk c)) (λ u. times c (g.var u)) (λ u q. good.both c u))
      ∙ total_swap m n (λ c u. times c (g.var u))
      ∙ total_ext n (λ u. total m (λ c. times c (g.var u))) (λ u. length (g.var u)) (λ u h. total-times m (g.var u) (λ c q. (good.inside c u q).0))

module _ (m n : ℕ) (degs : ℕ → ℕ) (low : (u : ℕ) → u < n → degs u ≤ m) (g : Adjacency) (b : Begun m n degs (m + 1) 0 g) where
  full : (u : ℕ) → u < n → length (g.var u) ≡ degs u
  full u h = b.full u h (soon_all m degs u (low u h))

  begun_well : GrownWell m n degs g
  begun_well =
      let good = b.good in
      record {
        degree = full;
        both = good.both;
        once = good_once m n g good;
        distinct = λ c. times_distinct (g.chk c) (good_once m n g good c);
        variables = λ c t h. (inside m n g good c (nth (g.chk c) t) (times_at (g.chk c) t h)).1;
        checks = λ u t h. (good.inside (nth (g.var u) t) u (times_at (g.var u) t h)).0;
        no_check = λ c h. times_empty (g.chk c) (λ u. ⊎_elim (λ e. e) (λ z. absurd (let i = inside m n g good c u (omega arith) in omega arith)) (same_or_not (times u (g.chk c)) 0));
        no_variable = λ u h. times_empty (g.var u) (λ c. ⊎_elim (λ e. e) (λ z. absurd (let i = good.inside c u (omega arith) in omega arith)) (same_or_not (times c (g.var u)) 0));
        edges = good_total m n g good ∙ total_ext n (λ u. length (g.var u)) degs full;
        loads = λ c. let l = b.light c in let k = keep_below-length (sooner degs (m + 1) 0) n in omega arith;
      }

pub grown_well : (m n : ℕ) (degs : ℕ → ℕ) (seed : ℕ) → m ≤ 256 → n ≤ 256 → ((u : ℕ) → u < n → degs u ≤ m) → GrownWell m n degs (grown m n degs (empty, seed)).0
grown_well m n degs seed mb nb low = begun_well m n degs low (grown m n degs (empty, seed)).0 (grown_begun m n degs mb nb seed)
