-- An edge to a free check keeps the graph good, and v has one edge more.
-- Assumes nothing.
use Prim.Native.Nat.{ℕ, ◌+◌, ◌<◌, ◌≤◌}
use mathlib.Core.Path.{◌≡◌, refl, ap, sym, ◌∙◌}
use mathlib.Core.List.{List, [], ◌∷◌, ◌++◌}
use mathlib.Core.Logic.{⊎_elim, ◌≢◌}
use native.Mathlib.Omega.{arith}
use lib.ListN.{length, length-append}
use Rattle.lists.specs.Times.{times}
use Rattle.lists.proofs.Cases.{same_or_not}
use Rattle.lists.proofs.Choice.{pick_same, pick_other}
use Rattle.lists.proofs.Times.{times-append, times_none, times_same, times_other}
use Rattle.growth.specs.Adjacency.{Adjacency, load, pushed, joined}
use Rattle.growth.specs.Growth.{chosen}
use Rattle.growth.specs.Served.{Good, Serving}
use Rattle.growth.proofs.Candidates.{Free, chosen_free}

module _ (lists : ℕ → List ℕ) (r x q : ℕ) where
  pub pushed_here : q ≡ r → pushed lists r x q ≡ lists q ++ x ∷ []
  unfolding pushed
  pushed_here e = pick_same q r (lists r ++ x ∷ []) (lists q) e ∙ ap (λ (k : ℕ). lists k ++ x ∷ []) (sym e)

  pub pushed_else : q ≢ r → pushed lists r x q ≡ lists q
  unfolding pushed
  pushed_else n = pick_other q r (lists r ++ x ∷ []) (lists q) n

  hit : (y : ℕ) → q ≡ r → y ≡ x → times y (pushed lists r x q) ≡ times y (lists q) + 1
  hit y e f = ap (times y) (pushed_here e) ∙ times-append y (lists q) (x ∷ []) ∙ (let s = times_same y x [] f in let z = times_none y in omega arith)

  miss_list : (y : ℕ) → q ≢ r → times y (pushed lists r x q) ≡ times y (lists q)
  miss_list y n = ap (times y) (pushed_else n)

  miss : (y : ℕ) → y ≢ x → times y (pushed lists r x q) ≡ times y (lists q)
  miss y n =
      ⊎_elim
      (λ e. ap (times y) (pushed_here e) ∙ times-append y (lists q) (x ∷ []) ∙ (let s = times_other y x [] n in let z = times_none y in omega arith))
      (λ m. miss_list y m)
      (same_or_not q r)

pub joined_good : (m n : ℕ) (g : Adjacency) (v c : ℕ) → Good m n g → Free m g v c → v < n → Good m n (joined g c v)
joined_good m n g v c good free vb = record {
  both = λ q u. let o = good.both q u in ⊎_elim
      (λ e. ⊎_elim
      (λ f. let a = hit g.chk c v q u e f in let b = hit g.var v c u q f e in omega arith)
      (λ z. let a = miss g.chk c v q u z in let b = miss_list g.var v c u q z in omega arith)
      (same_or_not u v))
      (λ z. let a = miss_list g.chk c v q u z in let b = miss g.var v c u q z in omega arith)
      (same_or_not q c);
  once = λ q u. let o = good.once q u in ⊎_elim
      (λ e. ⊎_elim
      (λ f. let b = hit g.var v c u q f e in let z : times q (g.var u) ≡ 0 = ap (λ (k : ℕ). times k (g.var u)) e ∙ ap (λ (k : ℕ). times c (g.var k)) f ∙ free.1 in omega arith)
      (λ z. let b = miss_list g.var v c u q z in omega arith)
      (same_or_not u v))
      (λ z. let b = miss g.var v c u q z in omega arith)
      (same_or_not q c);
  inside = λ q u h. ⊎_elim
      (λ e. ⊎_elim
      (λ f. (omega (arith, free.0), omega arith))
      (λ z. good.inside q u (let b = miss_list g.var v c u q z in omega arith))
      (same_or_not u v))
      (λ z. good.inside q u (let b = miss g.var v c u q z in omega arith))
      (same_or_not q c);
}

-- the check chosen has at most t variables, and with it v has one edge more
module _ (m n v t k drawn : ℕ) (g : Adjacency) (s : Serving m n v t k g) (mb : m ≤ 256) (nb : n ≤ 256) (vb : v < n) (kb : k < m) where
  free_check : Free m g v (chosen m g v k drawn)
  free_check = chosen_free m n g v s.good mb nb (omega arith) (omega (arith, s.own)) k drawn s.own

  pub chosen_light : load g (chosen m g v k drawn) ≤ t
  chosen_light = let l = s.light (chosen m g v k drawn) in let f = free_check in omega arith

  pub serving_on : Serving m n v t (k + 1) (joined g (chosen m g v k drawn) v)
  serving_on =
      let c = chosen m g v k drawn in
      record {
        good = joined_good m n g v c s.good free_check vb;
        own = let e = ap length (pushed_here g.var v c v refl) in let a = length-append (g.var v) (c ∷ []) in let o = s.own in omega arith;
        light = λ q. let l = s.light q in ⊎_elim
            (λ e.
            let b = hit g.var v c v q refl e in
            let a = ap length (pushed_here g.chk c v q e) in
            let p = length-append (g.chk q) (v ∷ []) in
            omega arith)
            (λ z.
            let b = miss g.var v c v q z in
            let a = ap length (pushed_else g.chk c v q z) in
            omega arith)
            (same_or_not q c);
      }
