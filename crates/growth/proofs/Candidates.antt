-- The candidates for an edge's check: never none, all below m, and no check of the variable's own. So the check chosen is no check of the variable's own.
-- Assumes nothing.
use Prim.Native.Nat.{ℕ, zero, suc, ◌+◌, ◌<◌, ◌≤◌}
use mathlib.Core.Path.{◌≡◌, ap, sym, ◌∙◌, subst}
use mathlib.Core.Bool.{Bool, true, false, true≢false}
use mathlib.Core.List.{List, [], ◌∷◌, append-nil}
use mathlib.Core.Logic.{⊎_elim}
use native.Mathlib.Nat.{not-suc-le-zero}
use native.Mathlib.Omega.{arith}
use lib.Dec.{eqb}
use lib.ListN.{length, get_or, length-set, length-replicate}
use Rattle.lists.specs.Choice.{pick}
use Rattle.lists.specs.Times.{times}
use Rattle.lists.proofs.Cases.{same_or_not}
use Rattle.lists.proofs.Choice.{pick_same, pick_other}
use Rattle.lists.proofs.Times.{times_none, times-length}
use Rattle.growth.specs.Adjacency.{Adjacency, load}
use Rattle.growth.specs.PickMin.{pick_min}
use Rattle.growth.specs.Search.{unmarked, clear, Reach, begin, new_c, new_v, rest, onward}
use Rattle.growth.specs.Growth.{chosen}
use Rattle.growth.specs.Rows.{free}
use Rattle.growth.specs.Served.{Good}
use Rattle.growth.proofs.Marks.{unmarked_in, unmarked-clear, free-clear, free-le, free_past}
use Rattle.growth.proofs.PickMin.{pick_in}
use Rattle.growth.proofs.Breadth.{layer_none, candidates, searched_picks, turn_none, turn_all, turn_last, turn_on}
use Rattle.growth.proofs.Found.{Met, met_layer, flat, flat_in}

-- check c is below m, and no check of v's own
abbrev pub Free : ℕ → Adjacency → ℕ → ℕ → Type 0
Free m g v c = (c < m) × (times c (g.var v) ≡ 0)

-- candidates there are, and each of them is such a check
pub record Fresh (m : ℕ) (g : Adjacency) (v : ℕ) (l : List ℕ) : Type 0 where
  pub some : 0 < length l
  pub apart : (c : ℕ) → 0 < times c l → Free m g v c

-- the candidates for v's edge numbered k
abbrev pub candidates_for : ℕ → Adjacency → ℕ → ℕ → List ℕ
candidates_for m g v k = pick (eqb k 0) (unmarked clear m) (candidates 257 m g (begin v))

pub chosen_picks : (m : ℕ) (g : Adjacency) (v k drawn : ℕ) → chosen m g v k drawn ≡ pick_min (load g) (candidates_for m g v k) drawn
unfolding chosen
chosen_picks m g v k drawn =
    ⊎_elim
    (λ e. pick_same k 0 _ _ e ∙ ap (λ (l : List ℕ). pick_min (load g) l drawn) (sym (pick_same k 0 (unmarked clear m) (candidates 257 m g (begin v)) e)))
    (λ n. pick_other k 0 _ _ n ∙ searched_picks 257 m g drawn (begin v) ∙ ap (λ (l : List ℕ). pick_min (load g) l drawn) (sym (pick_other k 0 (unmarked clear m) (candidates 257 m g (begin v)) n)))
    (same_or_not k 0)

-- ---- they are fresh

-- all checks of v's own are marked
abbrev Owned : Adjacency → ℕ → List Bool → Type 0
Owned g v seen = (c : ℕ) → 0 < times c (g.var v) → get_or seen c false ≡ true

module _ (m n : ℕ) (g : Adjacency) (v : ℕ) (good : Good m n g) (mb : m ≤ 256) (nb : n ≤ 256) where
  free_by : (seen : List Bool) → Owned g v seen → (c : ℕ) → c < m → get_or seen c false ≡ false → Free m g v c
  free_by seen o c b f = ⊎_elim (λ e. (b, e)) (λ n. absurd (true≢false (sym (o c (omega arith)) ∙ f))) (same_or_not (times c (g.var v)) 0)

  module _ (s : Reach) (long_c : length s.seen_c ≡ 256) (long_v : length s.seen_v ≡ 256) where
    met_c : Met (flat g.var s.front) (s.seen_c, []) (new_c g s)
    met_c = met_layer g.var s.front s.seen_c long_c

    met_v : Met (flat g.chk (new_c g s).1) (s.seen_v, []) (new_v g s)
    met_v = met_layer g.chk (new_c g s).1 s.seen_v long_v

    less_v : (length (new_v g s).1 ≡ 0 → ⊥) → free (new_v g s).0 < free s.seen_v
    unfolding free
    less_v z =
        let b = met_v.balance 256 (omega arith) (flat_in g.chk (λ x. x < 256) (λ x c h. let i = good.inside c x (let e = good.both c x in omega arith) in omega arith) (new_c g s).1) in
        omega (arith, z)

    rest_fresh : Owned g v (new_c g s).0 → 0 < length (rest m g s) → Fresh m g v (rest m g s)
    rest_fresh o h = record { some = h; apart = λ c q. let u = unmarked_in (new_c g s).0 m c q in free_by (new_c g s).0 o c u.0 u.1 }

    -- one turn, where the newest layer is fresh when all checks are reached
    turned : (f : ℕ) → Owned g v (new_c g s).0 → (length (new_c g s).1 ≡ 0 → 0 < length (rest m g s))
        → (length (rest m g s) ≡ 0 → 0 < length (new_c g s).1 → Fresh m g v (new_c g s).1)
        → (0 < length (rest m g s) → free (new_v g s).0 < free s.seen_v → Fresh m g v (candidates f m g (onward g s)))
        → Fresh m g v (candidates (suc f) m g s)
    turned f o some newest later =
        ⊎_elim
        (λ e. subst (Fresh m g v) (sym (turn_none f m g s e)) (rest_fresh o (some e)))
        (λ n. ⊎_elim
        (λ e. subst (Fresh m g v) (sym (turn_all f m g s n e)) (newest e (omega arith)))
        (λ r. ⊎_elim
        (λ e. subst (Fresh m g v) (sym (turn_last f m g s n r e)) (rest_fresh o (omega arith)))
        (λ e. subst (Fresh m g v) (sym (turn_on f m g s n r e)) (later (omega arith) (less_v e)))
        (same_or_not (length (new_v g s).1) 0))
        (same_or_not (length (rest m g s)) 0))
        (same_or_not (length (new_c g s).1) 0)

  -- after the first turn the variable's own checks are marked
  later : (f : ℕ) (s : Reach) → length s.seen_c ≡ 256 → length s.seen_v ≡ 256 → Owned g v s.seen_c → 0 < length (unmarked s.seen_c m) → free s.seen_v < f → Fresh m g v (candidates f m g s)
  later zero s lc lv o u l = absurd (not-suc-le-zero l)
  later (suc f) s lc lv o u l =
      let r = met_c s lc lv in
      turned s lc lv f
      (λ c h. r.kept c (o c h))
      (λ e. subst (λ (k : List Bool). 0 < length (unmarked k m)) (sym (layer_none g.var s.front s.seen_c e)) u)
      (λ e h. record {
        some = h;
        apart = λ c q. ⊎_elim
            (λ z. absurd (let n = times_none c in omega arith))
            (λ z. free_by s.seen_c o c (flat_in g.var (λ x. x < m) (λ x w i. (good.inside x w i).0) s.front c z.0) z.1)
            (r.new c q);
      })
      (λ h q. later f (onward g s) r.long (met_v s lc lv).long (λ c i. r.kept c (o c i)) h (omega arith))

  module _ (vb : v < 256) (kb : length (g.var v) < m) where
    own_list : flat g.var (v ∷ []) ≡ g.var v
    unfolding flat
    own_list = append-nil (g.var v)

    -- the first turn, from v alone
    pub searched_fresh : Fresh m g v (candidates 257 m g (begin v))
    unfolding free
    searched_fresh =
        let lc = length-replicate 256 false in
        let lv : length (begin v).seen_v ≡ 256 = length-set clear v true ∙ lc in
        let r = met_c (begin v) lc lv in
        let o : Owned g v (new_c g (begin v)).0 = λ c h. r.cover c (subst (λ (l : List ℕ). 0 < times c l) (sym own_list) h) (let i = good.inside c v h in omega arith) in
        let b = r.balance 256 (omega arith) (flat_in g.var (λ x. x < 256) (λ x u h. let i = good.inside x u h in omega arith) (v ∷ [])) in
        let w : length (new_c g (begin v)).1 ≤ 0 + length (g.var v) = subst (λ (l : List ℕ). length (new_c g (begin v)).1 ≤ 0 + length l) own_list r.few in
        let all = unmarked-clear m mb in
        let fl = free-le (begin v).seen_v in
        turned (begin v) lc lv 256 o
        (λ e. subst (λ (k : List Bool). 0 < length (unmarked k m)) (sym (layer_none g.var (v ∷ []) clear e)) (omega arith))
        (λ e h. absurd (let a = free_past (new_c g (begin v)).0 m mb e in omega (arith, free-clear)))
        (λ h q. later 256 (onward g (begin v)) r.long (met_v (begin v) lc lv).long o h (omega arith))

    pub candidates_fresh : (k : ℕ) → length (g.var v) ≡ k → Fresh m g v (candidates_for m g v k)
    candidates_fresh k own =
        ⊎_elim
        (λ e. subst (Fresh m g v) (sym (pick_same k 0 (unmarked clear m) (candidates 257 m g (begin v)) e)) (first e))
        (λ n. subst (Fresh m g v) (sym (pick_other k 0 (unmarked clear m) (candidates 257 m g (begin v)) n)) searched_fresh)
        (same_or_not k 0)
      where
        first : k ≡ 0 → Fresh m g v (unmarked clear m)
        first e = record { some = let a = unmarked-clear m mb in omega arith; apart = λ c h. ((unmarked_in clear m c h).0, let t = times-length c (g.var v) in omega arith) }

    pub chosen_free : (k drawn : ℕ) → length (g.var v) ≡ k → Free m g v (chosen m g v k drawn)
    chosen_free k drawn own =
        let f = candidates_fresh k own in
        subst (Free m g v) (sym (chosen_picks m g v k drawn)) (f.apart _ (pick_in (load g) (candidates_for m g v k) drawn f.some))
