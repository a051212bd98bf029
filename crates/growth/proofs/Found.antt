-- What a layer of the search has done: which numbers it found, marked and left.
-- Assumes nothing.
use Prim.Native.Nat.{ℕ, ◌+◌, ◌<◌, ◌≤◌}
use mathlib.Core.Path.{◌≡◌, refl, ap, sym, ◌∙◌, subst}
use mathlib.Core.Bool.{Bool, true, false, true≢false}
use mathlib.Core.List.{List, [], ◌∷◌, ◌++◌, foldl}
use mathlib.Core.Logic.{⊎_elim, ◌⊎◌, inl, inr}
use native.Mathlib.Omega.{arith}
use lib.ListN.{length, get_or, set, length-append, length-set}
use lib.Seq.{get_or-set_same, get_or-set_other}
use Rattle.lists.specs.Times.{times}
use Rattle.lists.proofs.Cases.{same_or_not, true_or_false}
use Rattle.lists.proofs.Choice.{pick-true, pick-false}
use Rattle.lists.proofs.Times.{times-append, times_none, times_same, times_other}
use Rattle.growth.specs.Adjacency.{Adjacency}
use Rattle.growth.specs.Search.{Found, meet, visited, layer, unmarked, Reach, new_c, rest}
use Rattle.growth.specs.Served.{Good}
use Rattle.growth.proofs.Marks.{unmarked-set}

-- s' is s after the entries of l were met
pub record Met (l : List ℕ) (s s' : Found) : Type 0 where
  pub long : length s'.0 ≡ 256
  pub kept : (x : ℕ) → get_or s.0 x false ≡ true → get_or s'.0 x false ≡ true
  pub new : (x : ℕ) → 0 < times x s'.1 → (0 < times x s.1) ⊎ ((0 < times x l) × (get_or s.0 x false ≡ false))
  pub cover : (x : ℕ) → 0 < times x l → x < 256 → get_or s'.0 x false ≡ true
  pub balance : (n : ℕ) → n ≤ 256 → ((x : ℕ) → 0 < times x l → x < n) → length (unmarked s'.0 n) + length s'.1 ≡ length (unmarked s.0 n) + length s.1
  pub few : length s'.1 ≤ length s.1 + length l

met_none : (s : Found) → length s.0 ≡ 256 → Met [] s s
met_none s e = record {
  long = e;
  kept = λ x h. h;
  new = λ x h. inl h;
  cover = λ x h b. absurd (let n = times_none x in omega arith);
  balance = λ n b h. refl;
  few = omega arith;
}

met_both : (l k : List ℕ) (s s' s'' : Found) → Met l s s' → Met k s' s'' → Met (l ++ k) s s''
met_both l k s s' s'' a b = record {
  long = b.long;
  kept = λ x h. b.kept x (a.kept x h);
  new = λ x h. let t = times-append x l k in ⊎_elim
      (λ i. ⊎_elim (λ j. inl j) (λ j. inr (omega arith, j.1)) (a.new x i))
      (λ i. ⊎_elim
      (λ e. absurd (true≢false (sym (a.kept x e) ∙ i.1)))
      (λ e. inr (omega arith, e))
      (true_or_false (get_or s.0 x false)))
      (b.new x h);
  cover = λ x h i. let t = times-append x l k in ⊎_elim
      (λ z. b.cover x (omega arith) i)
      (λ z. b.kept x (a.cover x (omega arith) i))
      (same_or_not (times x l) 0);
  balance = λ n c h.
      let p = a.balance n c (λ x i. h x (let t = times-append x l k in omega arith)) in
      let q = b.balance n c (λ x i. h x (let t = times-append x l k in omega arith)) in
      q ∙ p;
  few = let p = a.few in let q = b.few in simp length-append (omega arith);
}

met_old : (s : Found) (y : ℕ) → length s.0 ≡ 256 → get_or s.0 y false ≡ true → Met (y ∷ []) s s
met_old s y e m = record {
  long = e;
  kept = λ x h. h;
  new = λ x h. inl h;
  cover = λ x h b. ⊎_elim
      (λ q. ap (λ (z : ℕ). get_or s.0 z false) q ∙ m)
      (λ q. absurd (let o = times_other x y [] q in let n = times_none x in omega arith))
      (same_or_not x y);
  balance = λ n b h. refl;
  few = omega arith;
}

met_new : (s : Found) (y : ℕ) → length s.0 ≡ 256 → get_or s.0 y false ≡ false → Met (y ∷ []) s (set s.0 y true, s.1 ++ y ∷ [])
met_new s y e m = record {
  long = length-set s.0 y true ∙ e;
  kept = λ x h. ⊎_elim
      (λ q. absurd (true≢false (sym h ∙ ap (λ (k : ℕ). get_or s.0 k false) q ∙ m)))
      (λ q. get_or-set_other s.0 y x true false q ∙ h)
      (same_or_not x y);
  new = λ x h. let t = times-append x s.1 (y ∷ []) in ⊎_elim
      (λ q. inr (let o = times_same x y [] q in omega arith, ap (λ (k : ℕ). get_or s.0 k false) q ∙ m))
      (λ q. inl (let o = times_other x y [] q in let n = times_none x in omega arith))
      (same_or_not x y);
  cover = λ x h b. ⊎_elim
      (λ q. ap (λ (k : ℕ). get_or (set s.0 y true) k false) q ∙ get_or-set_same s.0 y true false (omega arith))
      (λ q. absurd (let o = times_other x y [] q in let n = times_none x in omega arith))
      (same_or_not x y);
  balance = λ n b h.
      let o = times_same y y [] refl in
      let i = h y (omega arith) in
      let f = unmarked-set s.0 n y (omega arith) i m in
      simp length-append (omega arith);
  few = simp length-append (omega arith);
}

met_one : (s : Found) (y : ℕ) → length s.0 ≡ 256 → Met (y ∷ []) s (meet s y)
unfolding meet
met_one s y e =
    ⊎_elim
    (λ m. subst (λ (k : Found). Met (y ∷ []) s k) (sym (pick-true (get_or s.0 y false) s (set s.0 y true, s.1 ++ y ∷ []) m)) (met_old s y e m))
    (λ m. subst (λ (k : Found). Met (y ∷ []) s k) (sym (pick-false (get_or s.0 y false) s (set s.0 y true, s.1 ++ y ∷ []) m)) (met_new s y e m))
    (true_or_false (get_or s.0 y false))

met_all : (l : List ℕ) (s : Found) → length s.0 ≡ 256 → Met l s (foldl meet s l)
met_all [] s e = met_none s e
met_all (y ∷ l) s e = let a = met_one s y e in met_both (y ∷ []) l s (meet s y) (foldl meet (meet s y) l) a (met_all l (meet s y) a.long)

-- the lists of a front, one behind the other
unfoldable pub flat : (ℕ → List ℕ) → List ℕ → List ℕ
flat lists [] = []
flat lists (u ∷ l) = lists u ++ flat lists l

met_front : (lists : ℕ → List ℕ) (front : List ℕ) (s : Found) → length s.0 ≡ 256 → Met (flat lists front) s (foldl (visited lists) s front)
unfolding visited flat
met_front lists [] s e = met_none s e
met_front lists (u ∷ l) s e =
    let a = met_all (lists u) s e in
    met_both (lists u) (flat lists l) s (foldl meet s (lists u)) (foldl (visited lists) (foldl meet s (lists u)) l) a (met_front lists l (foldl meet s (lists u)) a.long)

pub met_layer : (lists : ℕ → List ℕ) (front : List ℕ) (seen : List Bool) → length seen ≡ 256 → Met (flat lists front) (seen, []) (layer lists front seen)
unfolding layer
met_layer lists front seen e = met_front lists front (seen, []) e

-- what holds of all entries of the lists holds of those of a front
pub flat_in : (lists : ℕ → List ℕ) (P : ℕ → Type 0) → ((x u : ℕ) → 0 < times x (lists u) → P x) → (front : List ℕ) (x : ℕ) → 0 < times x (flat lists front) → P x
unfolding flat
flat_in lists P h [] x q = absurd (let n = times_none x in omega arith)
flat_in lists P h (u ∷ l) x q =
    let t = times-append x (lists u) (flat lists l) in
    ⊎_elim
    (λ z. flat_in lists P h l x (omega arith))
    (λ z. h x u (omega arith))
    (same_or_not (times x (lists u)) 0)

-- each check that a layer finds is one less that is not reached
pub rest_less : (m n : ℕ) (g : Adjacency) (s : Reach) → Good m n g → m ≤ 256 → length s.seen_c ≡ 256 → length (rest m g s) + length (new_c g s).1 ≡ length (unmarked s.seen_c m)
rest_less m n g s good b e =
    let q = (met_layer g.var s.front s.seen_c e).balance m b (flat_in g.var (λ x. x < m) (λ x u h. (good.inside x u h).0) s.front) in
    omega arith
