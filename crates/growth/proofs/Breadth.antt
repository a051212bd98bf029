-- The search in breadth: the candidates it chooses among, a turn's four ways, and what the loop keeps.
-- Assumes nothing.
use Prim.Native.Nat.{ℕ, zero, suc, ◌<◌, ◌≤◌}
use mathlib.Core.Path.{◌≡◌, refl, ap, sym, ◌∙◌, subst}
use mathlib.Core.Bool.{Bool, true, false}
use mathlib.Core.List.{List, [], ◌∷◌, ◌++◌, foldl}
use native.Mathlib.Nat.{not-suc-le-zero}
use native.Mathlib.Omega.{arith}
use lib.ListN.{length, get_or, set, length-append}
use Rattle.lists.specs.Choice.{pick}
use Rattle.lists.specs.Keep.{keep}
use Rattle.lists.proofs.Choice.{pick_same, pick_other}
use Rattle.growth.specs.Adjacency.{Adjacency, load}
use Rattle.growth.specs.PickMin.{lightest, pick_min}
use Rattle.growth.specs.Search.{Found, meet, visited, layer, unmarked, Reach, new_c, new_v, rest, onward, none, searched}
use Rattle.growth.specs.Rows.{free}

-- ---- a layer

-- what is found only grows, and where it does not grow nothing changes
record Grows (f : Found → ℕ → Found) : Type 0 where
  more : (s : Found) (x : ℕ) → length s.1 ≤ length (f s x).1
  stay : (s : Found) (x : ℕ) → length (f s x).1 ≡ length s.1 → f s x ≡ s

meet_grows : Grows meet
unfolding meet pick
meet_grows = record { more = λ s x. a s x (get_or s.0 x false); stay = λ s x. b s x (get_or s.0 x false) }
  where
    a : (s : Found) (x : ℕ) (t : Bool) → length s.1 ≤ length (pick t s (set s.0 x true, s.1 ++ x ∷ [])).1
    a s x true = omega arith
    a s x false = simp length-append (omega arith)

    b : (s : Found) (x : ℕ) (t : Bool) → length (pick t s (set s.0 x true, s.1 ++ x ∷ [])).1 ≡ length s.1 → pick t s (set s.0 x true, s.1 ++ x ∷ []) ≡ s
    b s x true e = refl
    b s x false e = absurd (let z = simp length-append at e in omega arith)

module _ (f : Found → ℕ → Found) (g : Grows f) where
  fold_more : (l : List ℕ) (s : Found) → length s.1 ≤ length (foldl f s l).1
  fold_more [] s = omega arith
  fold_more (x ∷ l) s = let a = g.more s x in let b = fold_more l (f s x) in omega arith

  fold_stay : (l : List ℕ) (s : Found) → length (foldl f s l).1 ≡ length s.1 → foldl f s l ≡ s
  fold_stay [] s e = refl
  fold_stay (x ∷ l) s e =
      let a = g.more s x in
      let b = fold_more l (f s x) in
      fold_stay l (f s x) (omega arith) ∙ g.stay s x (omega arith)

visited_grows : (lists : ℕ → List ℕ) → Grows (visited lists)
unfolding visited
visited_grows lists = record { more = λ s u. fold_more meet meet_grows (lists u) s; stay = λ s u. fold_stay meet meet_grows (lists u) s }

-- a layer that found nothing marked nothing
pub layer_none : (lists : ℕ → List ℕ) (front : List ℕ) (seen : List Bool) → length (layer lists front seen).1 ≡ 0 → (layer lists front seen).0 ≡ seen
unfolding layer
layer_none lists front seen e = ap (λ (s : Found). s.0) (fold_stay (visited lists) (visited_grows lists) front (seen, []) e)

-- ---- the candidates

unfoldable pub candidates : ℕ → ℕ → Adjacency → Reach → List ℕ
candidates zero m g s = []
candidates (suc fuel) m g s =
    pick (none (new_c g s).1) (rest m g s)
    (pick (none (rest m g s)) (new_c g s).1
    (pick (none (new_v g s).1) (rest m g s)
    (candidates fuel m g (onward g s))))

pick_each {ℓ ℓ'} : {A : Type ℓ} {B : Type ℓ'} (f : A → B) (t : Bool) (x y : A) → pick t (f x) (f y) ≡ f (pick t x y)
unfolding pick
pick_each f true x y = refl
pick_each f false x y = refl

-- the search names the one that `pick_min` takes of them
pub searched_picks : (fuel m : ℕ) (g : Adjacency) (draw : ℕ) (s : Reach) → searched fuel m g draw s ≡ pick_min (load g) (candidates fuel m g s) draw
unfolding searched candidates pick_min lightest keep
searched_picks zero m g draw s = refl
searched_picks (suc fuel) m g draw s =
    let p : List ℕ → ℕ = λ l. pick_min (load g) l draw in
    let c = (new_c g s).1 in
    let r = rest m g s in
    let v = (new_v g s).1 in
    let on = candidates fuel m g (onward g s) in
    ap (λ (x : ℕ). pick (none c) (p r) (pick (none r) (p c) (pick (none v) (p r) x))) (searched_picks fuel m g draw (onward g s))
    ∙ ap (λ (x : ℕ). pick (none c) (p r) (pick (none r) (p c) x)) (pick_each p (none v) r on)
    ∙ ap (λ (x : ℕ). pick (none c) (p r) x) (pick_each p (none r) c (pick (none v) r on))
    ∙ pick_each p (none c) r (pick (none r) c (pick (none v) r on))

-- ---- the ways of a turn

module _ (fuel m : ℕ) (g : Adjacency) (s : Reach) where
  pub turn_none : length (new_c g s).1 ≡ 0 → candidates (suc fuel) m g s ≡ rest m g s
  unfolding candidates
  turn_none e = pick_same _ 0 _ _ e

  pub turn_all : (length (new_c g s).1 ≡ 0 → ⊥) → length (rest m g s) ≡ 0 → candidates (suc fuel) m g s ≡ (new_c g s).1
  unfolding candidates
  turn_all n e = pick_other _ 0 _ _ n ∙ pick_same _ 0 _ _ e

  pub turn_last : (length (new_c g s).1 ≡ 0 → ⊥) → (length (rest m g s) ≡ 0 → ⊥) → length (new_v g s).1 ≡ 0 → candidates (suc fuel) m g s ≡ rest m g s
  unfolding candidates
  turn_last n r e = pick_other _ 0 _ _ n ∙ pick_other _ 0 _ _ r ∙ pick_same _ 0 _ _ e

  pub turn_on : (length (new_c g s).1 ≡ 0 → ⊥) → (length (rest m g s) ≡ 0 → ⊥) → (length (new_v g s).1 ≡ 0 → ⊥) → candidates (suc fuel) m g s ≡ candidates fuel m g (onward g s)
  unfolding candidates
  turn_on n r e = pick_other _ 0 _ _ n ∙ pick_other _ 0 _ _ r ∙ pick_other _ 0 _ _ e

-- ---- as a loop runs it

-- the search from here on gives the whole's candidates: with fuel for every variable that is not marked, and a check that is not reached
pub record Going (m : ℕ) (g : Adjacency) (whole : List ℕ) (s : Reach) : Type 0 where
  pub fuel : ℕ
  pub enough : free s.seen_v < fuel
  pub same : candidates fuel m g s ≡ whole
  pub unreached : 0 < length (unmarked s.seen_c m)

module _ (m : ℕ) (g : Adjacency) (whole : List ℕ) (s : Reach) (w : Going m g whole s) where
  -- the first ending has a candidate
  pub rest_some : length (new_c g s).1 ≡ 0 → 0 < length (rest m g s)
  rest_some e = subst (λ (l : List Bool). 0 < length (unmarked l m)) (sym (layer_none g.var s.front s.seen_c e)) w.unreached

  fuelled : (P : ℕ → Type 0) → ((f : ℕ) → P (suc f)) → P w.fuel
  fuelled P h = go w.fuel w.enough
    where
      go : (f : ℕ) → free s.seen_v < f → P f
      go zero l = absurd (not-suc-le-zero l)
      go (suc f) l = h f

  pub ends_none : length (new_c g s).1 ≡ 0 → rest m g s ≡ whole
  ends_none e = fuelled (λ f. rest m g s ≡ candidates f m g s) (λ f. sym (turn_none f m g s e)) ∙ w.same

  pub ends_all : (length (new_c g s).1 ≡ 0 → ⊥) → length (rest m g s) ≡ 0 → (new_c g s).1 ≡ whole
  ends_all n e = fuelled (λ f. (new_c g s).1 ≡ candidates f m g s) (λ f. sym (turn_all f m g s n e)) ∙ w.same

  pub ends_last : (length (new_c g s).1 ≡ 0 → ⊥) → (length (rest m g s) ≡ 0 → ⊥) → length (new_v g s).1 ≡ 0 → rest m g s ≡ whole
  ends_last n r e = fuelled (λ f. rest m g s ≡ candidates f m g s) (λ f. sym (turn_last f m g s n r e)) ∙ w.same

  pub goes_on : (length (new_c g s).1 ≡ 0 → ⊥) → (length (rest m g s) ≡ 0 → ⊥) → (length (new_v g s).1 ≡ 0 → ⊥) → free (new_v g s).0 < free s.seen_v → Going m g whole (onward g s)
  goes_on n r e less = go w.fuel w.enough w.same
    where
      go : (f : ℕ) → free s.seen_v < f → candidates f m g s ≡ whole → Going m g whole (onward g s)
      go zero l q = absurd (not-suc-le-zero l)
      go (suc f) l q = record { fuel = f; enough = omega arith; same = sym (turn_on f m g s n r e) ∙ q; unreached = omega arith }
