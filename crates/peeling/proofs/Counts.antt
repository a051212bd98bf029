-- The definitions of peeling by counts, as the code keeps them: how many unknown symbols each check has, and what a symbol that becomes known takes from it.
-- Assumes nothing.
use Prim.Native.Nat.{ℕ, ◌+◌, ◌-◌, ◌<◌, ◌≤◌}
use mathlib.Core.Path.{◌≡◌, refl, ap, ap₂, sym, ◌∙◌}
use mathlib.Core.Bool.{Bool, true, false, not, ◌&&◌}
use mathlib.Core.List.{List}
use mathlib.Core.Logic.{⊎_elim}
use native.Mathlib.Omega.{arith}
use borrow.Author.Tests.{lt-ltb, le-ltb}
use lib.Dec.{eqb, ltb}
use lib.IntN.{ℤ, pos}
use lib.ListN.{length, get_or}
use Rattle.lists.specs.Changed.{changed}
use Rattle.lists.specs.Choice.{pick}
use Rattle.lists.specs.Entry.{nth}
use Rattle.lists.specs.Keep.{keep}
use Rattle.lists.specs.Lowest.{lowest}
use Rattle.lists.specs.Times.{times}
use Rattle.lists.specs.Total.{total}
use Rattle.lists.proofs.Cases.{true_or_false, less_or_not}
use Rattle.lists.proofs.Changed.{changed_at, changed_other}
use Rattle.lists.proofs.Choice.{pick-true, pick-false}
use Rattle.lists.proofs.Keep.{keep_all}
use Rattle.lists.proofs.Lowest.{lowest_ext}
use Rattle.lists.proofs.Tally.{tally_total}
use Rattle.lists.proofs.Times.{times_less}
use Rattle.lists.proofs.Total.{total_ext}
use Rattle.lists.proofs.Values.{values-length}
use Rattle.elimination.specs.Graph.{Graph, check_count}
use Rattle.elimination.specs.Held.{held}
use Rattle.elimination.proofs.Held.{held_checks}
use Rattle.peeling.specs.Best.{best}
use Rattle.peeling.specs.Peelable.{symbols_in}
use Rattle.peeling.specs.Peeling.{Known, symbols_of, unknowns, one_unknown, following, freed, pick_of}
use Rattle.peeling.proofs.BestSymbol.{best_ext}
use Rattle.peeling.proofs.Peelable.{symbols_held}

-- ---- of any graph

module _ (g : Graph) where
  -- at first every symbol of a check is unknown
  pub unknowns_all : (c : ℕ) → length (unknowns g (λ _. false) c) ≡ length (symbols_of g c)
  unfolding unknowns
  unknowns_all c = ap length (keep_all (λ _. true) (λ _. refl) (symbols_of g c))

  module _ (known : Known) (v : ℕ) where
    -- a symbol that becomes known takes itself from each check
    pub unknowns_less : (c : ℕ) → known v ≡ false → length (unknowns g (changed known v true) c) + times v (symbols_of g c) ≡ length (unknowns g known c)
    unfolding unknowns
    unknowns_less c e =
        times_less (λ x. not (known x)) (λ x. not (changed known v true x)) v (ap not e) (ap not (changed_at known v true v refl))
        (λ x d. ap not (changed_other known v true x d)) (symbols_of g c)

    -- a symbol stands at most once in a check: so the checks that it frees are a sum
    pub freed-total : ((c : ℕ) → c < check_count g → times v (symbols_of g c) ≤ 1)
        → freed g known v ≡ total (check_count g) (λ c. pick (eqb (length (unknowns g known c)) 2) (times v (symbols_of g c)) 0)
    unfolding freed
    freed-total once =
        tally_total (λ c. two c && ltb 0 (times v (symbols_of g c))) (check_count g)
        ∙ total_ext (check_count g) (λ c. pick (two c && ltb 0 (times v (symbols_of g c))) 1 0) (λ c. pick (two c) (times v (symbols_of g c)) 0) one
      where
        two : ℕ → Bool
        two c = eqb (length (unknowns g known c)) 2

        one : (c : ℕ) → c < check_count g → pick (two c && ltb 0 (times v (symbols_of g c))) 1 0 ≡ pick (two c) (times v (symbols_of g c)) 0
        one c h =
            let k = times v (symbols_of g c) in
            ⊎_elim
            (λ t. ap (λ (a : Bool). pick (a && ltb 0 k) 1 0) t ∙ sole k (once c h) ∙ sym (pick-true (two c) k 0 t))
            (λ t. ap (λ (a : Bool). pick (a && ltb 0 k) 1 0) t ∙ pick-false false 1 0 refl ∙ sym (pick-false (two c) k 0 t))
            (true_or_false (two c))
          where
            sole : (k : ℕ) → k ≤ 1 → pick (ltb 0 k) 1 0 ≡ k
            sole k l =
                ⊎_elim
                (λ a. omega (arith, pick-true {A = ℕ} (ltb 0 k) 1 0 (lt-ltb 0 k a)))
                (λ (a : k ≤ 0). omega (arith, pick-false {A = ℕ} (ltb 0 k) 1 0 (le-ltb 0 k a)))
                (less_or_not 0 k)

-- ---- of a graph that stands in parts, by counts of the unknown symbols of each check

module _ (n m : ℕ) (var coef row : List ℕ) where
  abbrev g : Graph
  g = held n m var coef row

  abbrev symbols : ℕ → List ℕ
  symbols c = symbols_in var (nth row c) (nth row (c + 1))

  pub count_start : (c : ℕ) → c < m → nth row (c + 1) - nth row c ≡ length (unknowns g (λ _. false) c)
  count_start c h =
      sym (unknowns_all g c ∙ ap length (symbols_held n m var coef row c h) ∙ values-length (λ j. nth var (nth row c + j)) (nth row (c + 1) - nth row c))

  module _ (known : Known) (count : ℕ → ℕ) (right : (c : ℕ) → c < m → count c ≡ length (unknowns g known c)) where
    pub count_less : (v c : ℕ) → c < m → known v ≡ false → count c - times v (symbols c) ≡ length (unknowns g (changed known v true) c)
    count_less v c h e = omega (arith, right c h, unknowns_less g known v c e, ap (times v) (symbols_held n m var coef row c h))

    -- there are as many to take away
    pub count_room : (v c : ℕ) → c < m → known v ≡ false → times v (symbols c) ≤ count c
    count_room v c h e = omega (arith, right c h, unknowns_less g known v c e, ap (times v) (symbols_held n m var coef row c h))

    pub count_one : lowest (λ c. eqb (count c) 1) m 0 ≡ one_unknown g known
    unfolding one_unknown
    count_one =
        lowest_ext (λ c. eqb (count c) 1) (λ c. eqb (length (unknowns g known c)) 1) m 0 (λ c a b. ap (λ (k : ℕ). eqb k 1) (right c (omega arith)))
        ∙ ap (λ (k : ℕ). lowest (λ c. eqb (length (unknowns g known c)) 1) k 0) (sym (held_checks n m var coef row))

    pub count_freed : (v : ℕ) → ((c : ℕ) → c < m → times v (symbols c) ≤ 1) → total m (λ c. pick (eqb (count c) 2) (times v (symbols c)) 0) ≡ freed g known v
    count_freed v once =
        total_ext m (λ c. pick (eqb (count c) 2) (times v (symbols c)) 0) (λ c. pick (eqb (length (unknowns g known c)) 2) (times v (symbols_of g c)) 0)
        (λ c h. ap₂ (λ (a b : ℕ). pick (eqb a 2) b 0) (right c h) (ap (times v) (sym (symbols_held n m var coef row c h))))
        ∙ ap (λ (k : ℕ). total k (λ c. pick (eqb (length (unknowns g known c)) 2) (times v (symbols_of g c)) 0)) (sym checks)
        ∙ sym (freed-total g known v (λ c h. let l : c < m = omega (arith, checks) in omega (arith, once c l, ap (times v) (symbols_held n m var coef row c l))))
      where
        checks : check_count g ≡ m
        checks = held_checks n m var coef row

    pub count_pick : (last : Bool) (prefer : List ℤ) → ((v c : ℕ) → c < m → times v (symbols c) ≤ 1) → (u : ℕ) → u < n → known u ≡ false
        → best last n known (λ v. (total m (λ c. pick (eqb (count c) 2) (times v (symbols c)) 0), get_or prefer v (pos 0))) ≡ pick_of last g prefer known
    unfolding pick_of held
    count_pick last prefer once u h e =
        best_ext last n known known (λ v. (total m (λ c. pick (eqb (count c) 2) (times v (symbols c)) 0), get_or prefer v (pos 0))) (λ v. (freed g known v, get_or prefer v (pos 0)))
        (λ v l. refl) (λ v l. ap (λ (k : ℕ). (k, get_or prefer v (pos 0))) (count_freed v (once v))) u h e

  -- the unknown symbol of the lowest check that has exactly one
  pub held_following : (known : Known) (c : ℕ) → c < m → c ≡ one_unknown g known → nth (keep (λ v. not (known v)) (symbols c)) 0 ≡ following g known
  unfolding following unknowns
  held_following known c h e =
      ap (λ (l : List ℕ). nth (keep (λ v. not (known v)) l) 0) (sym (symbols_held n m var coef row c h))
      ∙ ap (λ (k : ℕ). nth (keep (λ v. not (known v)) (symbols_of g k)) 0) e
