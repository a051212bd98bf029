-- Each turn of peeling makes one unknown symbol known: so n turns make all known, and the picks are distinct positions below n.
-- Assumes nothing.
use Prim.Native.Nat.{ℕ, zero, suc, ◌+◌, ◌<◌, ◌≤◌}
use mathlib.Core.Path.{◌≡◌, refl, ap, sym, subst, ◌∙◌}
use mathlib.Core.Bool.{Bool, true, false, not, false≢true}
use mathlib.Core.List.{List, [], ◌∷◌, ◌++◌}
use mathlib.Core.Logic.{◌≢◌, ◌⊎◌, inl, inr, ⊎_elim}
use native.Mathlib.Omega.{arith}
use borrow.Author.Tests.{eqb-true, not-true}
use lib.Dec.{eqb}
use lib.IntN.{ℤ, pos}
use lib.ListN.{length, get_or, length-append, length-map, get_or-map}
use Rattle.lists.specs.Changed.{changed}
use Rattle.lists.specs.Entry.{nth}
use Rattle.lists.specs.Iter.{iter}
use Rattle.lists.specs.Keep.{keep_below}
use Rattle.lists.specs.Times.{times}
use Rattle.lists.proofs.Cases.{same_or_not, less_or_not}
use Rattle.lists.proofs.Changed.{changed_at, changed_other}
use Rattle.lists.proofs.Choice.{pick_less, pick_not_less}
use Rattle.lists.proofs.Keep.{keep_passes}
use Rattle.lists.proofs.Lowest.{lowest_is}
use Rattle.lists.proofs.Tally.{one_more, tally_none, tally_left, tally_full}
use Rattle.lists.proofs.Times.{times_none, times-append, times_same, times_other, times_at}
use Rattle.elimination.specs.Graph.{Edge, Graph, check_count, check}
use Rattle.elimination.proofs.Entries.{Inside}
use Rattle.peeling.specs.Peeling.{Known, symbols_of, unknowns, one_unknown, following, freed, pick_of, Peeled, followed, picked, peel_turn, peeled, picks_of}
use Rattle.peeling.proofs.BestSymbol.{best_new}

module _ (last : Bool) (g : Graph) (prefer : List ℤ) (inside : Inside g) where
  -- ---- one turn

  symbol_inside : (c t : ℕ) → c < check_count g → t < length (symbols_of g c) → nth (symbols_of g c) t < g.n
  unfolding symbols_of
  symbol_inside c t h l =
      subst (λ (x : ℕ). x < g.n) (sym (get_or-map (λ (e : Edge). e.0) (check g c) t (0, 0))) (inside c t h (omega (arith, l, length-map (check g c) (λ (e : Edge). e.0))))

  -- the unknown symbol of the check that has exactly one
  pub following_new : (known : Known) → one_unknown g known < check_count g → (following g known < g.n) × (known (following g known) ≡ false)
  unfolding one_unknown following unknowns
  following_new known h =
      let c = one_unknown g known in
      let one = eqb-true (length (unknowns g known c)) 1 ((lowest_is (λ c. eqb (length (unknowns g known c)) 1) (check_count g) 0).found (omega arith)) in
      let r = keep_passes (λ v. not (known v)) (symbols_of g c) 0 (omega (arith, one)) in
      (subst (λ (x : ℕ). x < g.n) r.1.2 (symbol_inside c r.1.0 h r.1.1), not-true (known (following g known)) r.0)

  pick_new : (known : Known) (u : ℕ) → u < g.n → known u ≡ false → (pick_of last g prefer known < g.n) × (known (pick_of last g prefer known) ≡ false)
  unfolding pick_of
  pick_new known u h e = best_new last g.n known (λ v. (freed g known v, get_or prefer v (pos 0))) u h e

  -- what a turn does to the state: v becomes known, and is a pick or not
  record Turned (s t : Peeled) : Type 0 where
    symbol : ℕ
    low : symbol < g.n
    new : s.known symbol ≡ false
    knows : t.known ≡ changed s.known symbol true
    picks : (t.picks ≡ s.picks) ⊎ (t.picks ≡ s.picks ++ symbol ∷ [])

  turned : (s : Peeled) (u : ℕ) → u < g.n → s.known u ≡ false → Turned s (peel_turn last g prefer s)
  unfolding peel_turn followed picked
  turned s u h e =
      ⊎_elim
      (λ l.
      let r = following_new s.known l in
      subst (Turned s) (sym (pick_less (one_unknown g s.known) (check_count g) (followed g s) (picked last g prefer s) l))
      (record { symbol = following g s.known; low = r.0; new = r.1; knows = refl; picks = inl refl }))
      (λ l.
      let r = pick_new s.known u h e in
      subst (Turned s) (sym (pick_not_less (one_unknown g s.known) (check_count g) (followed g s) (picked last g prefer s) l))
      (record { symbol = pick_of last g prefer s.known; low = r.0; new = r.1; knows = refl; picks = inr refl }))
      (less_or_not (one_unknown g s.known) (check_count g))

  -- ---- k turns

  abbrev state : ℕ → Peeled
  state = peeled last g prefer

  state_none : state 0 ≡ record { known = λ _. false; picks = [] }
  unfolding peeled iter
  state_none = refl

  state-suc : (k : ℕ) → state (suc k) ≡ peel_turn last g prefer (state k)
  unfolding peeled iter
  state-suc k = refl

  abbrev count : Peeled → ℕ
  count s = length (keep_below s.known g.n)

  turn_count : (s t : Peeled) → Turned s t → count t ≡ suc (count s)
  turn_count s t w =
      let f = changed s.known w.symbol true in
      ap (λ (k : Known). length (keep_below k g.n)) w.knows
      ∙ one_more s.known f w.symbol w.new (changed_at s.known w.symbol true w.symbol refl) (λ j d. changed_other s.known w.symbol true j d) g.n w.low

  -- k turns of k or more symbols: k of them are known
  one_left : (k : ℕ) → k < g.n → count (state k) ≡ k → Turned (state k) (state (suc k))
  one_left k h e =
      let u = tally_left (state k).known g.n (omega arith) in
      subst (Turned (state k)) (sym (state-suc k)) (turned (state k) u.0 u.1 u.2)

  pub known_count : (k : ℕ) → k ≤ g.n → length (keep_below (peeled last g prefer k).known g.n) ≡ k
  known_count zero h = ap count state_none ∙ tally_none (λ _. false) g.n (λ j l. refl)
  known_count (suc k) h =
      let i = known_count k (omega arith) in
      turn_count (state k) (state (suc k)) (one_left k h i) ∙ ap suc i

  pub unknown_left : (k : ℕ) → k < g.n → (u : ℕ) × (u < g.n) × ((peeled last g prefer k).known u ≡ false)
  unknown_left k h = tally_left (state k).known g.n (omega (arith, known_count k (omega arith)))

  -- peeling ends with every symbol known
  pub all_known : (v : ℕ) → v < g.n → (peeled last g prefer g.n).known v ≡ true
  all_known v h = tally_full (state g.n).known g.n v (known_count g.n (omega arith)) h

  -- ---- the picks

  turn_few : (s : Peeled) → length (peel_turn last g prefer s).picks ≤ suc (length s.picks)
  unfolding peel_turn followed picked
  turn_few s =
      let c = one_unknown g s.known in
      let v = pick_of last g prefer s.known in
      ⊎_elim
      (λ l. omega (arith, ap (λ (t : Peeled). length t.picks) (pick_less c (check_count g) (followed g s) (picked last g prefer s) l)))
      (λ l. omega (arith, ap (λ (t : Peeled). length t.picks) (pick_not_less c (check_count g) (followed g s) (picked last g prefer s) l), length-append s.picks (v ∷ [])))
      (less_or_not c (check_count g))

  pub picks_few : (k : ℕ) → length (peeled last g prefer k).picks ≤ k
  picks_few zero = omega (arith, ap (λ (s : Peeled). length s.picks) state_none)
  picks_few (suc k) = omega (arith, ap (λ (s : Peeled). length s.picks) (state-suc k), turn_few (state k), picks_few k)

  -- each pick is a known symbol, and picked once
  record Picked (s : Peeled) : Type 0 where
    low : (x : ℕ) → 0 < times x s.picks → x < g.n
    known : (x : ℕ) → 0 < times x s.picks → s.known x ≡ true
    once : (x : ℕ) → times x s.picks ≤ 1

  turn_picked : (s t : Peeled) → Turned s t → Picked s → Picked t
  turn_picked s t w p =
      ⊎_elim
      (λ e. record {
        low = λ x h. p.low x (omega (arith, ap (times x) e));
        known = λ x h. stays x (p.known x (omega (arith, ap (times x) e)));
        once = λ x. omega (arith, ap (times x) e, p.once x);
      })
      (λ e. record {
        low = λ x h. ⊎_elim (λ q. subst (λ (y : ℕ). y < g.n) (sym q) w.low) (λ d. p.low x (omega (arith, other e x d))) (same_or_not x v);
        known = λ x h. ⊎_elim (λ q. at x q) (λ d. stays x (p.known x (omega (arith, other e x d)))) (same_or_not x v);
        once = λ x. ⊎_elim (λ q. omega (arith, same e x q, fresh x q)) (λ d. omega (arith, other e x d, p.once x)) (same_or_not x v);
      })
      w.picks
    where
      v : ℕ
      v = w.symbol

      at : (x : ℕ) → x ≡ v → t.known x ≡ true
      at x q = ap (λ (k : Known). k x) w.knows ∙ changed_at s.known v true x q

      -- a known symbol stays known
      stays : (x : ℕ) → s.known x ≡ true → t.known x ≡ true
      stays x e = ⊎_elim (λ q. at x q) (λ d. ap (λ (k : Known). k x) w.knows ∙ changed_other s.known v true x d ∙ e) (same_or_not x v)

      all : t.picks ≡ s.picks ++ v ∷ [] → (x : ℕ) → times x t.picks ≡ times x s.picks + times x (v ∷ [])
      all e x = ap (times x) e ∙ times-append x s.picks (v ∷ [])

      same : t.picks ≡ s.picks ++ v ∷ [] → (x : ℕ) → x ≡ v → times x t.picks ≡ times x s.picks + 1
      same e x q = omega (arith, all e x, times_same x v [] q, times_none x)

      other : t.picks ≡ s.picks ++ v ∷ [] → (x : ℕ) → x ≢ v → times x t.picks ≡ times x s.picks
      other e x d = omega (arith, all e x, times_other x v [] d, times_none x)

      -- an unknown symbol is not picked yet
      fresh : (x : ℕ) → x ≡ v → times x s.picks ≡ 0
      fresh x q =
          ⊎_elim
          (λ h. absurd (false≢true (sym w.new ∙ ap s.known (sym q) ∙ p.known x h)))
          (λ (h : times x s.picks ≤ 0). omega arith)
          (less_or_not 0 (times x s.picks))

  state_picked : (k : ℕ) → k ≤ g.n → Picked (state k)
  state_picked zero h =
      subst Picked (sym state_none)
      (record { low = λ x l. absurd (omega (arith, times_none x)); known = λ x l. absurd (omega (arith, times_none x)); once = λ x. omega (arith, times_none x) })
  state_picked (suc k) h = turn_picked (state k) (state (suc k)) (one_left k h (known_count k (omega arith))) (state_picked k (omega arith))

  pub picks_distinct : (x : ℕ) → times x (picks_of last g prefer) ≤ 1
  unfolding picks_of
  picks_distinct = (state_picked g.n (omega arith)).once

  pub picks_inside : (t : ℕ) → t < length (picks_of last g prefer) → nth (picks_of last g prefer) t < g.n
  unfolding picks_of
  picks_inside t l = (state_picked g.n (omega arith)).low (nth (picks_of last g prefer) t) (times_at (picks_of last g prefer) t l)
