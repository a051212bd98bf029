-- The information positions of the peeled code are among the picks: its unit word of any other position would be 0 at every pick, and peeling knows by the picks
-- every symbol of a word.
-- Assumes nothing.
use Prim.Native.Nat.{ℕ, suc, ◌+◌, ◌-◌, ◌<◌, ◌≤◌}
use mathlib.Core.Path.{◌≡◌, refl, ap, sym, subst, ◌∙◌}
use mathlib.Core.Bool.{Bool, true, false, not, false≢true}
use mathlib.Core.List.{List, [], ◌∷◌, map, foldl, reverse}
use mathlib.Core.Logic.{◌≢◌, ⊎_elim}
use native.Mathlib.Omega.{arith}
use borrow.Author.Tests.{eqb-true, not-true}
use lib.Bits.{bit_xor, xor_zero_r}
use lib.Dec.{eqb}
use lib.IntN.{ℤ}
use lib.ListN.{length, get_or, get_or-append}
use Rattle.lists.specs.Among.{among}
use Rattle.lists.specs.Changed.{changed}
use Rattle.lists.specs.EachOnce.{EachOnce}
use Rattle.lists.specs.Entry.{nth}
use Rattle.lists.specs.Keep.{keep, keep_below}
use Rattle.lists.specs.Times.{times}
use Rattle.lists.specs.Chain.{start_of}
use Rattle.lists.proofs.Among.{among_or_not, among-false, false-among}
use Rattle.lists.proofs.Cases.{same_or_not, less_or_not, true_or_false}
use Rattle.lists.proofs.Changed.{changed_other}
use Rattle.lists.proofs.Choice.{pick_less, pick_not_less}
use Rattle.lists.proofs.EachOnce.{each_once_has}
use Rattle.lists.proofs.Iter.{iter_keeps}
use Rattle.lists.proofs.Keep.{keep_yes, keep_no, keep_below_has, keep_below_passes}
use Rattle.lists.proofs.Lowest.{lowest_is}
use Rattle.lists.proofs.Times.{times-append, times_same, times_has}
use Rattle.calls.specs.Parts.{padded}
use Rattle.field.specs.Field.{product}
use Rattle.field.proofs.Product.{product-zero, no_zero_divisors}
use Rattle.elimination.specs.Graph.{Edge, Graph, check_count, check}
use Rattle.elimination.specs.Elimination.{State, reduced, infos}
use Rattle.elimination.specs.Held.{held}
use Rattle.elimination.proofs.Entries.{Small, Inside}
use Rattle.elimination.proofs.Infos.{info_inside}
use Rattle.elimination.proofs.Reduced.{reduced_order}
use Rattle.graph.specs.declared.Code.{Code}
use Rattle.graph.specs.Parts.{Parts}
use Rattle.graph.proofs.Proper.{Proper, order_padded}
use Rattle.graph.proofs.RowStarts.{edge_inside, coefficient_at}
use Rattle.lent.specs.LentCode.{NotRefused}
use Rattle.lent.specs.Misencoded.{graph_in}
use Rattle.lent.specs.Sound.{IsSound}
use Rattle.lent.proofs.Encoded.{formed_small, formed_inside}
use Rattle.lent.proofs.SoundCode.{sound, sound_infos}
use Rattle.lent.proofs.SoundProper.{sound_proper}
use Rattle.words.specs.Encoding.{information_of}
use Rattle.words.specs.Word.{sum_turn, check_sum, Word}
use Rattle.words.proofs.UnitWords.{unit_word, unit_own, unit_after, Word-unit_word}
use Rattle.peeling.specs.Peeling.{Known, symbols_of, unknowns, one_unknown, following, pick_of, Peeled, followed, picked, peel_turn, peeled, picks_of}
use Rattle.peeling.specs.PeeledOrder.{peeled_order}
use Rattle.peeling.specs.WithPeeledInfo.{order_of, code_in, parts_in}
use Rattle.peeling.proofs.PeeledCode.{peeled_long, peeled_once, peeled_not_refused}
use Rattle.peeling.proofs.PeeledOrder.{order_once}
use Rattle.peeling.proofs.Turns.{following_new, all_known, picks_inside, picks_distinct}

-- each coefficient is 1 to 31
abbrev pub Good : List Edge → Type 0
Good es = (t : ℕ) → t < length es → (0 < (get_or es t (0, 0)).1) × ((get_or es t (0, 0)).1 < 32)

-- ---- a check's sum, where a word is 0 at every known symbol

module _ (x : List ℕ) (known : Known) (zeros : (v : ℕ) → known v ≡ true → nth x v ≡ 0) where
  abbrev left : List Edge → List ℕ
  left es = keep (λ v. not (known v)) (map (λ (e : Edge). e.0) es)

  -- an edge of a known symbol adds nothing
  turn_known : (s : ℕ) (e : Edge) → known e.0 ≡ true → sum_turn x s e ≡ s
  turn_known s e k = ap (λ (y : ℕ). bit_xor s (product e.1 y)) (zeros e.0 k) ∙ ap (bit_xor s) (product-zero e.1) ∙ xor_zero_r s

  left_none : left [] ≡ []
  unfolding keep
  left_none = refl

  left_known : (e : Edge) (es : List Edge) → known e.0 ≡ true → left (e ∷ es) ≡ left es
  left_known e es k = keep_no (λ v. not (known v)) e.0 (map (λ (e : Edge). e.0) es) (ap not k)

  left_new : (e : Edge) (es : List Edge) → known e.0 ≡ false → left (e ∷ es) ≡ e.0 ∷ left es
  left_new e es k = keep_yes (λ v. not (known v)) e.0 (map (λ (e : Edge). e.0) es) (ap not k)

  sum_none : (es : List Edge) (s : ℕ) → length (left es) ≡ 0 → foldl (sum_turn x) s es ≡ s
  sum_none [] s h = refl
  sum_none (e ∷ es) s h =
      ⊎_elim
      (λ k. ap (λ (y : ℕ). foldl (sum_turn x) y es) (turn_known s e k) ∙ sum_none es s (ap length (sym (left_known e es k)) ∙ h))
      (λ k. absurd (omega (arith, h, ap length (left_new e es k))))
      (true_or_false (known e.0))

  sum_one : (es : List Edge) (s : ℕ) → Good es → length (left es) ≡ 1
      → (a : ℕ) × (0 < a) × (a < 32) × (foldl (sum_turn x) s es ≡ bit_xor s (product a (nth x (nth (left es) 0))))
  sum_one [] s good h = absurd (omega (arith, h, ap length left_none))
  sum_one (e ∷ es) s good h =
      ⊎_elim
      (λ k.
      let i = sum_one es s (λ t l. good (suc t) (omega arith)) (ap length (sym (left_known e es k)) ∙ h) in (
        i.0,
        i.1,
        i.2,
        ap (λ (y : ℕ). foldl (sum_turn x) y es) (turn_known s e k) ∙ i.3 ∙ ap (λ (l : List ℕ). bit_xor s (product i.0 (nth x (nth l 0)))) (sym (left_known e es k)),
      ))
      (λ k.
      let none : length (left es) ≡ 0 = omega (arith, h, ap length (left_new e es k)) in (
        e.1,
        (good 0 (omega arith)).0,
        (good 0 (omega arith)).1,
        sum_none es (sum_turn x s e) none ∙ ap (λ (l : List ℕ). bit_xor s (product e.1 (nth x (nth l 0)))) (sym (left_new e es k)),
      ))
      (true_or_false (known e.0))

-- ---- along the peeling

module _ (last : Bool) (g : Graph) (prefer : List ℤ) (inside : Inside g) (good : (c : ℕ) → c < check_count g → Good (check g c)) (x : List ℕ) (w : Word g x) where
  following-zero : (known : Known) → ((v : ℕ) → known v ≡ true → nth x v ≡ 0) → one_unknown g known < check_count g → nth x (following g known) ≡ 0
  unfolding one_unknown following unknowns symbols_of check_sum
  following-zero known zeros h =
      let c = one_unknown g known in
      let one = eqb-true (length (unknowns g known c)) 1 ((lowest_is (λ c. eqb (length (unknowns g known c)) 1) (check_count g) 0).found (omega arith)) in
      let r = sum_one x known zeros (check g c) 0 (good c h) one in
      ⊎_elim
      (λ (q : r.0 ≡ 0). absurd (omega (arith, q, r.1)))
      (λ (q : nth x (following g known) ≡ 0). q)
      (no_zero_divisors r.0 (nth x (following g known)) r.2 (w.symbols.small (following g known) (following_new last g prefer inside known h).0) (sym r.3 ∙ w.satisfied c h))

  -- a word that is 0 at every pick is 0 at every known symbol
  abbrev Follows : Peeled → Type 0
  Follows s = ((u : ℕ) → 0 < times u s.picks → nth x u ≡ 0) → (v : ℕ) → s.known v ≡ true → nth x v ≡ 0

  -- one symbol more
  more : (known : Known) (v : ℕ) → nth x v ≡ 0 → ((u : ℕ) → known u ≡ true → nth x u ≡ 0) → (u : ℕ) → changed known v true u ≡ true → nth x u ≡ 0
  more known v z zeros u k = ⊎_elim (λ q. ap (nth x) q ∙ z) (λ q. zeros u (sym (changed_other known v true u q) ∙ k)) (same_or_not u v)

  followed_follows : (s : Peeled) → Follows s → one_unknown g s.known < check_count g → Follows (followed g s)
  unfolding followed
  followed_follows s f h picks = more s.known (following g s.known) (following-zero s.known (f picks) h) (f picks)

  picked_follows : (s : Peeled) → Follows s → Follows (picked last g prefer s)
  unfolding picked
  picked_follows s f picks =
      let v = pick_of last g prefer s.known in
      more s.known v
      (picks v (omega (arith, times-append v s.picks (v ∷ []), times_same v v [] refl)))
      (f (λ u l. picks u (omega (arith, times-append u s.picks (v ∷ []), l))))

  turn_follows : (s : Peeled) → Follows s → Follows (peel_turn last g prefer s)
  unfolding peel_turn
  turn_follows s f =
      ⊎_elim
      (λ l. subst Follows (sym (pick_less (one_unknown g s.known) (check_count g) (followed g s) (picked last g prefer s) l)) (followed_follows s f l))
      (λ l. subst Follows (sym (pick_not_less (one_unknown g s.known) (check_count g) (followed g s) (picked last g prefer s) l)) (picked_follows s f))
      (less_or_not (one_unknown g s.known) (check_count g))

  peeled_follows : (k : ℕ) → Follows (peeled last g prefer k)
  unfolding peeled
  peeled_follows k =
      iter_keeps (λ _. Follows) k (λ _ s. peel_turn last g prefer s) (record { known = λ _. false; picks = [] }) (λ _ v e. absurd (false≢true e)) (λ _ _ s. turn_follows s)

  -- so a word is 0 where it is 0 at every pick
  pub picks_determine : ((u : ℕ) → u < length (picks_of last g prefer) → nth x (nth (picks_of last g prefer) u) ≡ 0) → (v : ℕ) → v < g.n → nth x v ≡ 0
  unfolding picks_of
  picks_determine z v h =
      peeled_follows g.n
      (λ u l. let t = times_has u (picks_of last g prefer) l in ap (nth x) (sym t.2) ∙ z t.0 t.1)
      v (all_known last g prefer inside v h)

-- ---- the information positions in the order that peeling gives

module _ (last : Bool) (g : Graph) (prefer : List ℤ) (small : Small g) (inside : Inside g) (good : (c : ℕ) → c < check_count g → Good (check g c)) where
  abbrev picks : List ℕ
  picks = picks_of last g prefer

  abbrev order : List ℕ
  order = peeled_order g.n picks

  abbrev other : ℕ → Bool
  other v = not (among (length picks) (nth picks) v)

  abbrev others : List ℕ
  others = keep_below other g.n

  each : EachOnce g.n (nth order)
  each = order_once g.n picks (picks_inside last g prefer inside) (picks_distinct last g prefer inside)

  -- the non-picks come first
  front : (a : ℕ) → a < length others → nth order a ≡ nth others a
  unfolding peeled_order
  front a h = get_or-append others (reverse picks) 0 a h

  pick_later : (u b : ℕ) → u < length picks → nth order b ≡ nth picks u → length others ≤ b
  pick_later u b h q =
      ⊎_elim
      (λ (l : b < length others).
      absurd
      (among-false (length picks) (nth picks) (nth others b)
      (not-true (among (length picks) (nth picks) (nth others b)) (keep_below_passes other g.n b l).1) u h (sym q ∙ front b l)))
      (λ (l : length others ≤ b). l)
      (less_or_not b (length others))

  info_low : (t : ℕ) → t < length (information_of g order) → nth (information_of g order) t < g.n
  unfolding information_of
  info_low t h = info_inside g.n (reduced g order) t h

  pub info_among : (t : ℕ) → t < length (information_of g (peeled_order g.n (picks_of last g prefer)))
      → (u : ℕ) × (u < length (picks_of last g prefer)) × (nth (picks_of last g prefer) u ≡ nth (information_of g (peeled_order g.n (picks_of last g prefer))) t)
  info_among t h =
      ⊎_elim
      (λ (y : (u : ℕ) × (u < length picks) × (nth picks u ≡ nth (information_of g order) t)). y)
      (λ (none : (u : ℕ) → u < length picks → nth picks u ≢ nth (information_of g order) t).
      let j = nth (information_of g order) t in
      let a = keep_below_has other g.n j (info_low t h) (ap not (false-among (length picks) (nth picks) j none)) in
      let zero = picks_determine last g prefer inside good (unit_word g order t) (Word-unit_word g order small each inside t)
      (λ u l.
      let b = each_once_has g.n (nth order) each (nth picks u) (picks_inside last g prefer inside u l) in
      ap (nth (unit_word g order t)) (sym b.2)
      ∙ unit_after g order small each t a.0 b.0 h (front a.0 a.1 ∙ a.2) (omega (arith, a.1, pick_later u b.0 l b.2)) b.1)
      j (info_low t h) in
      absurd (omega (arith, zero, unit_own g order t h)))
      (among_or_not (length picks) (nth picks) (nth (information_of g order) t))

-- ---- of a code that is not refused

proper_good : (g : Graph) → Proper g → (c : ℕ) → c < check_count g → Good (check g c)
proper_good g ok c h t l =
    subst (λ (y : ℕ). (0 < y) × (y < 32)) (coefficient_at g c t h l) (ok.coefficient (start_of (check g) c + t) (edge_inside g c t h l))

module _ (last : Bool) (c : Code) (p : Parts) (prefer : List ℤ) (r : NotRefused c p) where
  -- the peeled code
  abbrev d : Code
  d = code_in c p (order_of last c p prefer)

  abbrev q : Parts
  q = parts_in c p (order_of last c p prefer)

  w : IsSound c p
  w = sound c p r

  code_info : (t : ℕ) → t < length (information_of (graph_in c p) (order_of last c p prefer))
      → (u : ℕ) × (u < length (picks_of last (graph_in c p) prefer)) × (nth (picks_of last (graph_in c p) prefer) u ≡ nth (information_of (graph_in c p) (order_of last c p prefer)) t)
  unfolding order_of held
  code_info = info_among last (graph_in c p) prefer (formed_small c p w.formed) (formed_inside c p w.formed) (proper_good (graph_in c p) (sound_proper c p w))

  -- the order in its part gives the same elimination
  same_information : information_of (graph_in d q) q.order ≡ information_of (graph_in c p) (order_of last c p prefer)
  unfolding code_in parts_in held information_of
  same_information =
      ap (λ (s : State). infos c.n s)
      (reduced_order (graph_in c p) (padded 256 0 (order_of last c p prefer)) (order_of last c p prefer)
      (order_padded (graph_in c p) (sound_proper c p w) (order_of last c p prefer) (peeled_long last c p prefer w) (peeled_once last c p prefer w)).front)

  -- every information position of the peeled code is a pick
  pub information_picked : (t : ℕ) → t < length (information_of (graph_in d q) q.order)
      → (u : ℕ) × (u < length (picks_of last (graph_in c p) prefer)) × (nth (picks_of last (graph_in c p) prefer) u ≡ nth (information_of (graph_in d q) q.order) t)
  information_picked =
      subst
      (λ (l : List ℕ). (t : ℕ) → t < length l → (u : ℕ) × (u < length (picks_of last (graph_in c p) prefer)) × (nth (picks_of last (graph_in c p) prefer) u ≡ nth l t))
      (sym same_information) code_info

  -- as they stand in its part
  pub info_picked : (t : ℕ) → t < d.n - d.rank
      → (u : ℕ) × (u < length (picks_of last (graph_in c p) prefer)) × (nth (picks_of last (graph_in c p) prefer) u ≡ nth q.info t)
  unfolding information_of
  info_picked t h =
      let v = sound d q (peeled_not_refused last c p prefer r) in
      let l : t < length (infos d.n (reduced (graph_in d q) q.order)) = omega (arith, sound_infos d q v, h) in
      let y = info_part t l in
      (y.0, y.1, y.2 ∙ sym (v.encoded.info t l))
    where
      info_part : (t : ℕ) → t < length (infos d.n (reduced (graph_in d q) q.order))
          → (u : ℕ) × (u < length (picks_of last (graph_in c p) prefer)) × (nth (picks_of last (graph_in c p) prefer) u ≡ nth (infos d.n (reduced (graph_in d q) q.order)) t)
      info_part = unfold held in information_picked
