-- The state of a peeling as the loop holds it: marks of what is known, each check's count of unknown symbols, and the picks at the front of a part.
-- Assumes nothing.
use Prim.Native.Nat.{ℕ, ◌+◌, ◌-◌, ◌<◌, ◌≤◌}
use mathlib.Core.Path.{◌≡◌, refl, sym, ap, ◌∙◌, fun_ext}
use mathlib.Core.Logic.{⊎_elim}
use mathlib.Core.Bool.{Bool, true, false, not}
use mathlib.Core.List.{List, [], ◌∷◌, ◌++◌}
use native.Mathlib.Omega.{arith}
use borrow.Author.Tests.{lt-ltb, le-ltb, eqb-true}
use lib.Dec.{eqb, ltb}
use lib.IntN.{ℤ, pos}
use lib.ListN.{length, get_or, set, take, replicate, length-append}
use lib.Seq.{get_or-set_same, get_or-set_other, get_or-take, length-take-le}
use Rattle.std.specs.List.{position}
use Rattle.std.specs.Option.{option_and_then}
use Rattle.std.specs.Prelude.{Option, Some, None}
use Rattle.std.proofs.lemmas.Option.{option_and_then_some}
use Rattle.lists.specs.Changed.{changed}
use Rattle.lists.specs.Choice.{pick}
use Rattle.lists.specs.Entry.{nth}
use Rattle.lists.specs.Keep.{keep}
use Rattle.lists.specs.Laid.{laid}
use Rattle.lists.specs.Lowest.{lowest}
use Rattle.lists.specs.Times.{times}
use Rattle.lists.specs.Total.{total}
use Rattle.lists.specs.Values.{values}
use Rattle.lists.proofs.Blank.{blank_at}
use Rattle.lists.proofs.Cases.{same_or_not}
use Rattle.lists.proofs.Changed.{changed_at, changed_other}
use Rattle.lists.proofs.Choice.{pick-true, pick-false}
use Rattle.lists.proofs.Iter.{iter_start, iter_more}
use Rattle.lists.proofs.Lowest.{lowest_is}
use Rattle.lists.proofs.Laid.{laid_start, laid_on, laid_at}
use Rattle.lists.proofs.Values.{values-length, values_at}
use Rattle.elimination.specs.Graph.{Graph, check_count}
use Rattle.elimination.specs.Held.{held}
use Rattle.peeling.specs.declared.edges.Edges.{Edges}
use Rattle.elimination.proofs.Entries.{Inside, held_inside}
use Rattle.elimination.proofs.Held.{held_checks}
use Rattle.peeling.specs.Best.{Key, best}
use Rattle.peeling.specs.EdgeLists.{symbols, edges_in, graph_with, first_new, followed_by}
use Rattle.peeling.specs.Peelable.{Checked}
use Rattle.peeling.specs.Peeling.{Known, Peeled, unknowns, one_unknown, following, pick_of, followed, picked, peel_turn, peeled, picks_of}
use Rattle.peeling.specs.PeeledOrder.{peeled_order}
use Rattle.peeling.proofs.Counts.{count_start, count_less, count_room, count_one, count_pick, held_following}
use Rattle.peeling.proofs.PeeledOrder.{order_length}
use Rattle.peeling.proofs.Turns.{following_new, unknown_left, picks_few, picks_distinct, picks_inside}
use Rattle.peeling.proofs.BestSymbol.{best_new, best_ext}
use Rattle.peeling.proofs.OneUnknown.{one_some, one_none, found_some, found_none}
use Rattle.peeling.proofs.Peelable.{symbols_held}

-- what the marks say
abbrev pub marked : List Bool → Known
marked known v = get_or known v false

-- a mark more
pub mark : (known : List Bool) (v : ℕ) → v < length known → changed (marked known) v true ≡ marked (set known v true)
mark known v h =
    fun_ext (λ w. ⊎_elim (λ e. changed_at (marked known) v true w e ∙ sym (ap (marked (set known v true)) e ∙ get_or-set_same known v true false h))
    (λ n. changed_other (marked known) v true w n ∙ sym (get_or-set_other known v w true false n)) (same_or_not w v))

-- ---- a turn, of a state whose knowledge is given

abbrev state : Known → List ℕ → Peeled
state known picks = record { known = known; picks = picks }

module _ (last : Bool) (g : Graph) (prefer : List ℤ) (s : Peeled) (known : Known) (e : s.known ≡ known) where
  turn_follows : one_unknown g known < check_count g → peel_turn last g prefer s ≡ state (changed known (following g known) true) s.picks
  unfolding peel_turn followed
  turn_follows h =
      pick-true _ (followed g s) (picked last g prefer s) (ap (λ (k : Known). ltb (one_unknown g k) (check_count g)) e ∙ lt-ltb _ _ h)
      ∙ ap (λ (k : Known). state (changed k (following g k) true) s.picks) e

  turn_picks : check_count g ≤ one_unknown g known
      → peel_turn last g prefer s ≡ state (changed known (pick_of last g prefer known) true) (s.picks ++ pick_of last g prefer known ∷ [])
  unfolding peel_turn picked
  turn_picks h =
      pick-false _ (followed g s) (picked last g prefer s) (ap (λ (k : Known). ltb (one_unknown g k) (check_count g)) e ∙ le-ltb _ _ h)
      ∙ ap (λ (k : Known). state (changed k (pick_of last g prefer k) true) (s.picks ++ pick_of last g prefer k ∷ [])) e

-- ---- after t turns, of the graph that stands in parts

module _ (last : Bool) (edges : Edges) (coef : List ℕ) (prefer : List ℤ) where
  abbrev n : ℕ
  n = edges.n

  abbrev m : ℕ
  m = edges.m

  abbrev var : List ℕ
  var = edges.var.now

  abbrev row : List ℕ
  row = edges.row.now

  abbrev w : Checked n m var row
  w = edges.peelable.checks

  abbrev g : Graph
  g = graph_with edges coef

  abbrev after : ℕ → Peeled
  after t = peeled last g prefer t

  pub record Stands (t : ℕ) (known : List Bool) (unknown part picks : List ℕ) (k : ℕ) : Type 0 where
    pub marks : (after t).known ≡ marked known
    pub counts : (c : ℕ) → c < m → nth unknown c ≡ length (unknowns g (marked known) c)
    pub there : picks ≡ laid (after t).picks part
    pub number : k ≡ length (after t).picks

  pub stands_start : (unknown part : List ℕ) → Stands 0 (replicate 256 false) (laid (values m (λ c. nth row (c + 1) - nth row c)) unknown) part part 0
  unfolding peeled
  stands_start unknown part =
      let e : (λ (_ : ℕ). false) ≡ marked (replicate 256 false) = fun_ext (λ v. sym (blank_at 256 v false)) in
      record {
        marks = ap (λ (s : Peeled). s.known) (sym (iter_start (λ _ s. peel_turn last g prefer s) (state (λ _. false) []))) ∙ e;
        counts = λ c h.
            laid_at (values m (λ c. nth row (c + 1) - nth row c)) unknown c 0 (omega (arith, h, values-length (λ c. nth row (c + 1) - nth row c) m))
            ∙ values_at (λ c. nth row (c + 1) - nth row c) m c 0 h ∙ count_start n m var coef row c h ∙ ap (λ (k : Known). length (unknowns g k c)) e;
        there = laid_start part ∙ ap (λ (s : Peeled). laid s.picks part) (iter_start (λ _ s. peel_turn last g prefer s) (state (λ _. false) []));
        number = ap (λ (s : Peeled). length s.picks) (iter_start (λ _ s. peel_turn last g prefer s) (state (λ _. false) []));
      }

  more : (t : ℕ) → after (t + 1) ≡ peel_turn last g prefer (after t)
  unfolding peeled
  more t = iter_more t (λ _ s. peel_turn last g prefer s) (state (λ _. false) [])

  inside : Inside g
  inside = held_inside var coef row n m w.rise w.vars

  -- what the picks and the order they give have room in
  pub picks_room : length (picks_of last g prefer) ≤ n
  unfolding picks_of held
  picks_room = picks_few last g prefer inside n

  pub order_room : length (peeled_order n (picks_of last g prefer)) ≡ n
  unfolding held
  order_room = order_length n (picks_of last g prefer) (picks_inside last g prefer inside) (picks_distinct last g prefer inside)

  module _ {t : ℕ} {known : List Bool} {unknown part picks : List ℕ} {k : ℕ} (here : t < n) (s : Stands t known unknown part picks k) where
    -- a symbol is unknown
    left : (u : ℕ) × (u < n) × (marked known u ≡ false)
    unfolding held
    left = let r = unknown_left last g prefer inside t here in (r.0, r.1, sym (ap (λ (f : Known). f r.0) s.marks) ∙ r.2)

    pub stands_room : k ≤ t
    stands_room = omega (arith, s.number, picks_few last g prefer inside t)

    -- the symbol of the turn
    pub record Next (v : ℕ) : Type 0 where
      pub below : v < n
      pub new : marked known v ≡ false

    -- what the code looks at: the counts of m checks, the marks of n symbols
    module _ (many : length unknown ≡ 256) where
      abbrev counted : List ℕ
      counted = take m unknown

      counted-length : length counted ≡ m
      counted-length = length-take-le m unknown (omega (arith, w.m_small, many))

      right : (c : ℕ) → c < m → nth counted c ≡ length (unknowns g (marked known) c)
      right c h = get_or-take m unknown c 0 h ∙ s.counts c h

      one : lowest (λ i. eqb (nth counted i) 1) (length counted) 0 ≡ one_unknown g (marked known)
      one =
          ap (λ (k : ℕ). lowest (λ i. eqb (nth counted i) 1) k 0) counted-length
          ∙ count_one n m var coef row (marked known) (nth counted) right

      pub record Follows (v : ℕ) : Type 0 where
        pub is : v ≡ following g (marked known)
        pub some : one_unknown g (marked known) < m
        pub next : Next v

      pub stands_follows : (v : ℕ) → Some v ≡ followed_by edges known counted → Follows v
      unfolding held
      stands_follows v e =
          option_and_then_some (λ c. first_new known (symbols edges c)) (position (λ u. eqb u 1) counted) v (sym e)
          (λ c p q.
          let o = one_some counted c (sym p) in
          let h : c < m = omega (arith, o.0, counted-length) in
          let f = found_some (λ x. not (marked known x)) (symbols edges c) v q ∙ held_following n m var coef row (marked known) c h (o.1 ∙ one) in
          let l : one_unknown g (marked known) < m = omega (arith, h, o.1, one) in
          let r = following_new last g prefer inside (marked known) (omega (arith, l, held_checks n m var coef row)) in
          record { is = f; some = l; next = record { below = omega (arith, f, r.0); new = ap (marked known) f ∙ r.1 } })

      none : (o : Option ℕ) → position (λ u. eqb u 1) counted ≡ o → None ≡ option_and_then (λ c. first_new known (symbols edges c)) o → m ≤ one_unknown g (marked known)
      unfolding unknowns held
      none None p e = omega (arith, one_none counted (sym p), counted-length, one)
      none (Some c) p e =
          let o = one_some counted c (sym p) in
          let h : c < m = omega (arith, o.0, counted-length) in
          let l = (lowest_is (λ i. eqb (nth counted i) 1) (length counted) 0).found (omega (arith, o.0, o.1)) in
          let i : nth counted c ≡ 1 = ap (nth counted) o.1 ∙ eqb-true (nth counted (lowest (λ i. eqb (nth counted i) 1) (length counted) 0)) 1 l in
          absurd (omega (
            arith,
            i,
            right c h,
            ap (λ (l : List ℕ). length (keep (λ x. not (marked known x)) l)) (symbols_held n m var coef row c h),
            found_none (λ x. not (marked known x)) (symbols edges c) (sym e),
          ))

      pub stands_none : None ≡ followed_by edges known counted → m ≤ one_unknown g (marked known)
      stands_none e = none (position (λ u. eqb u 1) counted) refl e

      abbrev pub key : ℕ → Key
      key v = (total m (λ c. pick (eqb (nth counted c) 2) (times v (symbols edges c)) 0), get_or prefer v (pos 0))

      pub record Picked (v : ℕ) : Type 0 where
        pub is : v ≡ pick_of last g prefer (marked known)
        pub next : Next v

      pub stands_picks : (v : ℕ) → v ≡ best last n (marked (take n known)) key → Picked v
      stands_picks v e =
          let q = e ∙ best_ext last n (marked (take n known)) (marked known) key key (λ v h. get_or-take n known v false h) (λ v h. refl) left.0 left.1 (get_or-take n known left.0 false left.1 ∙ left.2) in
          let r = best_new last n (marked known) key left.0 left.1 left.2 in record {
            is = q ∙ count_pick n m var coef row (marked known) (nth counted) right last prefer edges.peelable.once left.0 left.1 left.2;
            next = record { below = omega (arith, q, r.0); new = ap (marked known) q ∙ r.1 };
          }

    module _ (v : ℕ) (x : Next v) where
      -- its edges can be taken off the counts
      pub stands_edges : (c : ℕ) → c < m → edges_in edges v c ≤ nth unknown c
      stands_edges c h =
          omega (arith, edges.peelable.lists v c x.below h, count_room n m var coef row (marked known) (nth unknown) s.counts v c h x.new)

      module _ (long : length known ≡ 256) (less : List ℕ) (taken : (c : ℕ) → c < m → nth less c ≡ nth unknown c - edges_in edges v c) where
        fits : v < length known
        fits = omega (arith, x.below, w.n_small)

        fewer : (c : ℕ) → c < m → nth less c ≡ length (unknowns g (marked (set known v true)) c)
        fewer c h =
            taken c h ∙ ap (λ (i : ℕ). nth unknown c - i) (edges.peelable.lists v c x.below h) ∙ count_less n m var coef row (marked known) (nth unknown) s.counts v c h x.new
            ∙ ap (λ (f : Known). length (unknowns g f c)) (mark known v fits)

        pub stands_followed : one_unknown g (marked known) < m → v ≡ following g (marked known) → Stands (t + 1) (set known v true) less part picks k
        stands_followed h e =
            let q = more t ∙ turn_follows last g prefer (after t) (marked known) s.marks (omega (arith, h, held_checks n m var coef row)) in
            record {
              marks = ap (λ (s : Peeled). s.known) q ∙ ap (λ (i : ℕ). changed (marked known) i true) (sym e) ∙ mark known v fits;
              counts = fewer;
              there = s.there ∙ ap (λ (s : Peeled). laid s.picks part) (sym q);
              number = s.number ∙ ap (λ (s : Peeled). length s.picks) (sym q);
            }

        pub stands_picked : m ≤ one_unknown g (marked known) → v ≡ pick_of last g prefer (marked known) → n ≤ length part
            → Stands (t + 1) (set known v true) less part (set picks k v) (k + 1)
        stands_picked h e room =
            let q = more t ∙ turn_picks last g prefer (after t) (marked known) s.marks (omega (arith, h, held_checks n m var coef row))
            ∙ ap (λ (i : ℕ). state (changed (marked known) i true) ((after t).picks ++ i ∷ [])) (sym e) in
            record {
              marks = ap (λ (s : Peeled). s.known) q ∙ mark known v fits;
              counts = fewer;
              there = laid_on (after t).picks part picks k v s.number (omega (arith, stands_room, here, room)) s.there ∙ ap (λ (s : Peeled). laid s.picks part) (sym q);
              number = ap (λ (i : ℕ). i + 1) s.number ∙ sym (length-append (after t).picks (v ∷ [])) ∙ ap (λ (s : Peeled). length s.picks) (sym q);
            }

  -- when every symbol is known
  pub stands_end : {t : ℕ} {known : List Bool} {unknown part picks : List ℕ} {k : ℕ} → t ≡ n → Stands t known unknown part picks k
      → (k ≡ length (picks_of last g prefer)) × (picks ≡ laid (picks_of last g prefer) part)
  unfolding picks_of held
  stands_end {part = part} e s = (s.number ∙ ap (λ (i : ℕ). length (after i).picks) e, s.there ∙ ap (λ (i : ℕ). laid (after i).picks part) e)
