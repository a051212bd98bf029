-- Growth on lists of lists, with the digits of one number as marks: what antt computes quickly. It is the growth of the definition wherever each edge's numbers are inside the lists.
-- Assumes nothing.
use Prim.Native.Nat.{ℕ, zero, suc, ◌+◌, ◌/◌, ◌%◌, ◌^◌, ◌<◌, ◌≤◌, max}
use mathlib.Core.Path.{◌≡◌, refl, sym, ap, ap₂, fun_ext, ◌∙◌}
use mathlib.Core.Bool.{Bool, true, false, not, ◌&&◌}
use mathlib.Core.Logic.{⊎_elim, ◌≢◌}
use mathlib.Core.List.{List, [], ◌∷◌, ◌++◌, foldl}
use native.Mathlib.Nat.{add-zero, zero-add, add-suc, suc-add}
use native.Mathlib.Omega.{arith}
use borrow.Author.Tests.{eq-eqb, ne_eqb, ltb-true}
use lib.Dec.{eqb, ltb}
use lib.ListN.{length, get_or, set, replicate, get_or-eq_default, get_or-replicate}
use lib.Seq.{get_or-set_same, get_or-set_other, ext_get_or}
use Rattle.std.specs.Int.Bits.{bit_or}
use Rattle.std.specs.Int.{bit_at}
use Rattle.std.proofs.lemmas.List.{length-set}
use Rattle.std.proofs.lemmas.Nat.Bits.{bit_at_or, bit_at-pow_same, bit_at-pow_other, bit_at-lt}
use Rattle.field.specs.SplitMix64.{draw, next}
use Rattle.lists.specs.Choice.{pick}
use Rattle.lists.specs.Iter.{iter}
use Rattle.lists.specs.Entry.{nth}
use Rattle.lists.specs.Keep.{keep, keep_below}
use Rattle.lists.specs.Values.{values}
use Rattle.lists.proofs.Cases.{same_or_not, less_or_not, both}
use Rattle.lists.proofs.Choice.{pick-not, pick_less, pick_not_less}
use Rattle.lists.proofs.Iter.{iter_ext}
use Rattle.lists.proofs.Keep.{keep_below_ext}
use Rattle.lists.proofs.Values.{values_at, values-length}
use Rattle.growth.specs.Adjacency.{Adjacency, load, pushed, joined, empty}
use Rattle.growth.specs.Growth.{Growth, chosen, edge_turn, served, degree_turn, of_degree, grown}
use Rattle.growth.specs.PickMin.{least, lightest, pick_min}
use Rattle.growth.specs.Search.{Found, meet, visited, layer, unmarked, clear, Reach, begin, new_c, new_v, rest, onward, none, searched}
use Rattle.growth.proofs.Joined.{pushed_here, pushed_else}

-- ---- marks: x below 256 is marked where digit x is 1

abbrev marked : ℕ → ℕ → Bool
marked mask x = eqb (bit_at mask x) 1

abbrev held : ℕ → ℕ → Bool
held mask x = pick (ltb x 256) (marked mask x) false

abbrev mark : ℕ → ℕ → ℕ
mark mask x = bit_or mask (2 ^ x)

abbrev marks : ℕ → List Bool
marks mask = values 256 (marked mask)

-- ---- a layer

abbrev Met : Type 0
Met = ℕ × List ℕ

unfoldable pub meet_x : Met → ℕ → Met
meet_x s x = pick (held s.0 x) s (mark s.0 x, s.1 ++ x ∷ [])

unfoldable pub visited_x : (ℕ → List ℕ) → Met → ℕ → Met
visited_x lists s u = foldl meet_x s (lists u)

unfoldable pub layer_x : (ℕ → List ℕ) → List ℕ → ℕ → Met
layer_x lists front mask = foldl (visited_x lists) (mask, []) front

-- the k numbers from c on
unfoldable pub unmarked_from : ℕ → ℕ → ℕ → List ℕ
unmarked_from mask c zero = []
unmarked_from mask c (suc k) = pick (held mask c) (unmarked_from mask (suc c) k) (c ∷ unmarked_from mask (suc c) k)

abbrev unmarked_x : ℕ → ℕ → List ℕ
unmarked_x mask m = unmarked_from mask 0 m

unfoldable pub none_x : List ℕ → Bool
none_x [] = true
none_x (x ∷ l) = false

-- ---- the search

pub record Seen : Type 0 where
  pub front : List ℕ
  pub seen_v : ℕ
  pub seen_c : ℕ

abbrev begin_x : ℕ → Seen
begin_x v = record { front = v ∷ []; seen_v = mark 0 v; seen_c = 0 }

abbrev new_cx : Adjacency → Seen → Met
new_cx g s = layer_x g.var s.front s.seen_c

abbrev rest_x : ℕ → Adjacency → Seen → List ℕ
rest_x m g s = unmarked_x (new_cx g s).0 m

abbrev new_vx : Adjacency → Seen → Met
new_vx g s = layer_x g.chk (new_cx g s).1 s.seen_v

abbrev onward_x : Adjacency → Seen → Seen
onward_x g s = record { front = (new_vx g s).1; seen_v = (new_vx g s).0; seen_c = (new_cx g s).0 }

-- each of these takes what antt has computed as a parameter, so that it is computed once
unfoldable pub lightest_x : (ℕ → ℕ) → List ℕ → ℕ → List ℕ
lightest_x load cand lo = keep (λ c. eqb (load c) lo) cand

unfoldable pub drawn_x : ℕ → List ℕ → ℕ
drawn_x draw l = nth l (draw % length l)

unfoldable pub pick_min_x : (ℕ → ℕ) → List ℕ → ℕ → ℕ
pick_min_x load cand draw = drawn_x draw (lightest_x load cand (least load cand))

unfoldable pub after_v : (Seen → ℕ) → Adjacency → ℕ → Met → List ℕ → Met → ℕ
after_v go g draw c r v = pick (none_x v.1) (pick_min_x (load g) r draw) (go (record { front = v.1; seen_v = v.0; seen_c = c.0 }))

unfoldable pub after_r : (Seen → ℕ) → Adjacency → ℕ → Seen → Met → List ℕ → ℕ
after_r go g draw s c r =
    pick (none_x c.1) (pick_min_x (load g) r draw)
    (pick (none_x r) (pick_min_x (load g) c.1 draw)
    (after_v go g draw c r (layer_x g.chk c.1 s.seen_v)))

unfoldable pub after_c : (Seen → ℕ) → ℕ → Adjacency → ℕ → Seen → Met → ℕ
after_c go m g draw s c = after_r go g draw s c (unmarked_x c.0 m)

unfoldable pub searched_x : ℕ → ℕ → Adjacency → ℕ → Seen → ℕ
searched_x zero m g draw s = 0
searched_x (suc fuel) m g draw s = after_c (searched_x fuel m g draw) m g draw s (layer_x g.var s.front s.seen_c)

unfoldable pub chosen_x : ℕ → Adjacency → ℕ → ℕ → ℕ → ℕ
chosen_x m g v k drawn = pick (eqb k 0) (pick_min_x (load g) (unmarked_x 0 m) drawn) (searched_x 257 m g drawn (begin_x v))

-- ---- 256 lists, by sixteens

abbrev Lists : Type 0
Lists = List (List (List ℕ))

abbrev at : Lists → ℕ → List ℕ
at l k = get_or (get_or l (k / 16) []) (k % 16) []

abbrev put : Lists → ℕ → List ℕ → Lists
put l k y = set l (k / 16) (set (get_or l (k / 16) []) (k % 16) y)

abbrev room : Lists → ℕ → Bool
room l k = ltb (k / 16) (length l) && ltb (k % 16) (length (get_or l (k / 16) []))

abbrev no_lists : Lists
no_lists = replicate 16 (replicate 16 [])

-- ---- the graph, each check's variables and each variable's checks, the generator's state, and whether each edge was inside

pub record Listed : Type 0 where
  pub chk : Lists
  pub var : Lists
  pub state : ℕ
  pub ok : Bool

abbrev pub graph_of : Listed → Adjacency
graph_of s = record { chk = at s.chk; var = at s.var }

abbrev pub growth_of : Listed → Growth
growth_of s = (graph_of s, s.state)

abbrev join_x : Listed → ℕ → ℕ → Listed
join_x s c v = record {
  chk = put s.chk c (at s.chk c ++ v ∷ []);
  var = put s.var v (at s.var v ++ c ∷ []);
  state = next s.state;
  ok = s.ok && (room s.chk c && room s.var v);
}

unfoldable pub edge_x : ℕ → ℕ → ℕ → Listed → Listed
edge_x m v k s = join_x s (chosen_x m (graph_of s) v k (draw s.state)) v

unfoldable pub served_x : ℕ → ℕ → ℕ → Listed → Listed
served_x m v d s = iter d (edge_x m v) s

unfoldable pub degree_x : ℕ → (ℕ → ℕ) → ℕ → ℕ → Listed → Listed
degree_x m degs d v s = pick (eqb (degs v) d) (served_x m v d s) s

unfoldable pub of_degree_x : ℕ → ℕ → (ℕ → ℕ) → ℕ → Listed → Listed
of_degree_x m n degs d s = iter n (degree_x m degs d) s

unfoldable pub grown_x : ℕ → ℕ → (ℕ → ℕ) → Listed → Listed
grown_x m n degs s = iter (m + 1) (of_degree_x m n degs) s

abbrev pub start_x : ℕ → Listed
start_x seed = record { chk = no_lists; var = no_lists; state = seed; ok = true }

-- every edge was inside, and no check has more than 32
unfoldable pub short : List (List ℕ) → Bool
short [] = true
short (l ∷ ls) = ltb (length l) 33 && short ls

unfoldable pub all_short : Lists → Bool
all_short [] = true
all_short (b ∷ bs) = short b && all_short bs

-- ---- the marks are those of the definition

bit_one : (a : ℕ) → a < 2 → max a 1 ≡ 1
bit_one a h = omega arith

held_is : (mask x : ℕ) → get_or (marks mask) x false ≡ held mask x
held_is mask x =
    ⊎_elim
    (λ h. values_at (marked mask) 256 x false h ∙ sym (pick_less x 256 (marked mask x) false h))
    (λ h. get_or-eq_default (marks mask) false {n = x} (omega (arith, values-length (marked mask) 256)) ∙ sym (pick_not_less x 256 (marked mask x) false h))
    (less_or_not x 256)

marked_here : (mask x : ℕ) → marked (mark mask x) x ≡ true
marked_here mask x = eq-eqb _ 1 (bit_at_or mask (2 ^ x) x ∙ ap (max (bit_at mask x)) (bit_at-pow_same x) ∙ bit_one (bit_at mask x) (bit_at-lt mask x))

marked_else : (mask x k : ℕ) → k ≢ x → marked (mark mask x) k ≡ marked mask k
marked_else mask x k n = ap (λ (b : ℕ). eqb b 1) (bit_at_or mask (2 ^ x) k ∙ ap (max (bit_at mask k)) (bit_at-pow_other x k n) ∙ (omega arith))

mark_is : (mask x : ℕ) → set (marks mask) x true ≡ marks (mark mask x)
mark_is mask x =
    let long : length (marks mask) ≡ 256 = values-length (marked mask) 256 in
    ext_get_or false (set (marks mask) x true) (marks (mark mask x)) (length-set (marks mask) x true ∙ long ∙ sym (values-length (marked (mark mask x)) 256))
    (λ k h.
    let below : k < 256 = omega (arith, length-set (marks mask) x true, long) in
    ⊎_elim
    (λ (e : k ≡ x). ap (λ (j : ℕ). get_or (set (marks mask) x true) j false) e ∙ get_or-set_same (marks mask) x true false (omega (arith, long)) ∙ sym (marked_here mask x)
    ∙ ap (marked (mark mask x)) (sym e) ∙ sym (values_at (marked (mark mask x)) 256 k false below))
    (λ n. get_or-set_other (marks mask) x k true false n ∙ values_at (marked mask) 256 k false below ∙ sym (marked_else mask x k n) ∙ sym (values_at (marked (mark mask x)) 256 k false below))
    (same_or_not k x))

-- ---- a layer is that of the definition

abbrev found : Met → Found
found s = (marks s.0, s.1)

found_pick : (b : Bool) (s t : Met) → pick b (found s) (found t) ≡ found (pick b s t)
unfolding pick
found_pick true s t = refl
found_pick false s t = refl

meet_is : (s : Met) (x : ℕ) → meet (found s) x ≡ found (meet_x s x)
unfolding meet meet_x
meet_is s x =
    ap₂ (λ (b : Bool) (t : List Bool). pick b (found s) (t, s.1 ++ x ∷ [])) (held_is s.0 x) (mark_is s.0 x)
    ∙ found_pick (held s.0 x) s (mark s.0 x, s.1 ++ x ∷ [])

fold_is : {A : Type 0} (f : Found → A → Found) (g : Met → A → Met) → ((s : Met) (x : A) → f (found s) x ≡ found (g s x)) → (l : List A) (s : Met) → foldl f (found s) l ≡ found (foldl g s l)
fold_is f g e [] s = refl
fold_is f g e (x ∷ l) s = ap (λ (t : Found). foldl f t l) (e s x) ∙ fold_is f g e l (g s x)

visited_is : (lists : ℕ → List ℕ) (s : Met) (u : ℕ) → visited lists (found s) u ≡ found (visited_x lists s u)
unfolding visited visited_x
visited_is lists s u = fold_is meet meet_x meet_is (lists u) s

layer_is : (lists : ℕ → List ℕ) (front : List ℕ) (mask : ℕ) → layer lists front (marks mask) ≡ found (layer_x lists front mask)
unfolding layer layer_x
layer_is lists front mask = fold_is (visited lists) (visited_x lists) (visited_is lists) front (mask, [])

either_way : (b : Bool) (x : ℕ) (l r : List ℕ) → pick b (l ++ r) (x ∷ l ++ r) ≡ pick b l (x ∷ l) ++ r
unfolding pick
either_way true x l r = refl
either_way false x l r = refl

from_more : (mask c k : ℕ) → unmarked_from mask c (suc k) ≡ unmarked_from mask c k ++ pick (not (held mask (c + k))) ((c + k) ∷ []) []
unfolding unmarked_from
from_more mask c zero = pick-not (held mask c) [] (c ∷ []) ∙ ap (λ (j : ℕ). pick (not (held mask j)) (j ∷ []) []) (sym (add-zero c))
from_more mask c (suc k) =
    let e = from_more mask (suc c) k ∙ ap (λ (j : ℕ). unmarked_from mask (suc c) k ++ pick (not (held mask j)) (j ∷ []) []) (suc-add c k ∙ sym (add-suc c k)) in
    ap (λ (l : List ℕ). pick (held mask c) l (c ∷ l)) e
    ∙ either_way (held mask c) c (unmarked_from mask (suc c) k) (pick (not (held mask (c + suc k))) ((c + suc k) ∷ []) [])

from_below : (mask m : ℕ) → keep_below (λ c. not (held mask c)) m ≡ unmarked_from mask 0 m
unfolding keep_below unmarked_from
from_below mask zero = refl
from_below mask (suc m) =
    ap (λ (l : List ℕ). l ++ pick (not (held mask m)) (m ∷ []) []) (from_below mask m)
    ∙ ap (λ (j : ℕ). unmarked_from mask 0 m ++ pick (not (held mask j)) (j ∷ []) []) (sym (zero-add m))
    ∙ sym (from_more mask 0 m)

unmarked_is : (mask m : ℕ) → unmarked (marks mask) m ≡ unmarked_x mask m
unfolding unmarked
unmarked_is mask m = keep_below_ext (λ c. not (get_or (marks mask) c false)) (λ c. not (held mask c)) m (λ c h. ap not (held_is mask c)) ∙ from_below mask m

none_is : (l : List ℕ) → none l ≡ none_x l
unfolding none_x
none_is [] = refl
none_is (x ∷ l) = ne_eqb (suc (length l)) 0 (λ z. omega arith)

-- ---- the search is that of the definition

abbrev reach : Seen → Reach
reach s = record { front = s.front; seen_v = marks s.seen_v; seen_c = marks s.seen_c }

module _ (m : ℕ) (g : Adjacency) (draw : ℕ) where
  -- a turn by what it finds
  abbrev turn_by : (List ℕ → Bool) → List ℕ → List ℕ → List ℕ → ℕ → ℕ
  turn_by none c r v later = pick (none c) (pick_min (load g) r draw) (pick (none r) (pick_min (load g) c draw) (pick (none v) (pick_min (load g) r draw) later))

  abbrev turn : List ℕ → List ℕ → List ℕ → ℕ → ℕ
  turn = turn_by none

  turn_is : (c r v : List ℕ) (later : ℕ) → turn c r v later ≡ turn_by none_x c r v later
  turn_is c r v later = ap (λ (test : List ℕ → Bool). turn_by test c r v later) (fun_ext none_is)

  turn_same : {c d r t v w : List ℕ} {a b : ℕ} → c ≡ d → r ≡ t → v ≡ w → a ≡ b → turn c r v a ≡ turn d t w b
  turn_same {c} {d} {r} {t} {v} {w} {a} {b} e f h q = ap₂ (λ (x y : List ℕ). turn x y v a) e f ∙ ap₂ (turn d t) h q

  module _ (s : Seen) where
    new_c_is : new_c g (reach s) ≡ found (new_cx g s)
    new_c_is = layer_is g.var s.front s.seen_c

    rest_is : rest m g (reach s) ≡ rest_x m g s
    rest_is = ap (λ (f : Found). unmarked f.0 m) new_c_is ∙ unmarked_is (new_cx g s).0 m

    new_v_is : new_v g (reach s) ≡ found (new_vx g s)
    new_v_is = ap (λ (f : Found). layer g.chk f.1 (marks s.seen_v)) new_c_is ∙ layer_is g.chk (new_cx g s).1 s.seen_v

    onward_is : onward g (reach s) ≡ reach (onward_x g s)
    onward_is = ap₂ (λ (c v : Found). record { front = v.1; seen_v = v.0; seen_c = c.0 }) new_c_is new_v_is

  searched_is : (fuel : ℕ) (s : Seen) → searched fuel m g draw (reach s) ≡ searched_x fuel m g draw s
  unfolding searched searched_x after_c after_r after_v pick_min pick_min_x drawn_x lightest lightest_x
  searched_is zero s = refl
  searched_is (suc fuel) s =
      turn_same (ap (λ (f : Found). f.1) (new_c_is s)) (rest_is s) (ap (λ (f : Found). f.1) (new_v_is s))
      (ap (searched fuel m g draw) (onward_is s) ∙ searched_is fuel (onward_x g s))
      ∙ turn_is (new_cx g s).1 (rest_x m g s) (new_vx g s).1 (searched_x fuel m g draw (onward_x g s))

clear_is : clear ≡ marks 0
unfolding values
clear_is = refl

begin_is : (v : ℕ) → begin v ≡ reach (begin_x v)
begin_is v =
    ap (λ (l : List Bool). record { front = v ∷ []; seen_v = set l v true; seen_c = l }) clear_is
    ∙ ap (λ (l : List Bool). record { front = v ∷ []; seen_v = l; seen_c = marks 0 }) (mark_is 0 v)

chosen_is : (m : ℕ) (g : Adjacency) (v k drawn : ℕ) → chosen m g v k drawn ≡ chosen_x m g v k drawn
unfolding chosen chosen_x pick_min pick_min_x drawn_x lightest lightest_x
chosen_is m g v k drawn =
    ap₂ (λ (l : List ℕ) (c : ℕ). pick (eqb k 0) (pick_min (load g) l drawn) c)
    (ap (λ (l : List Bool). unmarked l m) clear_is ∙ unmarked_is 0 m)
    (ap (searched 257 m g drawn) (begin_is v) ∙ searched_is m g drawn 257 (begin_x v))

-- ---- the graph is that of the definition

module _ (l : Lists) (k : ℕ) (y : List ℕ) (h : room l k ≡ true) where
  room_block : k / 16 < length l
  room_block = ltb-true (k / 16) (length l) (both (ltb (k / 16) (length l)) (ltb (k % 16) (length (get_or l (k / 16) []))) h).0

  room_place : k % 16 < length (get_or l (k / 16) [])
  room_place = ltb-true (k % 16) (length (get_or l (k / 16) [])) (both (ltb (k / 16) (length l)) (ltb (k % 16) (length (get_or l (k / 16) []))) h).1

  put_block : get_or (put l k y) (k / 16) [] ≡ set (get_or l (k / 16) []) (k % 16) y
  put_block = get_or-set_same l (k / 16) (set (get_or l (k / 16) []) (k % 16) y) [] room_block

  put_here : at (put l k y) k ≡ y
  put_here = ap (λ (b : List (List ℕ)). get_or b (k % 16) []) put_block ∙ get_or-set_same (get_or l (k / 16) []) (k % 16) y [] room_place

  put_else : (q : ℕ) → q ≢ k → at (put l k y) q ≡ at l q
  put_else q n =
      ⊎_elim
      (λ (e : q / 16 ≡ k / 16).
      let m : q % 16 ≢ k % 16 = λ z. n (omega arith) in
      ap (λ (b : ℕ). get_or (get_or (put l k y) b []) (q % 16) []) e
      ∙ ap (λ (b : List (List ℕ)). get_or b (q % 16) []) put_block
      ∙ get_or-set_other (get_or l (k / 16) []) (k % 16) (q % 16) y [] m
      ∙ ap (λ (b : ℕ). get_or (get_or l b []) (q % 16) []) (sym e))
      (λ m. ap (λ (b : List (List ℕ)). get_or b (q % 16) []) (get_or-set_other l (k / 16) (q / 16) (set (get_or l (k / 16) []) (k % 16) y) [] m))
      (same_or_not (q / 16) (k / 16))

pushed_is : (l : Lists) (r x : ℕ) → room l r ≡ true → pushed (at l) r x ≡ at (put l r (at l r ++ x ∷ []))
pushed_is l r x h = fun_ext (λ q. ⊎_elim
    (λ (e : q ≡ r). pushed_here (at l) r x q e ∙ ap (λ (k : ℕ). at l k ++ x ∷ []) e ∙ sym (put_here l r (at l r ++ x ∷ []) h) ∙ ap (at (put l r (at l r ++ x ∷ []))) (sym e))
    (λ n. pushed_else (at l) r x q n ∙ sym (put_else l r (at l r ++ x ∷ []) h q n))
    (same_or_not q r))

-- f on lists does what g does, wherever its edges are inside
record Follows (f : Listed → Listed) (g : Growth → Growth) : Type 0 where
  back : (s : Listed) → (f s).ok ≡ true → s.ok ≡ true
  same : (s : Listed) → (f s).ok ≡ true → g (growth_of s) ≡ growth_of (f s)

iter_follows : (n : ℕ) (f : ℕ → Listed → Listed) (g : ℕ → Growth → Growth) → ((k : ℕ) → Follows (f k) (g k)) → Follows (iter n f) (iter n g)
unfolding iter
iter_follows zero f g w = record { back = λ s h. h; same = λ s h. refl }
iter_follows (suc n) f g w =
    let i = iter_follows n f g w in
    record {
      back = λ s h. i.back s ((w n).back (iter n f s) h);
      same = λ s h. ap (g n) (i.same s ((w n).back (iter n f s) h)) ∙ (w n).same (iter n f s) h;
    }

edge_follows : (m v k : ℕ) → Follows (edge_x m v k) (edge_turn m v k)
unfolding edge_x edge_turn
edge_follows m v k = record {
  back = λ s h. (both s.ok _ h).0;
  same = λ s h.
      let c = chosen_x m (graph_of s) v k (draw s.state) in
      let i = both (room s.chk c) (room s.var v) (both s.ok _ h).1 in
      ap (λ (x : ℕ). (joined (graph_of s) x v, next s.state)) (chosen_is m (graph_of s) v k (draw s.state))
      ∙ ap₂ (λ (a b : ℕ → List ℕ). (record { chk = a; var = b }, next s.state)) (pushed_is s.chk c v i.0) (pushed_is s.var v c i.1);
}

served_follows : (m v d : ℕ) → Follows (served_x m v d) (served m v d)
unfolding served served_x
served_follows m v d = iter_follows d (edge_x m v) (edge_turn m v) (edge_follows m v)

pick_follows : (b : Bool) (f : Listed → Listed) (g : Growth → Growth) → Follows f g → Follows (λ s. pick b (f s) s) (λ s. pick b (g s) s)
unfolding pick
pick_follows true f g w = record { back = w.back; same = w.same }
pick_follows false f g w = record { back = λ s h. h; same = λ s h. refl }

degree_follows : (m : ℕ) (degs : ℕ → ℕ) (d v : ℕ) → Follows (degree_x m degs d v) (degree_turn m degs d v)
unfolding degree_x degree_turn
degree_follows m degs d v = let w = pick_follows (eqb (degs v) d) (served_x m v d) (served m v d) (served_follows m v d) in record { back = w.back; same = w.same }

of_degree_follows : (m n : ℕ) (degs : ℕ → ℕ) (d : ℕ) → Follows (of_degree_x m n degs d) (of_degree m n degs d)
unfolding of_degree of_degree_x
of_degree_follows m n degs d = iter_follows n (degree_x m degs d) (degree_turn m degs d) (degree_follows m degs d)

grown_follows : (m n : ℕ) (degs : ℕ → ℕ) → Follows (grown_x m n degs) (grown m n degs)
unfolding grown grown_x
grown_follows m n degs = iter_follows (m + 1) (of_degree_x m n degs) (of_degree m n degs) (of_degree_follows m n degs)

none_at : (λ (c : ℕ). []) ≡ at no_lists
none_at = fun_ext (λ c. ⊎_elim
    (λ h. sym (ap (λ (b : List (List ℕ)). get_or b (c % 16) []) (get_or-replicate 16 (c / 16) (replicate 16 []) [] h) ∙ get_or-replicate 16 (c % 16) [] [] (omega arith)))
    (λ h. sym (ap (λ (b : List (List ℕ)). get_or b (c % 16) []) (get_or-eq_default no_lists [] {n = c / 16} h)))
    (less_or_not (c / 16) 16))

start_is : (seed : ℕ) → (empty, seed) ≡ growth_of (start_x seed)
start_is seed = ap (λ (a : ℕ → List ℕ). (record { chk = a; var = a }, seed)) none_at

short_at : (l : List (List ℕ)) (c : ℕ) → short l ≡ true → length (get_or l c []) ≤ 32
unfolding short
short_at [] c e = omega arith
short_at (x ∷ l) zero e = let h = ltb-true (length x) 33 (both (ltb (length x) 33) (short l) e).0 in omega arith
short_at (x ∷ l) (suc c) e = short_at l c (both (ltb (length x) 33) (short l) e).1

all_short_at : (l : Lists) (k : ℕ) → all_short l ≡ true → short (get_or l k []) ≡ true
unfolding all_short short
all_short_at [] k e = refl
all_short_at (b ∷ l) zero e = (both (short b) (all_short l) e).0
all_short_at (b ∷ l) (suc k) e = all_short_at l k (both (short b) (all_short l) e).1

abbrev pub fits : Listed → Bool
fits s = s.ok && all_short s.chk

-- what antt computes
pub narrow_checks : (m n : ℕ) (degs : ℕ → ℕ) (seed : ℕ) → fits (grown_x m n degs (start_x seed)) ≡ true → (c : ℕ) → length ((grown m n degs (empty, seed)).0.chk c) ≤ 32
narrow_checks m n degs seed e c =
    let s = grown_x m n degs (start_x seed) in
    let b = both s.ok (all_short s.chk) e in
    let q = ap (grown m n degs) (start_is seed) ∙ (grown_follows m n degs).same (start_x seed) b.0 in
    let h = short_at (get_or s.chk (c / 16) []) (c % 16) (all_short_at s.chk (c / 16) b.1) in
    omega (arith, h, ap (λ (w : Growth). length (w.0.chk c)) q)

-- degrees that agree below n
pub grown_ext : (m n : ℕ) (f h : ℕ → ℕ) (s : Growth) → ((v : ℕ) → v < n → f v ≡ h v) → grown m n f s ≡ grown m n h s
unfolding grown of_degree degree_turn
grown_ext m n f h s e =
    iter_ext (m + 1) (of_degree m n f) (of_degree m n h) s
    (λ d _ t. iter_ext n (degree_turn m f d) (degree_turn m h d) t (λ v l w. ap (λ (x : ℕ). pick (eqb x d) (served m v d w) w) (e v l)))
