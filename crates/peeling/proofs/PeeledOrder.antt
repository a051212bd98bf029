-- The column order of distinct picks below n: it has n entries, each position once.
-- Assumes nothing.
use Prim.Native.Nat.{ℕ, ◌+◌, ◌<◌, ◌≤◌}
use mathlib.Core.Path.{◌≡◌, ap, subst, ◌∙◌}
use mathlib.Core.Bool.{Bool, not}
use mathlib.Core.List.{List, reverse}
use mathlib.Core.Logic.{⊎_elim}
use native.Mathlib.Omega.{arith}
use borrow.Author.Tests.{not-true}
use lib.ListN.{length, length-append, length-reverse}
use Rattle.lists.specs.Among.{among}
use Rattle.lists.specs.EachOnce.{EachOnce}
use Rattle.lists.specs.Entry.{nth}
use Rattle.lists.specs.Keep.{keep_below}
use Rattle.lists.specs.Times.{times}
use Rattle.lists.proofs.Among.{among-false, others_count}
use Rattle.lists.proofs.Cases.{less_or_not}
use Rattle.lists.proofs.Keep.{keep_below_ascends}
use Rattle.lists.proofs.Rising.{rises_apart}
use Rattle.lists.proofs.Times.{times-append, times_at, times_has, times_distinct, times_once, times-keep_below, times-reverse}
use Rattle.peeling.specs.PeeledOrder.{peeled_order}

module _ (n : ℕ) (picks : List ℕ) (below : (t : ℕ) → t < length picks → nth picks t < n) (once : (x : ℕ) → times x picks ≤ 1) where
  abbrev other : ℕ → Bool
  other v = not (among (length picks) (nth picks) v)

  abbrev others : List ℕ
  others = keep_below other n

  pub others_room : length (keep_below (λ v. not (among (length picks) (nth picks) v)) n) + length picks ≡ n
  others_room = omega (arith, others_count n (length picks) (nth picks) below (times_distinct picks once))

  pub order_length : length (peeled_order n picks) ≡ n
  unfolding peeled_order
  order_length = omega (arith, length-append others (reverse picks), length-reverse picks, others_room)

  -- a position stands among the picks or the others, and not among both
  order_times : (x : ℕ) → times x (peeled_order n picks) ≡ times x others + times x picks
  unfolding peeled_order
  order_times x = times-append x others (reverse picks) ∙ ap (λ (k : ℕ). times x others + k) (times-reverse x picks)

  others_once : (x : ℕ) → times x others ≤ 1
  others_once = times_once others (rises_apart (length others) (nth others) (keep_below_ascends other n))

  not_both : (x : ℕ) → 0 < times x others → times x picks ≡ 0
  not_both x h =
      ⊎_elim
      (λ l.
      let r = times_has x picks l in
      absurd (among-false (length picks) (nth picks) x (not-true (among (length picks) (nth picks) x) (times-keep_below other n x h).1) r.0 r.1 r.2))
      (λ (l : times x picks ≤ 0). omega arith)
      (less_or_not 0 (times x picks))

  all_once : (x : ℕ) → times x (peeled_order n picks) ≤ 1
  all_once x =
      ⊎_elim
      (λ h. omega (arith, order_times x, others_once x, not_both x h))
      (λ (h : times x others ≤ 0). omega (arith, order_times x, once x))
      (less_or_not 0 (times x others))

  all_below : (x : ℕ) → 0 < times x (peeled_order n picks) → x < n
  all_below x h =
      ⊎_elim
      (λ l. (times-keep_below other n x l).0)
      (λ (l : times x others ≤ 0). let r = times_has x picks (omega (arith, order_times x)) in subst (λ (y : ℕ). y < n) r.2 (below r.0 r.1))
      (less_or_not 0 (times x others))

  pub order_once : EachOnce n (nth (peeled_order n picks))
  order_once = record {
    inside = λ t h. all_below (nth (peeled_order n picks) t) (times_at (peeled_order n picks) t (omega (arith, order_length)));
    distinct = λ t v h l. times_distinct (peeled_order n picks) all_once t v (omega (arith, order_length)) (omega (arith, order_length));
  }
