-- `layouts::variable::push_new` meets its contract.
use Prim.Native.Nat.{ℕ, ◌≤◌, ◌<◌}
use mathlib.Core.Path.{◌≡◌, sym, ap, ◌∙◌}
use mathlib.Core.Bool.{true, false}
use mathlib.Core.List.{List, [], ◌∷◌, ◌++◌}
use native.Mathlib.Omega.{arith}
use lib.ListN.{length, length-append}
use Rattle.lists.specs.Among.{among}
use Rattle.lists.specs.Entry.{nth}
use Rattle.lists.proofs.Choice.{pick-true, pick-false}
use Rattle.lists.proofs.ListAny.{list_any_among}
use Rattle.layouts.specs.Heavy.{push_new}
use Rattle.layouts.proofs.variable.push_new.Goals as goal

new : (l : List ℕ) (j : ℕ) → among (length l) (nth l) j ≡ false → push_new l j ≡ l ++ j ∷ []
new l j e = pick-false (among (length l) (nth l) j) l (l ++ j ∷ []) e

old : (l : List ℕ) (j : ℕ) → among (length l) (nth l) j ≡ true → l ≡ push_new l j
old l j e = sym (pick-true (among (length l) (nth l) j) l (l ++ j ∷ []) e)

room : (l : List ℕ) (j : ℕ) → among (length l) (nth l) j ≡ false → length (push_new l j) ≤ 52 → length l < 52
room l j e h = omega (arith, ap length (new l j e), length-append l (j ∷ []))

pub push-requires : goal.push-requires
push-requires c =
    let l = c.args.order.now.items in
    let j = c.args.j in
    (omega arith, room l j (sym (ap (λ (l : List ℕ). among (length l) (nth l) j) c.deref.ensures.0) ∙ sym (list_any_among c.deref.result.now j) ∙ sym c.is_among.ensures ∙ c.if-not-is_among.true) c.requires)

pub returns-then-not-is_among : goal.returns-then-not-is_among
returns-then-not-is_among c =
    let l = c.args.order.now.items in
    let j = c.args.j in
    c.push.ensures.items ∙ sym (new l j (sym (ap (λ (l : List ℕ). among (length l) (nth l) j) c.deref.ensures.0) ∙ sym (list_any_among c.deref.result.now j) ∙ sym c.is_among.ensures ∙ c.if-not-is_among.true))

pub returns-else-not-is_among : goal.returns-else-not-is_among
returns-else-not-is_among c =
    let l = c.args.order.now.items in
    let j = c.args.j in
    old l j (sym (ap (λ (l : List ℕ). among (length l) (nth l) j) c.deref.ensures.0) ∙ sym (list_any_among c.deref.result.now j) ∙ sym c.is_among.ensures ∙ c.if-not-is_among.false)
