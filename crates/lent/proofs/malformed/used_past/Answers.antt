-- `lent::malformed::used_past` meets its contract. The invariant: the entries so far and those to come are used where the whole is.
use Rattle.std.proofs.Common.{◌≡◌, refl, not, ◌||◌, ◌<◌, ◌-◌, ℕ, ◌+◌, eqb, drop, take, length, get_or, bit_or, Bool, true, false, List, ap, sym, ◌∙◌, length-drop, arith}
use Rattle.std.specs.List.{list_any}
use Rattle.std.proofs.lemmas.List.{at_drop_more}
use lib.Seq.{take_all}
use Rattle.lists.proofs.UsedPast.{or_used}
use Rattle.lent.proofs.malformed.used_past.Goals as goal

swap : (a b r : Bool) → ((b || a) || r) ≡ (a || (b || r))
swap true true r = refl
swap true false r = refl
swap false true r = refl
swap false false r = refl

step : {X : Type 0} (value : X → ℕ) (l : List X) (any i n : ℕ) (x : X) → i < length l → x ≡ get_or l i x → n ≡ value x
    → (not (eqb (bit_or any n) 0) || list_any (λ y. not (eqb (value y) 0)) (drop (i + 1) l)) ≡ (not (eqb any 0) || list_any (λ y. not (eqb (value y) 0)) (drop i l))
step {X = X} value l any i n x h e q =
    let test : X → Bool = λ y. not (eqb (value y) 0) in
    let rest = list_any test (drop (i + 1) l) in
    ap (λ b. b || rest) (or_used any n)
    ∙ swap (not (eqb any 0)) (not (eqb n 0)) rest
    ∙ ap (λ b. not (eqb any 0) || (b || rest)) (ap (λ (k : ℕ). not (eqb k 0)) (q ∙ ap value e))
    ∙ ap (λ b. not (eqb any 0) || b) (sym (at_drop_more (list_any test) l i x h))

pub loop-x-preserved : goal.loop-x-preserved
loop-x-preserved g c = λ value gives.
    let part = c.args.part.now in
    let m : c.min.result ≡ c.args.k = omega (arith, c.loop-x-test.true, c.min.ensures) in
    let all : take (length part - c.min.result) (drop c.min.result part) ≡ drop c.args.k part =
    take_all (length part - c.min.result) (drop c.min.result part) (omega (arith, length-drop c.min.result part)) ∙ ap (λ (k : ℕ). drop k part) m in
    step value (drop c.args.k part) c.loop-x.any c.loop-x.x-index c.into-any.result c.x-item.result
    (omega (arith, ap length all, c.loop-x-test.true)) (c.x-item.is ∙ ap (λ l. get_or l c.loop-x.x-index c.x-item.result) all) (gives _ _ c.into-any.ensures)
    ∙ c.loop-x.invariant value gives
