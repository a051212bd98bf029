-- Laws of the first test that holds: of tests tried one after the other, of lists of tests one after the other, and of what an answer says of them.
-- Assumes nothing.
use Prim.Native.Nat.{ℕ}
use mathlib.Core.Path.{◌≡◌, refl, sym, ap, ◌∙◌}
use mathlib.Core.Bool.{Bool, true, false, true≢false, not, or-false, ◌&&◌, ◌||◌}
use mathlib.Core.List.{List, [], ◌∷◌, ◌++◌}
use borrow.Author.Tests.{eqb-true, eq-eqb, not-false}
use lib.Dec.{T, eqb}
use Rattle.std.specs.Prelude.{Option, Some, None, Result, Ok, Err}
use Rattle.std.proofs.lemmas.Option.{none-some}
use Rattle.std.specs.Result.{IsErr, IsErrAnd}
use Rattle.lists.proofs.Cases.{neither, and_parts, holds}
use Rattle.calls.specs.declared.Refusal.{Refusal}
use Rattle.calls.specs.Refusal.{one_holds, first_of, answered, misfits}

-- ---- tests tried one after the other: r is what a function said of the test t

pub one_hit : {r t : Bool} (ts : List Bool) → r ≡ t → r ≡ true → true ≡ one_holds (t ∷ ts)
unfolding one_holds
one_hit ts e h = rw (← e, h)

pub one_miss : {r s t : Bool} (ts : List Bool) → r ≡ t → r ≡ false → s ≡ one_holds ts → s ≡ one_holds (t ∷ ts)
unfolding one_holds
one_miss ts e h q = rw (← e, h, q)

pub one_join : {r s t : Bool} (ts : List Bool) → r ≡ t → s ≡ one_holds ts → (r || s) ≡ one_holds (t ∷ ts)
unfolding one_holds
one_join ts e h = rw (e, h)

pub one_last : {r t : Bool} → r ≡ t → r ≡ one_holds (t ∷ [])
unfolding one_holds
one_last {t = t} e = e ∙ sym (or-false t)

pub one_none : false ≡ one_holds []
unfolding one_holds
one_none = refl

pub first_hit : {r t : Bool} {k : Refusal} (ts : List (Bool × Refusal)) → r ≡ t → r ≡ true → Some k ≡ first_of ((t, k) ∷ ts)
first_hit ts e h = rw (← e, h)

pub first_miss : {r t : Bool} {n : Option Refusal} (k : Refusal) (ts : List (Bool × Refusal)) → r ≡ t → r ≡ false → n ≡ first_of ts → n ≡ first_of ((t, k) ∷ ts)
first_miss k ts e h q = rw (← e, h, q)

-- ---- what a test that was passed says

-- each of several tests fails
abbrev pub Fail : List Bool → Type 0
Fail [] = Unit
Fail (t ∷ ts) = (t ≡ false) × Fail ts

pub one_fail : (ts : List Bool) → one_holds ts ≡ false → Fail ts
unfolding one_holds
one_fail [] e = tt
one_fail (t ∷ ts) e = let r = neither t (one_holds ts) e in (r.0, one_fail ts r.1)

pub pass : (t : Bool) (k : Refusal) (ts : List (Bool × Refusal)) → first_of ((t, k) ∷ ts) ≡ None → (t ≡ false) × (first_of ts ≡ None)
pass true k ts e = absurd (none-some _ (sym e))
pass false k ts e = (refl, e)

-- each length is the one asked
abbrev pub Alike : List (ℕ × ℕ) → Type 0
Alike [] = Unit
Alike (p ∷ ps) = (p.0 ≡ p.1) × Alike ps

pub alike : (ps : List (ℕ × ℕ)) (rest : Bool) → misfits ps rest ≡ false → Alike ps × (rest ≡ false)
alike [] rest e = (tt, e)
alike (p ∷ ps) rest e =
    let r = neither (not (eqb p.0 p.1)) (misfits ps rest) e in
    let q = alike ps rest r.1 in
    ((eqb-true p.0 p.1 (not-false (eqb p.0 p.1) r.0), q.0), q.1)

pub fitting : (ps : List (ℕ × ℕ)) (rest : Bool) → Alike ps → rest ≡ false → misfits ps rest ≡ false
fitting [] rest a e = e
fitting (p ∷ ps) rest a e = rw (eq-eqb p.0 p.1 a.0, fitting ps rest a.1 e)

-- ---- lists of tests one after the other

abbrev kept_or : Refusal → Option Refusal → Refusal
kept_or given None = given
kept_or given (Some r) = r

-- where one of the first tests holds, the others do not matter
pub stays : (a b : List (Bool × Refusal)) {r : Refusal} → first_of a ≡ Some r → first_of (a ++ b) ≡ Some r
stays [] b e = absurd (none-some _ e)
stays ((true, k) ∷ ts) b e = e
stays ((false, k) ∷ ts) b e = stays ts b e

-- and where none does, they decide
pub second : (a b : List (Bool × Refusal)) → first_of a ≡ None → first_of (a ++ b) ≡ first_of b
second [] b e = refl
second ((true, k) ∷ ts) b e = absurd (none-some _ (sym e))
second ((false, k) ∷ ts) b e = second ts b e

-- where none of all holds, none of either list does
pub both_pass : (a b : List (Bool × Refusal)) → first_of (a ++ b) ≡ None → (first_of a ≡ None) × (first_of b ≡ None)
both_pass [] b e = (refl, e)
both_pass ((true, k) ∷ ts) b e = absurd (none-some _ (sym e))
both_pass ((false, k) ∷ ts) b e = both_pass ts b e

-- every refusal of a list is of a class
abbrev pub of_class : (Refusal → Bool) → List (Bool × Refusal) → Bool
of_class class [] = true
of_class class (t ∷ ts) = class t.1 && of_class class ts

pub first_class : (class : Refusal → Bool) (ts : List (Bool × Refusal)) {r : Refusal} → T (of_class class ts) → first_of ts ≡ Some r → class r ≡ true
first_class class [] p e = absurd (none-some _ e)
first_class class ((true, k) ∷ ts) p e = ap class (sym (ap (kept_or k) e)) ∙ holds (class k) (and_parts (class k) (of_class class ts) p).0
first_class class ((false, k) ∷ ts) p e = first_class class ts (and_parts (class k) (of_class class ts) p).1 e

-- ---- what an answer says of the tests

abbrev is_ok : {A : Type 0} → Result A Refusal → Bool
is_ok (Ok a) = true
is_ok (Err r) = false

abbrev found_or : {A : Type 0} → A → Result A Refusal → A
found_or given (Ok a) = a
found_or given (Err r) = given

abbrev refusal_or : {A : Type 0} → Refusal → Result A Refusal → Refusal
refusal_or given (Ok a) = given
refusal_or given (Err r) = r

pub by_err : {A : Type 0} (tests : Option Refusal) (found : A) {r : Refusal} → Err r ≡ answered tests found → tests ≡ Some r
by_err None found e = absurd (true≢false (sym (ap is_ok e)))
by_err (Some k) found e = ap Some (sym (ap (refusal_or k) e))

pub by_ok : {A : Type 0} (tests : Option Refusal) (found : A) {a : A} → Ok a ≡ answered tests found → (tests ≡ None) × (a ≡ found)
by_ok None found e = (refl, ap (found_or found) e)
by_ok (Some k) found e = absurd (true≢false (ap is_ok e))

-- a call that its first tests turn down, whatever it would have found
pub err_stays : {A B : Type 0} (a b : List (Bool × Refusal)) (found : A) (other : B) {r : Refusal} → Err r ≡ answered (first_of a) found → Err r ≡ answered (first_of (a ++ b)) other
err_stays a b found other e = ap (λ (t : Option Refusal). answered t other) (sym (stays a b (by_err (first_of a) found e)))

-- what `?` hands on is the refusal that it found
pub passed_on : {B : Type 0} {x : Result B Refusal} {r : Refusal} → IsErr x × IsErrAnd x (λ e. e ≡ r) → x ≡ Err r
passed_on {x = Ok b} h = absurd h.1
passed_on {x = Err e} h = ap Err h.1
