-- An answer that is a word is no refusal, and a refusal is one.
-- Assumes nothing.
use mathlib.Core.Path.{◌≡◌, ap}
use mathlib.Core.Bool.{Bool, true, false, true≢false}
use Rattle.std.specs.Prelude.{Result, Ok, Err}
use Rattle.calls.specs.declared.Refusal.{Refusal}

abbrev pub Answer : Type 0
Answer = Result (Unit {0}) Refusal

abbrev is_done : Answer → Bool
is_done (Ok u) = true
is_done (Err r) = false

pub done_not_refused : {u : Unit {0}} (r : Refusal) → ◌≡◌ {A = Answer} (Ok u) (Err r) → ⊥
done_not_refused r e = true≢false (ap is_done e)

abbrev refusal_or : Refusal → Answer → Refusal
refusal_or given (Ok u) = given
refusal_or given (Err r) = r

pub one_refusal : (q r : Refusal) → ◌≡◌ {A = Answer} (Err q) (Err r) → q ≡ r
one_refusal q r e = ap (refusal_or q) e
