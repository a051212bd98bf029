-- Laws of the order of the integers that the library does not have.
-- Assumes nothing.
use mathlib.Core.Path.{◌≡◌, ap}
use mathlib.Core.Bool.{true, false, not}
use mathlib.Core.Logic.{⊎_elim}
use native.Mathlib.Nat.{le_of_lt}
use lib.Dec.{T, le→leb, ltb→lt, lt→ltb, nleb→lt}
use lib.IntN.{ℤ, pos, negsuc}
use lib.Signed.{lt_z, le_z, ◌≤ℤ◌, ◌<ℤ◌, le_z_yes, lt_z_yes, lt_z_no, <ℤ-≤ℤ_trans, clash_ℤ}
use Rattle.lists.proofs.Cases.{true_or_false, is_true}

lt_le : (a b : ℤ) → T (lt_z a b) → T (le_z a b)
lt_le (pos a) (pos b) t = le→leb a b (le_of_lt (ltb→lt a b t))
lt_le (pos a) (negsuc b) t = t
lt_le (negsuc a) (pos b) t = tt
lt_le (negsuc a) (negsuc b) t = le→leb b a (le_of_lt (ltb→lt b a t))

not_le : (a b : ℤ) → T (not (le_z a b)) → T (lt_z b a)
not_le (pos a) (pos b) t = lt→ltb b a (nleb→lt a b t)
not_le (pos a) (negsuc b) t = tt
not_le (negsuc a) (pos b) t = t
not_le (negsuc a) (negsuc b) t = lt→ltb a b (nleb→lt b a t)

module _ {a b : ℤ} where
  pub <ℤ_≤ℤ : a <ℤ b → a ≤ℤ b
  <ℤ_≤ℤ h = le_z_yes (lt_le a b h.lt)

  -- what a test says
  pub le_z-true : le_z a b ≡ true → a ≤ℤ b
  le_z-true e = le_z_yes (is_true (le_z a b) e)

  pub le_z-false : le_z a b ≡ false → b <ℤ a
  le_z-false e = lt_z_yes (not_le a b (is_true (not (le_z a b)) (ap not e)))

  pub lt_z-true : lt_z a b ≡ true → a <ℤ b
  lt_z-true e = lt_z_yes (is_true (lt_z a b) e)

  pub lt_z-false : lt_z a b ≡ false → b ≤ℤ a
  lt_z-false e = lt_z_no (is_true (not (lt_z a b)) (ap not e))

pub ≤ℤ_trans : {a b c : ℤ} → a ≤ℤ b → b ≤ℤ c → a ≤ℤ c
≤ℤ_trans {a} {b} {c} h k =
    ⊎_elim
    (λ (t : lt_z c a ≡ true). clash_ℤ (<ℤ-≤ℤ_trans (lt_z-true {a = c} {b = a} t) h) k)
    (λ (t : lt_z c a ≡ false). lt_z-false {a = c} {b = a} t)
    (true_or_false (lt_z c a))
