-- The tables' rules: EXP is the list of the powers of x, LOG that of the logarithms to the base x, and product and inverse go by them.
-- Each rule is one test that antt computes over the whole table.
-- Assumes nothing.
use Rattle.std.proofs.Common.{◌≡◌, ℕ, zero, suc, ◌+◌, ◌-◌, ◌%◌, ◌<◌, cond, eqb, ltb, ◌≢◌, List, [], ◌∷◌, get_or, sym, refl, ap, ◌∙◌, ap₂, le_of_suc-le-suc, not-suc-le-zero, mod-lt, mod-eq_of_lt, arith, lit<, ltb→lt}
use Rattle.lists.specs.Values.{values}
use Rattle.lists.proofs.Computed.{all_below_at, equal1}
use Rattle.lists.proofs.Values.{values_at}
use Rattle.field.specs.Field.{product, power, inverse}
use Rattle.field.proofs.Product.{product-lt, product_comm, product_assoc, one_product, power-lt, power-add, inverse_unique}

-- x, the polynomial
abbrev x : ℕ
x = 2

-- ---- the tables

-- p, x·p, x²·p and so on, n of them
unfoldable multiples : ℕ → ℕ → List ℕ
unfolding product
multiples zero p = []
multiples (suc n) p = p ∷ multiples n (product x p)

unfoldable pub exps : List ℕ
unfolding multiples
exps = multiples 62 1

-- the place of a in a list
unfoldable place : ℕ → List ℕ → ℕ
place a [] = 0
place a (p ∷ l) = cond (eqb p a) 0 (suc (place a l))

-- the logarithm of an element other than 0, and 0 of 0
unfoldable log : ℕ → ℕ
unfolding place multiples
log zero = 0
log (suc a) = place (suc a) (multiples 31 1)

unfoldable pub logs : List ℕ
unfolding values log
logs = values 32 log

-- ---- their rules

log-lt : (a : ℕ) → a < 32 → log a < 31
unfolding log
log-lt a h = ltb→lt (log a) 31 (all_below_at 32 (λ a. ltb (log a) 31) tt a h)

power-log : (a : ℕ) → a < 32 → a ≢ 0 → power x (log a) ≡ a
unfolding log power
power-log zero h k = absurd (k refl)
power-log (suc a) h k = equal1 31 (λ a. power x (log (suc a))) suc tt a (le_of_suc-le-suc h)

product-log : (a b : ℕ) → a < 32 → b < 32 → a ≢ 0 → b ≢ 0 → power x (log a + log b) ≡ product a b
product-log a b ha hb ka kb = power-add x (log a) (log b) ∙ ap₂ product (power-log a ha ka) (power-log b hb kb)

-- x³¹ = 1
opposite : (i : ℕ) → i < 31 → product (power x ((31 - i) % 31)) (power x i) ≡ 1
unfolding power
opposite zero h = refl
opposite (suc i) h =
    let e : (31 - suc i) % 31 ≡ 31 - suc i = mod-eq_of_lt (omega arith) in
    let s : 31 - suc i + suc i ≡ 31 = omega arith in
    ap (λ (j : ℕ). product (power x j) (power x (suc i))) e ∙ sym (power-add x (31 - suc i) (suc i)) ∙ ap (power x) s

inverse-log : (a : ℕ) → a < 32 → a ≢ 0 → power x ((31 - log a) % 31) ≡ inverse a
inverse-log a h k =
    let p = power x ((31 - log a) % 31) in
    inverse_unique a p h k (power-lt x ((31 - log a) % 31)) (ap (product p) (sym (power-log a h k)) ∙ opposite (log a) (log-lt a h))

multiples_at : (n p i : ℕ) → p < 32 → i < n → get_or (multiples n p) i 0 ≡ product (power x i) p
unfolding multiples power
multiples_at zero p i h l = absurd (not-suc-le-zero l)
multiples_at (suc n) p zero h l = sym (one_product p h)
multiples_at (suc n) p (suc i) h l =
    multiples_at n (product x p) i (product-lt x p) (le_of_suc-le-suc l)
    ∙ sym (product_assoc (power x i) x p) ∙ ap (λ (y : ℕ). product y p) (product_comm (power x i) x)

-- ---- what the code reads in them

abbrev pub exp_at : ℕ → ℕ
exp_at i = get_or exps i 0

abbrev pub log_at : ℕ → ℕ
log_at a = get_or logs a 0

exp_at-power : (i : ℕ) → i < 62 → exp_at i ≡ power x i
unfolding exps
exp_at-power i h = multiples_at 62 1 i (lit< tt) h ∙ product_comm (power x i) 1 ∙ one_product (power x i) (power-lt x i)

log_at-log : (a : ℕ) → a < 32 → log_at a ≡ log a
unfolding logs
log_at-log a h = values_at log 32 a 0 h

pub log_at-lt : (a : ℕ) → a < 32 → log_at a < 31
log_at-lt a h = rw (log_at-log a h) (log-lt a h)

pub product_read : (a b : ℕ) → a < 32 → b < 32 → a ≢ 0 → b ≢ 0 → exp_at (log_at a + log_at b) ≡ product a b
product_read a b ha hb ka kb =
    exp_at-power (log_at a + log_at b) (omega (arith, log_at-lt a ha, log_at-lt b hb)) ∙ ap₂ (λ (i j : ℕ). power x (i + j)) (log_at-log a ha) (log_at-log b hb)
    ∙ product-log a b ha hb ka kb

pub inverse_read : (a : ℕ) → a < 32 → a ≢ 0 → exp_at ((31 - log_at a) % 31) ≡ inverse a
inverse_read a ha ka =
    exp_at-power ((31 - log_at a) % 31) (omega (arith, mod-lt (31 - log_at a) (lit< {m = 0} {n = 31} tt))) ∙ ap (λ (i : ℕ). power x ((31 - i) % 31)) (log_at-log a ha)
    ∙ inverse-log a ha ka

-- ---- all products

unfoldable pub product_rows : List (List ℕ)
unfolding values product
product_rows = values 32 (λ a. values 32 (product a))

pub product_row : (a : ℕ) (d : List ℕ) → a < 32 → get_or product_rows a d ≡ values 32 (product a)
unfolding product_rows
product_row a d h = values_at (λ b. values 32 (product b)) 32 a d h
