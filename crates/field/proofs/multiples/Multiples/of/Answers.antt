-- `field::multiples::Multiples::of` meets its contract: each multiple is x times the one before.
use Rattle.field.specs.Multiples.{multiples_of}
use Rattle.field.proofs.Product.{product-lt}
use Rattle.field.proofs.Combined.{x_powers, first_multiple, next_multiple}
use Rattle.field.proofs.multiples.Multiples.of.Goals as goal

pub times_x-m2-requires : goal.times_x-m2-requires
times_x-m2-requires c = rw c.times_x-m1.ensures (product-lt _ 2)

pub times_x-m3-requires : goal.times_x-m3-requires
times_x-m3-requires c = rw c.times_x-m2.ensures (product-lt _ 2)

pub times_x-m4-requires : goal.times_x-m4-requires
times_x-m4-requires c = rw c.times_x-m3.ensures (product-lt _ 2)

pub returns : goal.returns
unfolding multiples_of
returns c =
    let f = c.args.f in
    let e₀ = first_multiple f in
    let e₁ = next_multiple f 1 2 _ _ x_powers.0 e₀ c.times_x-m1.ensures in
    let e₂ = next_multiple f 2 4 _ _ x_powers.1 e₁ c.times_x-m2.ensures in
    let e₃ = next_multiple f 4 8 _ _ x_powers.2 e₂ c.times_x-m3.ensures in
    let e₄ = next_multiple f 8 16 _ _ x_powers.3 e₃ c.times_x-m4.ensures in
    rw (e₄, e₃, e₂, e₁, e₀)
