-- `field::gf::products_of` meets its contract: the table's rows are the products, and of a factor the five lowest bits count.
use Prim.Native.Nat.{◌%◌}
use mathlib.Core.Path.{◌∙◌}
use Rattle.lists.proofs.Values.{values_ext}
use Rattle.field.specs.Field.{product}
use Rattle.field.proofs.Logarithms.{product_rows, product_row}
use Rattle.field.proofs.Product.{mod32, product-mod_left}
use Rattle.field.proofs.gf.products_of.Goals as goal

pub returns : goal.returns
unfolding product_rows
returns c =
    let a = c.args.a in
    product_row (a % 32) _ (mod32 a) ∙ values_ext 32 (product (a % 32)) (product a) 0 (λ j h. product-mod_left a j)
