-- `rates::degrees::prefer` meets its contract. The invariant: the first v preferences stand at the front.
use mathlib.Core.Path.{◌≡◌, sym, ap, ◌∙◌}
use Prim.Native.Nat.{ℕ, ◌<◌}
use native.Mathlib.Omega.{arith}
use lib.IntN.{ℤ, pos}
use lib.ListN.{length, set}
use mir.Syntax.{w64}
use Rattle.std.proofs.lemmas.Int.{to_z_pos}
use Rattle.lists.specs.Entry.{nth}
use Rattle.lists.proofs.Laid.{fill_start, fill_on, fill_end, fill_all}
use Rattle.lists.proofs.Values.{map_entries}
use Rattle.rates.proofs.degrees.prefer.Goals as goal

pub loop-v-init : goal.loop-v-init
loop-v-init c = fill_start (λ (v : ℕ). pos (nth c.args.degrees.now v)) _

pub loop-v-preserved : goal.loop-v-preserved
loop-v-preserved c =
    let l = c.loop-v in
    let small : nth c.args.degrees.now l.v < 9223372036854775808 = omega (arith, c.requires.low l.v (omega arith)) in
    ap (set l.prefer l.v) (to_z_pos w64 (nth c.args.degrees.now l.v) small)
    ∙ fill_on (λ (v : ℕ). pos (nth c.args.degrees.now v)) _ _ _ (omega (arith, c.requires.lengths)) l.invariant

pub returns : goal.returns
returns c =
    let degrees = c.args.degrees.now in
    let f : ℕ → ℤ = λ v. pos (nth degrees v) in
    let e : c.loop-v.v ≡ length degrees = omega arith in
    fill_end f _ _ c.args.prefer.now _ e c.loop-v.invariant ∙ fill_all f _ c.args.prefer.now (sym c.requires.lengths) ∙ sym (map_entries (λ (d : ℕ). pos d) 0 degrees)
