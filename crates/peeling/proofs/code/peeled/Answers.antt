-- `peeling::code::peeled` meets its contract: elimination goes in the order that peeling gives.
use Prim.Native.Nat.{ℕ, ◌<◌}
use mathlib.Core.Path.{◌≡◌, sym, ap, subst, ◌∙◌}
use mathlib.Core.List.{List}
use native.Mathlib.Omega.{arith}
use lib.ListN.{length}
use Rattle.lists.specs.Entry.{nth}
use Rattle.calls.specs.Parts.{padded}
use Rattle.calls.proofs.Parts.{padded-length, padded_in}
use Rattle.elimination.specs.Encodable.{Encodable}
use Rattle.graph.specs.Parts.{Parts, lent}
use Rattle.lent.proofs.SoundCode.{sound_encodable}
use Rattle.peeling.specs.Best.{is_last}
use Rattle.peeling.specs.WithPeeledInfo.{order_of}
use Rattle.peeling.proofs.Peelable.{peelable}
use Rattle.peeling.proofs.PeeledCode.{peeled_long, peeled_once}
use Rattle.peeling.proofs.Recoded.{recoded_code, recoded_parts}
use Rattle.peeling.proofs.code.peeled.Goals.{After-reorder}
use Rattle.peeling.proofs.code.peeled.Goals as goal

module _ (c : After-reorder) where
  abbrev parts : Parts
  parts = let a = c.args in lent a.var.now a.coef.now a.row.now a.start.now a.col.now a.order.now a.parity.now a.info.now a.a.now

  abbrev new : List ℕ
  new = order_of (is_last c.args.tie) c.args.code parts c.args.prefer.now

  long : length new ≡ c.args.code.n
  long = peeled_long (is_last c.args.tie) c.args.code parts c.args.prefer.now c.requires.sound

  -- what stands in the part
  ordered : c.reorder.new.order ≡ padded 256 0 new
  unfolding order_of
  ordered = c.reorder.ensures c.args.coef.now

  fits : length new < 257
  fits = omega (arith, long, c.requires.sound.fits.n_small)

  front : (t : ℕ) → t < c.args.code.n → nth c.reorder.new.order t ≡ nth new t
  front t h = ap (λ (l : List ℕ). nth l t) ordered ∙ padded_in 256 0 new (omega (arith, fits)) t 0 (omega (arith, h, long))

  encodable : Encodable c.args.code.n c.args.code.m c.args.var.now c.args.coef.now c.args.row.now c.reorder.new.order
  encodable = let w = sound_encodable c.args.code parts c.requires.sound in record {
    graph = w.graph;
    n_small = w.n_small;
    vars = w.vars;
    coefs = w.coefs;
    order_long = ap length ordered ∙ padded-length 256 0 new (omega (arith, fits));
    columns = λ t h. subst (λ (k : ℕ). k < c.args.code.n) (sym (front t h)) ((peeled_once (is_last c.args.tie) c.args.code parts c.args.prefer.now c.requires.sound).inside t h);
  }

pub invariant_of-edges : goal.invariant_of-edges
invariant_of-edges c = record { peelable = peelable _ _ c.requires.sound }

pub recode-rank-requires-clause-encodable : goal.recode-rank-requires-clause-encodable
recode-rank-requires-clause-encodable c = encodable (goal.at.recode-rank-requires-clause-encodable c).After-reorder

pub returns-clause-value : goal.returns-clause-value
returns-clause-value c =
    let r = (goal.at.returns-clause-value c).After-reorder in
    recoded_code c.args.code (parts r) (new r) c.reorder.new.order (front r) c.recode-rank.ensures.0

pub returns-clause-code_after : goal.returns-clause-code_after
returns-clause-code_after c =
    let r = (goal.at.returns-clause-code_after c).After-reorder in
    let e = c.recode-rank.ensures in
    recoded_parts c.args.code (parts r) (new r) c.reorder.new.order (front r) (ordered r) e.1 e.2 e.3
