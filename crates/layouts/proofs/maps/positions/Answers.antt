-- `layouts::maps::positions` meets its contract.
use Rattle.layouts.proofs.StrongSlots.{heavy_distinct, heavy_few}
use Rattle.layouts.proofs.maps.positions.Goals as goal

pub spread_over-requires : goal.spread_over-requires
spread_over-requires c = rw (c.deref.ensures.0, c.heavy.ensures) (heavy_distinct c.args.degrees.now, heavy_few c.args.degrees.now)
