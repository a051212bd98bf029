-- A sound code is one that rounds may be made on.
-- Assumes nothing.
use native.Mathlib.Omega.{arith}
use Rattle.graph.specs.declared.Code.{Code}
use Rattle.graph.specs.Parts.{Parts}
use Rattle.lent.specs.Sound.{IsSound}
use Rattle.rounds.specs.Tanner.{tanner_in}
use Rattle.rounds.specs.Ready.{Ready}

pub ready : (c : Code) (p : Parts) → IsSound c p → Ready (tanner_in c p)
ready c p w = record {
  rows = record {
    small = w.fits.m_small;
    coef_long = w.fits.parts.coef;
    row_long = w.fits.parts.row;
    first = w.formed.rows.first;
    rise = w.formed.rows.rise;
    last = omega (arith, w.formed.rows.last, w.formed.few);
    coefs = λ e h. (w.formed.coefs e (omega (arith, w.formed.rows.last))).1;
  };
  columns = record {
    small = w.fits.n_small;
    start_long = w.fits.parts.start;
    col_long = w.fits.parts.col;
    rise = w.formed.columns.rise;
    last = omega (arith, w.formed.columns.last, w.formed.few);
    places = λ i h. omega (arith, w.formed.places.inside i (omega (arith, w.formed.columns.last)), w.formed.columns.last);
  };
  ends = record { few = w.formed.few; long = w.fits.parts.var; vars = w.formed.vars };
  by_check = w.formed.rows.last;
  by_variable = w.formed.columns.last;
}
