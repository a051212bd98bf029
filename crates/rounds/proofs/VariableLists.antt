-- A variable's list of places is one that its products may go over; and what the loops over variables and over edges make.
-- Assumes nothing.
use Prim.Native.Nat.{ℕ, ◌+◌, ◌-◌, ◌<◌, ◌≤◌}
use mathlib.Core.Path.{◌≡◌, ap, ◌∙◌}
use mathlib.Core.List.{List}
use native.Mathlib.Omega.{arith}
use lib.Ieee.{Float}
use lib.ListN.{length, take, drop}
use Rattle.lists.specs.Entry.{nth}
use Rattle.lists.proofs.ListSearch.{middle-length, middle_at}
use Rattle.lists.proofs.Rising.{rises}
use Rattle.vectors.specs.Vector.{Vector, vector}
use Rattle.vectors.specs.Normalized.{normalized}
use Rattle.rounds.specs.Tanner.{degree_of, place_of}
use Rattle.rounds.specs.VariableStep.{gathered, gathered_without, posterior, to_check}
use Rattle.rounds.specs.Listed.{Listed}
use Rattle.rounds.specs.Work.{vectors_length, from_checks}
use Rattle.rounds.specs.Ready.{Columns}
use Rattle.rounds.proofs.Alike.{posterior_ext, to_check_ext}

-- a list that stands from `lo` to `hi`, as the loops over its places have it
module _ (col : List ℕ) (lo hi v : ℕ) (w : List Float) (k : Listed col lo hi v w) where
  abbrev pub places : List ℕ
  places = take (hi - lo) (drop lo col)

  pub places-length : length places ≡ hi - lo
  places-length = middle-length col lo (hi - lo) (omega (arith, k.rise, k.end))

  pub places_at : (j : ℕ) → j < hi - lo → nth places j ≡ nth col (lo + j)
  places_at j h = middle_at col lo (hi - lo) j h

  pub places_inside : (j : ℕ) → j < length places → nth places j < 512
  places_inside j h = omega (arith, places-length, places_at j (omega (arith, places-length)), k.places j (omega (arith, places-length)))

module _ (n : ℕ) (start col : List ℕ) (k : Columns n start col) (w : List Float) (v : ℕ) (h : v < n) where
  end : nth start (v + 1) ≤ nth start n
  end = rises n (nth start) k.rise (v + 1) n (omega arith) (omega arith)

  pub listed : length w ≡ vectors_length → Listed col (nth start v) (nth start (v + 1)) v w
  listed l = record {
    long = l;
    v_small = omega (arith, k.small);
    rise = k.rise v h;
    end = omega (arith, end, k.last, k.col_long);
    places = λ j b. omega (arith, k.places (nth start v + j) (omega (arith, end)), k.last);
  }

  -- what is made from w, where w differs from w₀ only outside the channel and the messages from checks
  module _ (w₀ : List Float) (same : (i : ℕ) → (i < 256) → vector w i ≡ vector w₀ i) (from : (e : ℕ) → e < 512 → from_checks w e ≡ from_checks w₀ e) (p q : Vector)
      (e : q ≡ normalized p) where
    pub posterior_made : p ≡ gathered (degree_of start v) (place_of start col v) (from_checks w) (vector w v) → q ≡ posterior start col (vector w₀) (from_checks w₀) v
    unfolding posterior
    posterior_made g =
        e ∙ ap normalized g
        ∙ posterior_ext n start col k (vector w) (vector w₀) (from_checks w) (from_checks w₀) v h (same v (omega (arith, k.small))) (λ i b. from i (omega (arith, k.last)))

    pub to_check_made : (place : ℕ) → p ≡ gathered_without place (degree_of start v) (place_of start col v) (from_checks w) (vector w v)
        → q ≡ to_check start col (vector w₀) (from_checks w₀) v place
    unfolding to_check
    to_check_made place g =
        e ∙ ap normalized g
        ∙ to_check_ext n start col k (vector w) (vector w₀) (from_checks w) (from_checks w₀) v h (same v (omega (arith, k.small))) (λ i b. from i (omega (arith, k.last))) place
