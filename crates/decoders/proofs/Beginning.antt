-- A known count above the number of information positions counts as that number.
-- Assumes nothing.
use Prim.Native.Nat.{ℕ, ◌≤◌}
use mathlib.Core.Path.{◌≡◌, sym, ap, ◌∙◌}
use mathlib.Core.Bool.{Bool, false}
use mathlib.Core.List.{List}
use native.Mathlib.Omega.{arith}
use lib.Ieee.{Float}
use lib.ListN.{length}
use Rattle.lists.specs.Choice.{pick}
use Rattle.lists.proofs.Among.{false-among}
use Rattle.vectors.specs.Channel.{channel}
use Rattle.vectors.specs.KnownZero.{known_zero}
use Rattle.vectors.specs.Vector.{vector}
use Rattle.rounds.specs.Begin.{past_known, channels}

none_past : (positions : List ℕ) (known v : ℕ) → length positions ≤ known → past_known positions known v ≡ false
unfolding past_known
none_past positions known v h = false-among _ _ v (λ t l. absurd (omega arith))

pub channels_count : (positions : List ℕ) (metrics : List Float) (known v : ℕ) → length positions ≤ known
    → channels positions metrics (length positions) v ≡ channels positions metrics known v
unfolding channels
channels_count positions metrics known v h =
    ap (λ (b : Bool). pick b known_zero (channel (vector metrics v))) (none_past positions (length positions) v (omega arith) ∙ sym (none_past positions known v h))
