-- The state before the first round: "begun as the source begins them". Document 01, "Words of the third demand"; nb.rs, `decode_soft`, before its rounds.
-- Assumes nothing.
use Rattle.std.specs.Prelude.{ℕ, ◌+◌, ◌-◌, Bool, List, Float, length}
use Rattle.lists.specs.Among.{among}
use Rattle.lists.specs.Choice.{pick}
use Rattle.lists.specs.Entry.{nth}
use Rattle.vectors.specs.Vector.{Vector, vector}
use Rattle.vectors.specs.Channel.{channel}
use Rattle.vectors.specs.KnownZero.{known_zero}
use Rattle.rounds.specs.Tanner.{Tanner}
use Rattle.rounds.specs.Round.{State}

-- "Past the known count .. lie the later information positions": whether v is one of them
unfoldable pub past_known : List ℕ → ℕ → ℕ → Bool
past_known positions known v = among (length positions - known) (λ t. nth positions (known + t)) v

-- the channel vector of variable v: by its metrics, but for known zeros
unfoldable pub channels : List ℕ → List Float → ℕ → ℕ → Vector
channels positions metrics known v = pick (past_known positions known v) known_zero (channel (vector metrics v))

-- the first messages to checks are the channel vectors as they are
unfoldable pub begin : Tanner → List ℕ → List Float → ℕ → State
begin t positions metrics known = record {
  channel = channels positions metrics known;
  messages = λ e. channels positions metrics known (nth t.var e);
}
