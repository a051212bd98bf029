-- How many numbers a case has after the call's name: the call's arguments and then its answers, as the heads of the lists name them. Ours.
-- Assumes nothing.
use Rattle.std.specs.Prelude.{ℕ, ◌&&◌, Bool, nat_eq, nat_le}
use Rattle.replay.specs.declared.call.Call.{Call}
use Rattle.replay.specs.declared.call.Call.TheVariants.{Mul, Inv, Draws, EvenDegrees, New, Encode, InfoOf, ChecksOk, Degree, K, N, InfoPositions, PeelPicks, WithPeeledInfo, DecodeSoft, Decode, ListDecode, NFor, DegreesFor, CodeAt, Spread, BitsToSyms, EncodeBitsAt, EncodeBitsWith, EncodeBits, DecodeBitsPriorAt, DecodeBitsPriorFb, DecodeBitsPriorWith, DecodeBitsPrior, DecodeBits}

-- `draws` has its two arguments and then one draw to 16
abbrev pub takes : Call → ℕ → Bool
takes Mul count = nat_eq count 3
takes Inv count = nat_eq count 2
takes Draws count = nat_le 3 count && nat_le count 18
takes EvenDegrees count = nat_eq count 4
takes New count = nat_eq count 18
takes Encode count = nat_eq count 14
takes InfoOf count = nat_eq count 17
takes ChecksOk count = nat_eq count 16
takes Degree count = nat_eq count 12
takes K count = nat_eq count 11
takes N count = nat_eq count 11
takes InfoPositions count = nat_eq count 12
takes PeelPicks count = nat_eq count 14
takes WithPeeledInfo count = nat_eq count 17
takes DecodeSoft count = nat_eq count 19
takes Decode count = nat_eq count 18
takes ListDecode count = nat_eq count 22
takes NFor count = nat_eq count 3
takes DegreesFor count = nat_eq count 4
takes CodeAt count = nat_eq count 14
takes Spread count = nat_eq count 2
takes BitsToSyms count = nat_eq count 6
takes EncodeBitsAt count = nat_eq count 8
takes EncodeBitsWith count = nat_eq count 7
takes EncodeBits count = nat_eq count 6
takes DecodeBitsPriorAt count = nat_eq count 19
takes DecodeBitsPriorFb count = nat_eq count 18
takes DecodeBitsPriorWith count = nat_eq count 17
takes DecodeBitsPrior count = nat_eq count 16
takes DecodeBits count = nat_eq count 10
