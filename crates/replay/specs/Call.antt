-- The names of the calls, as a case and a tally have them. Ours.
-- Assumes nothing.
use Rattle.std.specs.Prelude.{ℕ, List, codes}
use Rattle.replay.specs.declared.call.Call.{Call}
use Rattle.replay.specs.declared.call.Call.TheVariants.{Mul, Inv, Draws, EvenDegrees, New, Encode, InfoOf, ChecksOk, Degree, K, N, InfoPositions, PeelPicks, WithPeeledInfo, DecodeSoft, Decode, ListDecode, NFor, DegreesFor, CodeAt, Spread, BitsToSyms, EncodeBitsAt, EncodeBitsWith, EncodeBits, DecodeBitsPriorAt, DecodeBitsPriorFb, DecodeBitsPriorWith, DecodeBitsPrior, DecodeBits}

abbrev pub name_of : Call → List ℕ
name_of Mul = codes "mul"
name_of Inv = codes "inv"
name_of Draws = codes "draws"
name_of EvenDegrees = codes "even_degrees"
name_of New = codes "new"
name_of Encode = codes "encode"
name_of InfoOf = codes "info_of"
name_of ChecksOk = codes "checks_ok"
name_of Degree = codes "degree"
name_of K = codes "k"
name_of N = codes "n"
name_of InfoPositions = codes "info_positions"
name_of PeelPicks = codes "peel_picks"
name_of WithPeeledInfo = codes "with_peeled_info"
name_of DecodeSoft = codes "decode_soft"
name_of Decode = codes "decode"
name_of ListDecode = codes "list_decode"
name_of NFor = codes "n_for"
name_of DegreesFor = codes "degrees_for"
name_of CodeAt = codes "code_at"
name_of Spread = codes "spread"
name_of BitsToSyms = codes "bits_to_syms"
name_of EncodeBitsAt = codes "encode_bits_at"
name_of EncodeBitsWith = codes "encode_bits_with"
name_of EncodeBits = codes "encode_bits"
name_of DecodeBitsPriorAt = codes "decode_bits_prior_at"
name_of DecodeBitsPriorFb = codes "decode_bits_prior_fb"
name_of DecodeBitsPriorWith = codes "decode_bits_prior_with"
name_of DecodeBitsPrior = codes "decode_bits_prior"
name_of DecodeBits = codes "decode_bits"
