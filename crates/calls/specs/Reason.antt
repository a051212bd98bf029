-- What is printed of a refusal: a few words for each of document 01's numbers. Ours.
-- Assumes nothing.
use Rattle.std.specs.Prelude.{ℕ, List, codes}
use Rattle.calls.specs.declared.Refusal.{Refusal}
use Rattle.calls.specs.declared.Refusal.TheVariants.{RateOrLayout, Size, Length, DegreeSum, DegreeTooHigh, Malformed, Misencoded, Value, WideCheck, NoWord, Padding}

abbrev pub reason : Refusal → List ℕ
reason RateOrLayout = codes "no such rate, layout or fallback"
reason Size = codes "more than 256 symbols or checks"
reason Length = codes "a part of the wrong length"
reason DegreeSum = codes "degrees that sum to more than 512"
reason DegreeTooHigh = codes "a degree above the number of checks"
reason Malformed = codes "the parts hold no graph with a column order"
reason Misencoded = codes "the encoder is not that of the graph and order"
reason Value = codes "a value out of its range"
reason WideCheck = codes "a check of more than 32 edges"
reason NoWord = codes "rounds that ended without a word"
reason Padding = codes "padding bits that are not zero"
