-- What is printed of a list that is not replayed, and of an answer that differs. Ours.
-- Assumes nothing.
use Rattle.std.specs.Prelude.{ℕ, List, ◌++◌, [], codes, decimal}
use Rattle.replay.specs.declared.answers.Answer.{Answer}
use Rattle.replay.specs.declared.answers.Label.{Label}
use Rattle.replay.specs.declared.answers.Label.TheVariants.{Only, Draw, Is, Digest, WorkPart}
use Rattle.replay.specs.declared.list.ListError.{ListError}
use Rattle.replay.specs.declared.list.ListError.TheVariants.{NotOpened, NotRead, TooLong}

abbrev pub error_text : ListError → List ℕ
error_text NotOpened = codes "cannot be opened"
error_text NotRead = codes "cannot be read"
error_text TooLong = codes "longer than " ++ decimal 65536 ++ codes " bytes"

-- which of a call's answers it is
abbrev pub label_text : Label → List ℕ
label_text Only = []
label_text (Draw place) = codes ", draw " ++ decimal place
label_text (Is what) = codes ", " ++ what.now
label_text (Digest part) = codes ", digest of " ++ part.now
label_text (WorkPart part) = codes ", digest of the work part " ++ part.now

abbrev pub answer_text : Answer → List ℕ
answer_text a = label_text a.label ++ codes " is " ++ decimal a.ours ++ codes ", the list has " ++ decimal a.listed
