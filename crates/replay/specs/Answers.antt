-- Our answers beside what the list has. The list has no work part: by the number that a call answers, 1 to 3 leave it as it was lent, the others clear it. Ours.
-- Assumes nothing.
use Rattle.std.specs.Prelude.{ℕ, ◌||◌, ◌++◌, List, Result, Ok, Err, nat_eq, if◌then◌else◌, map, slice_index}
use Rattle.std.specs.List.{zip, range_with_len}
use Rattle.calls.specs.declared.Refusal.{Refusal}
use Rattle.replay.specs.declared.answers.Answer.{Answer}
use Rattle.replay.specs.declared.answers.Found.{Found}
use Rattle.replay.specs.declared.answers.Label.TheVariants.{Draw, WorkPart as WorkPartLabel}
use Rattle.replay.specs.declared.answers.WorkPart.{WorkPart}
use Rattle.replay.specs.declared.digest.WorkKind.{WorkKind}
use Rattle.replay.specs.Digest.{digest_of}
use Rattle.replay.specs.Work.{as_lent, as_cleared}

-- the number of what a call finds, 0 where it is turned down
abbrev pub number_found : {A : Type 0} → (A → ℕ) → Result A Refusal → ℕ
number_found number (Ok found) = number found
number_found number (Err r) = 0

-- draws, the first at place 1
abbrev pub draws_found : List ℕ → List Found
draws_found draws = map (λ p. record { label = Draw p.0; ours = p.1 }) (zip (range_with_len 1 16) draws)

abbrev pub found_beside : Found → ℕ → Answer
found_beside f listed = record { label = f.label; ours = f.ours; listed = listed }

-- a work part after a call that answers this number
abbrev pub left : ℕ → WorkKind → List ℕ
left number kind = if nat_eq number 1 || nat_eq number 2 || nat_eq number 3 then as_lent kind else as_cleared kind

abbrev pub work_beside : ℕ → WorkPart → Answer
work_beside number w = record { label = WorkPartLabel w.name; ours = w.ours; listed = digest_of (left number w.kind) }

-- what was found beside what is listed, and then the work parts of a call that answers this number
abbrev pub lay : List Found → List WorkPart → List ℕ → ℕ → List Answer
lay found work listed number = map (λ p. found_beside p.0 p.1) (zip found listed) ++ map (work_beside number) work

-- The number is the first that is listed.
abbrev pub beside : List Found → List WorkPart → List ℕ → List Answer
beside found work listed = lay found work listed (slice_index listed 0)
