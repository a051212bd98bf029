-- What calls on codes answer and leave, by the clauses of their contracts. "The encoding is what `encode` answers" (docs/PROMISE.md).
-- Assumes nothing.
use Rattle.std.specs.Prelude.{ℕ, ◌≡◌, Bool, List, Result, Ok, Err, ℤ, length, take}
use Rattle.calls.specs.declared.Refusal.{Refusal}
use Rattle.calls.specs.Refusal.{first_of, answered}
use Rattle.calls.specs.Parts.{written}
use Rattle.graph.specs.declared.Code.{Code}
use Rattle.graph.specs.Built.{built}
use Rattle.graph.specs.Descending.{descending}
use Rattle.graph.specs.New.{Work, numbers, new_refusals}
use Rattle.graph.specs.Parts.{Parts, parts}
use Rattle.lent.specs.Held.{Held}
use Rattle.lent.specs.LentCode.{graph_of}
use Rattle.words.specs.ChecksOk.{checks_ok_refusals}
use Rattle.words.specs.Encode.{encode_refusals, encoded}
use Rattle.words.specs.InfoOf.{info_of_refusals, own_symbols, own_part}
use Rattle.words.specs.Word.{all_satisfied}
use Rattle.peeling.specs.WithPeeledInfo.{peeled_refusals, peeled_code, peeled_parts}

-- lent parts of the right lengths: into `word` an encoding goes, into `symbols` information symbols; h and pivots are the lengths of the work parts
pub record Fit (n : ℕ) (word symbols : List ℕ) (h pivots : ℕ) : Type 0 where
  pub word_long : length word ≡ n
  pub symbols_long : length symbols ≡ n
  pub h_long : h ≡ 65536
  pub pivots_long : pivots ≡ 256

-- what `new` answers, which is lent the parts `given`
abbrev pub new_answer : ℕ → ℕ → ℕ → List ℕ → Parts → Work → Result Code Refusal
new_answer n m seed degrees given work = answered (first_of (new_refusals n m degrees given work)) (numbers (built n m degrees seed) (descending n))

-- it answers the numbers of the code d, and leaves its parts
pub record Builds (n m seed : ℕ) (degrees : List ℕ) (given : Parts) (work : Work) (d : Held) : Type 0 where
  pub accepts : new_answer n m seed degrees given work ≡ Ok d.code
  pub leaves : written (new_answer n m seed degrees given work) given (parts (built n m degrees seed) (descending n)) ≡ d.parts

module _ (l : Held) (h pivots : ℕ) where
  abbrev pub encode_answer : List ℕ → List ℕ → Result (Unit {0}) Refusal
  encode_answer word u = answered (first_of (encode_refusals l u (length word) h pivots)) tt

  -- encode accepts the symbols u, and leaves x in its word part
  pub record Encodes (word u x : List ℕ) : Type 0 where
    pub accepts : encode_answer word u ≡ Ok tt
    pub leaves : written (encode_answer word u) word (encoded l u) ≡ x

  abbrev pub info_of_answer : List ℕ → List ℕ → Result ℕ Refusal
  info_of_answer symbols x = answered (first_of (info_of_refusals l x (length symbols) h pivots)) (length (own_symbols l x))

  -- as many of its part as it answers
  abbrev pub handed : Result ℕ Refusal → List ℕ → List ℕ
  handed (Ok k) part = take k part
  handed (Err r) part = part

  -- the symbols that info_of hands back of x
  abbrev pub handed_back : List ℕ → List ℕ → List ℕ
  handed_back symbols x = handed (info_of_answer symbols x) (written (info_of_answer symbols x) symbols (own_part l x))

  -- "they are the encoding of their own information symbols"
  abbrev pub OwnEncoding : List ℕ → List ℕ → List ℕ → Type 0
  OwnEncoding word symbols x = Encodes word (handed_back symbols x) x

  abbrev pub checks_ok_answer : List ℕ → Result Bool Refusal
  checks_ok_answer x = answered (first_of (checks_ok_refusals l x h pivots)) (all_satisfied (graph_of l) x)

  abbrev pub peeled_answer : List ℤ → Result Code Refusal
  peeled_answer prefer = answered (first_of (peeled_refusals l.code l.parts prefer h pivots)) (peeled_code l.code l.parts prefer)

  -- with_peeled_info answers the numbers of the code d, and leaves its parts
  pub record Peels (prefer : List ℤ) (d : Held) : Type 0 where
    pub accepts : peeled_answer prefer ≡ Ok d.code
    pub leaves : written (peeled_answer prefer) l.parts (peeled_parts l.code l.parts prefer) ≡ d.parts
