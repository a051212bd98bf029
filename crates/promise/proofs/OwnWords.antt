-- Words by the calls: n symbols are a word exactly when they are the encoding of their own information symbols, and when checks_ok says so. Two codes with one graph have the
-- same ones.
-- Assumes nothing.
use Prim.Native.Nat.{ℕ}
use mathlib.Core.Path.{◌≡◌, sym, ap, subst, ◌∙◌}
use mathlib.Core.Logic.{◌↔◌}
use mathlib.Core.Bool.{Bool, true}
use mathlib.Core.List.{List}
use Rattle.std.specs.Prelude.{Result, Ok, Err}
use Rattle.calls.specs.declared.Refusal.{Refusal}
use Rattle.elimination.specs.Graph.{Graph}
use Rattle.elimination.specs.Held.{held}
use Rattle.lent.specs.Held.{Held}
use Rattle.lent.specs.LentCode.{NotRefused, graph_of}
use Rattle.words.specs.Encode.{encoded}
use Rattle.words.specs.InfoOf.{own_symbols}
use Rattle.words.specs.Word.{Symbols, Word}
use Rattle.words.proofs.Theorem.{words}
use Rattle.promise.specs.Calls.{Fit, Encodes, handed_back, OwnEncoding, checks_ok_answer}
use Rattle.promise.proofs.Calls.{encode_answers, checks_answer, own_symbols_lem, own_few}

module _ (l : Held) (ok : NotRefused l.code l.parts) (word symbols : List ℕ) (h pivots : ℕ) (fit : Fit l.code.n word symbols h pivots) where
  -- the calls give the encoding of the definition
  own_encoding : (x : List ℕ) → Symbols l.code.n x → OwnEncoding l h pivots word symbols x ↔ (x ≡ encoded l (own_symbols l x))
  own_encoding x y =
      let own = own_symbols l x in
      let e = own_symbols_lem l h pivots ok word symbols fit x y in
      let a = encode_answers l h pivots ok word symbols fit own (own_few l h pivots ok word symbols fit x y) in
      let b = subst (λ (u : List ℕ). Encodes l h pivots word u (encoded l own)) (sym e) a in
      (λ w. sym w.leaves ∙ b.leaves, λ q. subst (Encodes l h pivots word (handed_back l h pivots symbols x)) (sym q) b)

  pub own_word : (x : List ℕ) → Symbols l.code.n x → Word (graph_of l) x ↔ OwnEncoding l h pivots word symbols x
  own_word x y =
      let a = (words l.code l.parts ok).encodings x y in
      let b = own_encoding x y in
      (λ w. b.1 (a.0 w), λ w. a.1 (b.0 w))

  pub checked_word : (x : List ℕ) → Symbols l.code.n x → Word (graph_of l) x ↔ (checks_ok_answer l h pivots x ≡ Ok true)
  checked_word x y =
      let a = (words l.code l.parts ok).checked x y in
      let e = checks_answer l h pivots ok word symbols fit x y in
      (λ w. e ∙ ap Ok (a.0 w), λ q. a.1 (ap verdict (sym e ∙ q)))
    where
      verdict : Result Bool Refusal → Bool
      verdict (Ok b) = b
      verdict (Err r) = true

graph_n : (l d : Held) → graph_of l ≡ graph_of d → l.code.n ≡ d.code.n
unfolding held
graph_n l d e = ap (λ (g : Graph). g.n) e

-- two codes with one graph have the same words
pub one_graph : (l d : Held) → NotRefused l.code l.parts → NotRefused d.code d.parts → graph_of l ≡ graph_of d → (h pivots : ℕ) (word symbols : List ℕ) → Fit l.code.n word symbols h pivots
    → (x : List ℕ) → Symbols l.code.n x → OwnEncoding l h pivots word symbols x ↔ OwnEncoding d h pivots word symbols x
one_graph l d r q e h pivots word symbols fit x y =
    let n = graph_n l d e in
    let a = own_word l r word symbols h pivots fit x y in
    let b = own_word d q word symbols h pivots (subst (λ (k : ℕ). Fit k word symbols h pivots) n fit) x (subst (λ (k : ℕ). Symbols k x) n y) in
    (λ w. b.0 (subst (λ (g : Graph). Word g x) e (a.1 w)), λ w. a.0 (subst (λ (g : Graph). Word g x) (sym e) (b.1 w)))
