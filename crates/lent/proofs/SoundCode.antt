-- What the refusals leave of a lent code, and elimination of its graph.
-- Assumes nothing.
use Prim.Native.Nat.{ℕ, ◌-◌, ◌≤◌}
use mathlib.Core.Path.{◌≡◌, sym, ap, ◌∙◌}
use mathlib.Core.Bool.{Bool, false}
use mathlib.Core.List.{List, [], ◌∷◌}
use native.Mathlib.Omega.{arith}
use lib.ListN.{length}
use Rattle.lists.specs.Entry.{nth}
use Rattle.std.specs.Prelude.{None}
use Rattle.calls.specs.declared.Refusal.{Refusal}
use Rattle.calls.specs.declared.Refusal.TheVariants.{Size, Length, Malformed, Misencoded}
use Rattle.calls.specs.Refusal.{first_of, misfits}
use Rattle.calls.proofs.Refusals.{Alike, pass, alike, fitting}
use Rattle.graph.specs.declared.Code.{Code}
use Rattle.graph.specs.Sizes.{too_large, code_lengths}
use Rattle.elimination.specs.Matrix.{matrix_of}
use Rattle.elimination.specs.Elimination.{infos}
use Rattle.graph.specs.Parts.{Parts}
use Rattle.elimination.specs.Encodable.{Encodable}
use Rattle.lent.specs.Malformed.{malformed}
use Rattle.lent.specs.Misencoded.{graph_in, reduced_in, misencoded}
use Rattle.lent.specs.LentCode.{NotRefused, matrix_lengths, code_refusals}
use Rattle.lent.specs.Sound.{IsSound, IsAccepted}
use Rattle.elimination.proofs.Eliminated.{Eliminated}
use Rattle.elimination.proofs.Infos.{infos_count}
use Rattle.lent.proofs.Fits.{lent_fits}
use Rattle.lent.proofs.Formed.{formed, unused_pass}
use Rattle.lent.proofs.Encoded.{formed_eliminated, formed_encodable, encoded}

module _ (c : Code) (p : Parts) where
  -- the tests, of which `rest` tells whether a part besides the code's has a wrong length
  abbrev bad : List (Bool × Refusal)
  bad = (malformed c p, Malformed) ∷ (misencoded c p, Misencoded) ∷ []

  abbrev tests : Bool → List (Bool × Refusal)
  tests rest = (too_large c.n c.m, Size) ∷ (misfits (code_lengths p) rest, Length) ∷ bad

  left : (rest : Bool) → first_of (tests rest) ≡ None → IsAccepted c p × (rest ≡ false)
  left rest e =
      let large = pass (too_large c.n c.m) Size ((misfits (code_lengths p) rest, Length) ∷ bad) e in
      let short = pass (misfits (code_lengths p) rest) Length bad large.1 in
      let wrong = pass (malformed c p) Malformed ((misencoded c p, Misencoded) ∷ []) short.1 in
      let other = pass (misencoded c p) Misencoded [] wrong.1 in
      let f = lent_fits c p rest large.0 short.0 in
      (record { sound = record { fits = f.0; formed = formed c p wrong.0; encoded = encoded c p other.0 }; unused = unused_pass c p wrong.0 }, f.1)

  pub accepted : NotRefused c p → IsAccepted c p
  accepted e = (left false e).0

  pub sound : NotRefused c p → IsSound c p
  sound e = (accepted e).sound

  -- and no call turns such a code down whose parts have their lengths
  pub call_passes : (h pivots : ℕ) (rest : Bool) → NotRefused c p → Alike (matrix_lengths h pivots) → rest ≡ false → first_of (code_refusals c p h pivots rest) ≡ None
  call_passes h pivots rest e a r = ap (λ (b : Bool). first_of (tests b)) (fitting (matrix_lengths h pivots) rest a r) ∙ e

  -- ---- of a call on a lent code; h and pivots are the lengths of its work parts

  module _ (h pivots : ℕ) (rest : Bool) (e : first_of (code_refusals c p h pivots rest) ≡ None) where
    whole : IsAccepted c p × (misfits (matrix_lengths h pivots) rest ≡ false)
    whole = left (misfits (matrix_lengths h pivots) rest) e

    pub passed : IsSound c p × (rest ≡ false)
    passed = (whole.0.sound, (alike (matrix_lengths h pivots) rest whole.1).1)

    -- and the work parts have their lengths
    pub work_fits : (h ≡ 65536) × (pivots ≡ 256)
    work_fits = let l = (alike (matrix_lengths h pivots) rest whole.1).0 in (l.0, l.1.0)

    pub not_refused : NotRefused c p
    not_refused = ap (λ (b : Bool). first_of (tests b)) (sym whole.1) ∙ e

  -- ---- elimination

  module _ (s : IsSound c p) where
    pub sound_encodable : Encodable c.n c.m p.var p.coef p.row p.order
    sound_encodable = formed_encodable c p s.formed s.fits

    pub sound_eliminated : Eliminated c.m c.n (nth p.order) (matrix_of (graph_in c p)) c.n (reduced_in c p)
    sound_eliminated = formed_eliminated c p s.formed

    pub sound_rows : c.rank ≤ c.m
    sound_rows = omega (arith, s.encoded.rank, sound_eliminated.rank_rows)

    pub sound_columns : c.rank ≤ c.n
    sound_columns = omega (arith, s.encoded.rank, infos_count sound_eliminated)

    pub sound_infos : length (infos c.n (reduced_in c p)) ≡ c.n - c.rank
    sound_infos = omega (arith, s.encoded.rank, infos_count sound_eliminated)
