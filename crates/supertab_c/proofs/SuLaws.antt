-- The call on su files as a whole. Assumes nothing.
use mathlib.Core.Path.{◌≡◌}
use mathlib.Core.List.{List}
use Prim.Native.Nat.{ℕ, ◌≤◌}
use native.Mathlib.Omega.{arith}
use borrow.Author.Tests.{eq-eqb, ne_eqb}
use lib.IntN.{ℤ}
use lib.ListN.{length, set}
use Rattle.suauth.specs.declared.SuAnswer.{SuAnswer}
use Rattle.line.specs.Line.{table_limit}
use Rattle.suauth.specs.Answer.{told_of}
use Rattle.suauth.specs.Meaning.{Asked, answer_of}
use Rattle.supertab_c.specs.declared.su.SuTold.{SuTold}
use Rattle.supertab_c.specs.Report.{counted}
use Rattle.supertab_c.specs.Call.{short_report}
use Rattle.supertab_c.specs.Su.{su_told, su_called, su_call}
use Rattle.supertab_c.proofs.FigureLaws.{first_set}
use Rattle.supertab_c.proofs.SmallLaws.{counted_plain}
use Rattle.supertab_c.proofs.SuWithin.{su_small}
use mir.Syntax.{w64}
use mir.Val.{SFits, to_z, of_z}
use mir.ValLaws.{to_z-of_z}

module _ (file : List ℕ) (a : Asked) (r : List ℤ) where
  -- a report of no number is told first, and nothing is written
  pub su_short : length r ≡ 0 → su_called short_report r ≡ su_call file a r
  unfolding su_call
  su_short e = rw (eq-eqb (length r) 0 e)

  -- else the answer to the question from the file is told
  pub su_told_law : {x : SuAnswer} {t : SuTold} {z : ℤ} → (length r ≡ 0 → ⊥) → x ≡ answer_of file a → t ≡ su_told (told_of x) → SFits w64 z → z ≡ counted t.value → su_called t.number (set r 0 (to_z w64 (of_z w64 z))) ≡ su_call file a r
  unfolding su_call
  su_told_law {x} {t} {z} h e f s k =
      let m : t.value ≤ table_limit = rw (f, e) (su_small file a) in
      rw (to_z-of_z w64 z s, ne_eqb (length r) 0 h, ← e, ← f, first_set r z (omega arith), k, counted_plain t.value m)
