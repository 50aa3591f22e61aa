-- The laws of what is printed for a file that is checked, by the answer. Assumes nothing.
use Rattle.std.specs.Prelude.{Option}
use mathlib.Core.Path.{◌≡◌, refl}
use mathlib.Core.List.{List, [], ◌∷◌}
use Prim.Native.Nat.{ℕ}
use Rattle.text.specs.Bytes.{bytes}
use Rattle.text.specs.Contract.{Wrote}
use Rattle.suauth.specs.declared.SuAnswer.{SuAnswer}
use Rattle.suauth.specs.declared.SuAnswer.TheVariants.{Deny, NoPassword, OwnPassword, NoRule, MalformedQuestion, LongFile, RefusedByte, CutShort, MalformedLine}
use Rattle.suauth.specs.contracts.SuAnswer.{the_type}
use Rattle.output.specs.Contract.{WroteAfter}
use Rattle.explain.specs.Explained.{refusal_at, place_in, shown_name}
use Rattle.su_console.specs.Words.{su_refused_byte_words, su_cut_short_words, malformed_line_words}
use Rattle.su_console.specs.Explained.{su_finding, su_explained}
use types.Run.{OneOf, miss}
use denote.Enum.Declared.{tag_of}

-- the name, and what stands behind it
pub explained_by : {old mid new ys : List ℕ} {before r : Option ℕ} (name t : List ℕ) (a : SuAnswer) → Wrote old mid 0 (shown_name name) before → WroteAfter before mid new ys r → su_finding t a ≡ ys → Wrote old new 0 (su_explained name t a) r
unfolding su_explained
explained_by name t a w v e = rw e (v.behind _ _ _ w)

-- what stands there by the answer
module _ (t : List ℕ) {a : SuAnswer} {p : ℕ} where
  pub finding_byte : a ≡ RefusedByte p → su_finding t a ≡ refusal_at t (place_in t p) 12 su_refused_byte_words
  unfolding su_finding
  finding_byte e = rw e

  pub finding_cut : a ≡ CutShort p → su_finding t a ≡ refusal_at t (place_in t p) 13 su_cut_short_words
  unfolding su_finding
  finding_cut e = rw e

  pub finding_line : a ≡ MalformedLine p → su_finding t a ≡ refusal_at t (place_in t p) 14 malformed_line_words
  unfolding su_finding
  finding_line e = rw e

-- the tags of the decisions
abbrev pub decisions : List ℕ
decisions = 0 ∷ 1 ∷ 2 ∷ 3 ∷ []

pub finding_ok : (t : List ℕ) (a : SuAnswer) → OneOf decisions (tag_of the_type a) → su_finding t a ≡ bytes ": ok\n"
unfolding su_finding
finding_ok t (Deny l) h = refl
finding_ok t (NoPassword l) h = refl
finding_ok t (OwnPassword l) h = refl
finding_ok t NoRule h = refl
finding_ok t MalformedQuestion h = absurd (miss decisions 4 tt h)
finding_ok t LongFile h = absurd (miss decisions 5 tt h)
finding_ok t (RefusedByte p) h = absurd (miss decisions 6 tt h)
finding_ok t (CutShort p) h = absurd (miss decisions 7 tt h)
finding_ok t (MalformedLine p) h = absurd (miss decisions 8 tt h)
