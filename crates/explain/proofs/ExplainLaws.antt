-- The laws of what is printed: the pieces that the functions put one behind the other are those of the definitions.
use Rattle.std.specs.Prelude.{Option, Some}
use mathlib.Core.Path.{◌≡◌, refl}
use mathlib.Core.List.{List, [], ◌∷◌, ◌++◌, map}
use Prim.Native.Nat.{ℕ, suc, ◌+◌, ◌-◌}
use native.Mathlib.Omega.{arith}
use lib.ListN.{take, drop}
use Rattle.text.specs.Bytes.{bytes}
use Rattle.text.specs.Contract.{lead, Wrote}
use Rattle.text.proofs.Buffers.{wrote_none}
use Rattle.fault.specs.Fault.{number_of}
use Rattle.fault.specs.declared.Cause.{Cause}
use Rattle.answer.specs.declared.Answer.{Answer}
use Rattle.answer.specs.declared.Answer.TheVariants.{Permit, Password, NoEntry, StoppedByNargs, StoppedByArgument, StoppedByPath, MalformedQuestion, LongTable, RefusedByte, CutShort, RefusedLine, SmallBuffer}
use Rattle.answer.specs.contracts.Answer.{the_type}
use types.Run.{OneOf, miss}
use denote.Enum.Declared.{tag_of}
use Rattle.output.specs.Contract.{WroteAfter}
use Rattle.output.specs.Decimal.{decimal}
use Rattle.explain.specs.Place.{line_number, line_start, line_end, column, physical_line, line_front}
use Rattle.explain.specs.Words.{words_of, refused_byte_words, cut_short_words}
use Rattle.explain.specs.Explained.{shown_in, rows, position, refused, refusal, refusal_at, finding, explained, place_in, shown_name, ok_for}
use Rattle.explain.specs.declared.row.Row.TheVariants.{Line, Caret, Name}

module _ (t : List ℕ) (p start : ℕ) (e : start ≡ line_start t p) where
  pub rows_are : (end : ℕ) → end ≡ p + lead 10 (drop p t) → rows t p ≡ map (shown_in Line) (take (end - start) (drop start t)) ++ bytes "\n" ++ map (shown_in Caret) (take (p - start) (drop start t)) ++ bytes "^\n"
  unfolding rows physical_line line_front line_end
  rows_are end f = rw (e, f)

  pub position_is : (number : ℕ) → number ≡ line_number t p → position t p ≡ bytes ":" ++ decimal number ++ bytes ":" ++ decimal (p - start + 1)
  unfolding position column
  position_is number f = let z : p - line_start t p + 1 ≡ suc (p - line_start t p) = omega arith in rw (e, f, z)

pub refused_is : (n : ℕ) {m : ℕ} → m ≡ n → refused n ≡ bytes ": refused " ++ decimal m ++ bytes ": "
unfolding refused
refused_is n e = rw e

pub refusal_is : (n : ℕ) (words : List ℕ) → refusal n words ≡ refused n ++ words ++ bytes "\n"
unfolding refusal
refusal_is n words = refl

pub refusal_at_is : (t : List ℕ) (p n : ℕ) (words : List ℕ) {at : ℕ} → at ≡ place_in t p → refusal_at t (place_in t p) n words ≡ position t at ++ refusal n words ++ rows t at
unfolding refusal_at
refusal_at_is t p n words e = rw e

-- the name, and what stands behind it
pub explained_by : {old mid new ys : List ℕ} {before r : Option ℕ} (name q t : List ℕ) (a : Answer) → Wrote old mid 0 (shown_name name) before → WroteAfter before mid new ys r → finding q t a ≡ ys → Wrote old new 0 (explained name q t a) r
unfolding explained
explained_by name q t a w v e = rw e (v.behind _ _ _ w)

-- a name put as it is shown
pub name_put : {old new : List ℕ} {r : Option ℕ} (name : List ℕ) → WroteAfter (Some 0) old new (map (shown_in Name) name) r → Wrote old new 0 (shown_name name) r
unfolding shown_name
name_put {old} name v = v.behind old 0 [] (wrote_none old 0 (omega arith))

pub ok_is : (q : List ℕ) → ok_for q ≡ bytes ": ok for \"" ++ map (shown_in Name) q ++ bytes "\"\n"
unfolding ok_for shown_name
ok_is q = refl

-- what stands there by the answer
module _ (q t : List ℕ) {a : Answer} {p : ℕ} where
  pub finding_byte : a ≡ RefusedByte p → finding q t a ≡ refusal_at t (place_in t p) 12 refused_byte_words
  unfolding finding
  finding_byte e = rw e

  pub finding_cut : a ≡ CutShort p → finding q t a ≡ refusal_at t (place_in t p) 13 cut_short_words
  unfolding finding
  finding_cut e = rw e

  pub finding_line : {c : Cause} {n : ℕ} {words : List ℕ} → n ≡ number_of c → words ≡ words_of c → a ≡ RefusedLine c p → finding q t a ≡ refusal_at t (place_in t p) n words
  unfolding finding
  finding_line h k e = rw (e, h, k)

-- the tags of the decisions
abbrev pub decisions : List ℕ
decisions = 0 ∷ 1 ∷ 2 ∷ 3 ∷ 4 ∷ 5 ∷ []

pub finding_ok : (q t : List ℕ) (a : Answer) → OneOf decisions (tag_of the_type a) → finding q t a ≡ ok_for q
unfolding finding
finding_ok q t (Permit g) h = refl
finding_ok q t (Password g) h = refl
finding_ok q t NoEntry h = refl
finding_ok q t (StoppedByNargs l) h = refl
finding_ok q t (StoppedByArgument l) h = refl
finding_ok q t (StoppedByPath l) h = refl
finding_ok q t MalformedQuestion h = absurd (miss decisions 6 tt h)
finding_ok q t LongTable h = absurd (miss decisions 7 tt h)
finding_ok q t (RefusedByte p) h = absurd (miss decisions 8 tt h)
finding_ok q t (CutShort p) h = absurd (miss decisions 9 tt h)
finding_ok q t (RefusedLine c p) h = absurd (miss decisions 10 tt h)
finding_ok q t SmallBuffer h = absurd (miss decisions 11 tt h)
