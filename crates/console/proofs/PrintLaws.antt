-- The laws of the printed line: which text an answer's number chooses. Assumes nothing.
use Rattle.std.specs.Prelude.{None, Option, Some}
use mathlib.Core.Path.{◌≡◌, refl, ◌∙◌}
use mathlib.Core.Bool.{cond}
use mathlib.Core.List.{List, [], ◌++◌}
use Prim.Native.Nat.{ℕ, ◌≤◌, ◌<◌}
use native.Mathlib.Omega.{arith}
use borrow.Author.Tests.{lt-leb, le-leb, ne_eqb}
use lib.Dec.{eqb, leb}
use Rattle.text.specs.Bytes.{bytes}
use Rattle.fault.specs.Fault.{number_of}
use Rattle.fault.proofs.Numbers.{cause_number}
use Rattle.answer.specs.declared.Granted.{Granted}
use Rattle.answer.specs.declared.Answer.{Answer}
use Rattle.answer.specs.declared.Answer.TheVariants.{Permit, Password, NoEntry, StoppedByNargs, StoppedByArgument, StoppedByPath, MalformedQuestion, LongTable, RefusedByte, CutShort, RefusedLine, SmallBuffer}
use Rattle.answer.specs.Answer.{string_in, grant_in, told_of}
use Rattle.output.specs.Decimal.{decimal}
use Rattle.console.specs.Printed.{id_text, permit_word, grant_text, stop_text, refusal_text, printed}
use Rattle.console.specs.Contract.{grant_beside, number_beside}

-- the text that a number chooses
abbrev granted_text : ℕ → List ℕ → Option Granted → List ℕ
granted_text number b None = []
granted_text number b (Some g) = grant_text (permit_word number) (grant_in b g)

abbrev text_for : ℕ → List ℕ → Option Granted → ℕ → List ℕ
text_for number b grant place =
    cond (leb number 1) (granted_text number b grant)
    (cond (leb number 5) (cond (eqb number 2) (bytes "none\n") (stop_text number place))
    (refusal_text number place))

by_number : (a : Answer) (b : List ℕ) → printed (told_of a b) ≡ text_for (told_of a b).number b (grant_beside a) (number_beside a)
unfolding printed told_of
by_number (Permit g) b = refl
by_number (Password g) b = refl
by_number NoEntry b = refl
by_number (StoppedByNargs l) b = refl
by_number (StoppedByArgument l) b = refl
by_number (StoppedByPath l) b = refl
by_number MalformedQuestion b = refl
by_number LongTable b = refl
by_number (RefusedByte p) b = refl
by_number (CutShort p) b = refl
by_number (RefusedLine c p) b =
    let k = (cause_number c).0 in
    let h : 1 < number_of c = omega arith in
    let j : 5 < number_of c = omega arith in
    rw (lt-leb (number_of c) 1 h, lt-leb (number_of c) 5 j)
by_number SmallBuffer b = refl

-- only above 1 nothing is granted
pub without_grant : (a : Answer) (b : List ℕ) → None ≡ grant_beside a → 1 < (told_of a b).number
unfolding told_of
without_grant (Permit g) b h = absurd cc
without_grant (Password g) b h = absurd cc
without_grant NoEntry b h = omega arith
without_grant (StoppedByNargs l) b h = omega arith
without_grant (StoppedByArgument l) b h = omega arith
without_grant (StoppedByPath l) b h = omega arith
without_grant MalformedQuestion b h = omega arith
without_grant LongTable b h = omega arith
without_grant (RefusedByte p) b h = omega arith
without_grant (CutShort p) b h = omega arith
without_grant (RefusedLine c p) b h = omega (arith, (cause_number c).0)
without_grant SmallBuffer b h = omega arith

-- the line of an answer whose number is n
module _ (a : Answer) (b : List ℕ) (n : ℕ) (e : n ≡ (told_of a b).number) where
  chosen_text : printed (told_of a b) ≡ text_for n b (grant_beside a) (number_beside a)
  chosen_text = by_number a b ∙ rw e

  pub permit_text : (g : Granted) → Some g ≡ grant_beside a → n ≡ 0 → printed (told_of a b) ≡ grant_text (bytes "permit ") (grant_in b g)
  permit_text g h z = chosen_text ∙ rw (z, ← h)

  pub password_text : (g : Granted) → Some g ≡ grant_beside a → n ≡ 1 → printed (told_of a b) ≡ grant_text (bytes "password ") (grant_in b g)
  password_text g h z = chosen_text ∙ rw (z, ← h)

  pub none_text : n ≡ 2 → printed (told_of a b) ≡ bytes "none\n"
  none_text z = chosen_text ∙ rw z

  pub stopped_text : 2 < n → n ≤ 5 → printed (told_of a b) ≡ stop_text n (number_beside a)
  stopped_text h k =
      let i : 1 < n = omega arith in
      let j : n ≡ 2 → ⊥ = λ q. omega arith in
      chosen_text ∙ rw (lt-leb n 1 i, le-leb n 5 k, ne_eqb n 2 j)

  pub refused_text : 5 < n → printed (told_of a b) ≡ refusal_text n (number_beside a)
  refused_text h = let i : 1 < n = omega arith in chosen_text ∙ rw (lt-leb n 1 i, lt-leb n 5 h)

-- the line of a permit, by strings that are those of the buffer
pub grant_text_law : (word b : List ℕ) (g : Granted) (path uid euid gid egid : List ℕ) → path ≡ string_in b 0 g.path → uid ≡ string_in b g.path g.uid → euid ≡ string_in b g.uid g.euid → gid ≡ string_in b g.euid g.gid → egid ≡ string_in b g.gid g.egid
    → grant_text word (grant_in b g) ≡ word ++ decimal g.line ++ bytes " " ++ path ++ id_text (bytes " uid=") uid ++ id_text (bytes " euid=") euid ++ id_text (bytes " gid=") gid ++ id_text (bytes " egid=") egid ++ bytes "\n"
unfolding grant_text grant_in
grant_text_law word b g path uid euid gid egid p q r s t = rw (p, q, r, s, t)
