-- What a definition's name and text must be. Assumes nothing.
use Rattle.std.specs.Prelude.{Err, Ok}
use mathlib.Core.Path.{◌≡◌}
use mathlib.Core.List.{List}
use Prim.Native.Nat.{ℕ, ◌≤◌, ◌<◌}
use native.Mathlib.Omega.{arith}
use native.Mathlib.Decide.{dec_le}
use borrow.Author.Tests.{lt-leb}
use lib.ListN.{length}
use Rattle.text.proofs.Laws.{clash}
use Rattle.fault.specs.declared.Cause.TheVariants.{NameLength, TextLength}
use Rattle.variables.specs.Define.{define_name, define_text}

module _ (n : List ℕ) where
  pub long_name : 64 < length n → Err NameLength ≡ define_name n
  unfolding define_name
  long_name h = rw (lt-leb _ _ h)

module _ (t : List ℕ) where
  pub long_text : 256 < length t → Err TextLength ≡ define_text t
  unfolding define_text
  long_text h = rw (lt-leb _ _ h)

-- the sizes of what passed
pub name_short : (n : List ℕ) → Ok n ≡ define_name n → length n ≤ 64
name_short n e = elim (dec_le (length n) 64) [ yes h ↦ h | no h ↦ let f = long_name n (omega arith) in clash cc ]

pub text_short : (t : List ℕ) → Ok t ≡ define_text t → length t ≤ 256
text_short t e = elim (dec_le (length t) 256) [ yes h ↦ h | no h ↦ let f = long_text t (omega arith) in clash cc ]
