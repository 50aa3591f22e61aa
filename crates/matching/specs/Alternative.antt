-- One alternative of a user or group condition (01: "parted at its first `@` outside a set and not after a backslash").
use Rattle.std.specs.Prelude.{ℕ, Bool, true, false, not, cond, ◌&&◌, ◌||◌, List, [], ◌∷◌, None, Option, Some}
use Rattle.text.specs.Bytes.{byte, is}
use Rattle.text.specs.Lists.{null, has, onto}
use Rattle.text.specs.Slice.{head_is}
use Rattle.matching.specs.declared.alternative.ByteContext.{ByteContext}
use Rattle.matching.specs.declared.alternative.ByteContext.TheVariants.{Free, Escaped, InSet}

-- the pattern of the name, and that of the host if there is one
pub record Alternative : Type 0 where
  pub name : List ℕ
  pub host : Option (List ℕ)

-- what a byte makes of the one behind it
unfoldable pub context_after : ByteContext → ℕ → ByteContext
context_after Free c = cond (is "\\" c) Escaped (cond (is "[" c) InSet Free)
context_after Escaped c = Free
context_after InSet c = cond (is "]" c) Free InSet

-- an `@` that parts
unfoldable pub parts_at : ByteContext → ℕ → Bool
parts_at Free c = is "@" c
parts_at Escaped c = false
parts_at InSet c = false

-- a byte that parts ends a part, any other belongs to it
abbrev pub parted_by : Bool → ℕ → List (List ℕ) → List (List ℕ)
parted_by true c ps = [] ∷ ps
parted_by false c ps = onto c ps

-- the parts between the `@`s that part
unfoldable pub parts_of : ByteContext → List ℕ → List (List ℕ)
unfolding context_after parts_at
parts_of w [] = [] ∷ []
parts_of w (c ∷ s) = parted_by (parts_at w c) c (parts_of (context_after w c) s)

-- 01: an empty part, a part that begins with `!` is malformed
unfoldable pub good_part : List ℕ → Bool
unfolding head_is
good_part p = not (null p) && not (head_is (byte "!") p)

-- 01: a second such `@` is malformed
abbrev pub from_parts : List (List ℕ) → Option Alternative
from_parts [] = None
from_parts (n ∷ []) = cond (good_part n) (Some record { name = n; host = None }) None
from_parts (n ∷ h ∷ []) = cond (good_part n && good_part h) (Some record { name = n; host = Some h }) None
from_parts (n ∷ h ∷ x ∷ ps) = None

-- 01: any colon or any `~` is malformed
unfoldable pub alternative_of : List ℕ → Option Alternative
unfolding has parts_of good_part
alternative_of a = cond (has (byte ":") a || has (byte "~") a) None (from_parts (parts_of Free a))
