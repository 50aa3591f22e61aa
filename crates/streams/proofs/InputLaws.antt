-- Laws of what the readers tell.
use Rattle.std.specs.Prelude.{None, Option, Some}
use Rattle.std.proofs.Common.{◌≡◌, ℕ, List, sym, ap, ◌∙◌, subst, arith}
use Rattle.streams.specs.Contract.{IsPrefixLen, bytes_told, LoadedIn}

-- the bytes that are told are in the buffer
pub loaded_bytes : {buffer : List ℕ} {r : Option ℕ} {n : ℕ} → LoadedIn buffer r → r ≡ Some n → IsPrefixLen n buffer
loaded_bytes {buffer} {r} {n} l e = subst (λ (x : Option ℕ). IsPrefixLen (bytes_told x) buffer) e l.counted

-- one reading tells one number of bytes
pub same_bytes : {r : Option ℕ} {m n : ℕ} → r ≡ Some m → r ≡ Some n → m ≡ n
same_bytes e f = ap bytes_told (sym e ∙ f)

-- bytes that are told are no failure
pub no_failure : {A : Type 0} {r : Option ℕ} {n : ℕ} → r ≡ Some n → r ≡ None → A
no_failure {n = n} e f = let y : ◌≡◌ {A = Option ℕ} None (Some n) = sym f ∙ e in let z : ◌≡◌ {A = ℕ} 0 1 = cc in absurd (omega arith)
