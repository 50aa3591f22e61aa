-- The laws of bytes put behind others. Assumes nothing.
use Rattle.std.specs.Prelude.{None, Option, Some}
use mathlib.Core.Path.{◌≡◌, sym}
use mathlib.Core.List.{List, [], ◌++◌, append-nil, append_assoc}
use Prim.Native.Nat.{ℕ}
use Rattle.text.specs.Contract.{Wrote}
use Rattle.text.proofs.Buffers.{wrote_then, wrote_full, wrote_as}
use Rattle.output.specs.Contract.{WroteAfter}

module _ {before : Option ℕ} {mid : List ℕ} where
  pub after_done : {new ys : List ℕ} {k : ℕ} {r : Option ℕ} → before ≡ Some k → Wrote mid new k ys r → WroteAfter before mid new ys r
  after_done e v = record { behind = λ old n xs w. wrote_then w e v }

  pub after_full : (ys : List ℕ) → before ≡ None → WroteAfter before mid mid ys None
  after_full ys e = record { behind = λ old n xs w. wrote_full w e ys }

  pub after_none : WroteAfter before mid mid [] before
  after_none = record { behind = λ old n xs w. wrote_as w (append-nil xs) }

module _ {before : Option ℕ} {mid new ys : List ℕ} {r : Option ℕ} (v : WroteAfter before mid new ys r) where
  -- then more is put behind it
  pub after_then : {last zs : List ℕ} {q : Option ℕ} → WroteAfter r new last zs q → WroteAfter before mid last (ys ++ zs) q
  after_then {last} {zs} u = record { behind = λ old n xs w. wrote_as (u.behind old n (xs ++ ys) (v.behind old n xs w)) (sym (append_assoc xs ys zs)) }

  -- the same bytes under another name
  pub after_as : {zs : List ℕ} → zs ≡ ys → WroteAfter before mid new zs r
  after_as e = rw e v
