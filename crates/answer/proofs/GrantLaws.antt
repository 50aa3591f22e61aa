-- Strings put one behind the other, each with its zero byte.
use Rattle.std.specs.Prelude.{None, Option, Some, ℤ}
use Rattle.std.specs.Option.{option_map, IfSome}
use mathlib.Core.Path.{◌≡◌, refl, sym, ap, ◌∙◌}
use mathlib.Core.Bool.{Bool}
use mathlib.Core.List.{List, [], ◌∷◌, ◌++◌, flat_map, append-nil, append_assoc}
use Prim.Native.Nat.{ℕ, ◌+◌, ◌≤◌, ◌<◌}
use native.Mathlib.Omega.{arith}
use lib.ListN.{length, take, length-append, length-take}
use Rattle.text.specs.Buffer.{laid}
use Rattle.text.specs.Contract.{Wrote}
use Rattle.text.proofs.Laws.{clash}
use Rattle.text.proofs.Buffers.{laid_length, laid_append, wrote_done, wrote_length, done_up, up_full}
use Rattle.options.specs.Options.{Options, id_or, auth_or}
use Rattle.options.specs.Contract.{id_in, span_in}
use Rattle.options.specs.declared.span.Span.{Span}
use Rattle.options.specs.declared.ids.IdName.{IdName}
use Rattle.answer.specs.Meaning.{ended, count_told, granted_by}
use Rattle.answer.specs.declared.grant.StringEnds.{StringEnds}
use Rattle.answer.specs.declared.Granted.{Granted}
use Rattle.answer.specs.Contract.{Puts, string_ends}

-- a name has at most 64 bytes
pub id_short : (o : Option IdName) → IfSome o (λ n. length n.bytes ≡ 64) → length (id_or (option_map id_in o)) ≤ 64
unfolding id_in
id_short None h = omega arith
id_short (Some n) h = omega (arith, h, length-take n.size n.bytes)

-- what does not fit is no string that fits
pub put_full : {old mid : List ℕ} {n : ℕ} {xs : List ℕ} {r : Option ℕ} {A : Type 0} → Wrote old mid n xs r → r ≡ None → n + length xs ≤ length old → A
put_full {old} {mid} {n} {xs} w e h = clash (let k = up_full (length old) (n + length xs) (sym w.answer ∙ e) in omega arith)

-- the zero byte behind it
pub put_ended : {old mid new : List ℕ} {n m : ℕ} {xs : List ℕ} {r q : Option ℕ} → Wrote old mid n xs r → r ≡ Some m → Wrote mid new m (0 ∷ []) q → n + length xs < length old → Puts old new n xs q
put_ended {old} {mid} {new} {n} {m} {xs} w e v h =
    let d = wrote_done w e in
    let l = wrote_length w in
    let z : m + 1 ≡ n + length (ended xs) = omega (arith, d.1, length-append xs (0 ∷ [])) in
    record {
      bytes = v.bytes ∙ rw (d.1, w.bytes) (sym (laid_append old n xs (0 ∷ [])));
      end = v.answer ∙ sym (done_up (length mid) (m + 1) (omega (arith, d.1, l))) ∙ ap Some z;
    }

-- the buffer keeps its length
pub puts_length : {old new : List ℕ} {n : ℕ} {xs : List ℕ} {r : Option ℕ} → Puts old new n xs r → length new ≡ length old
puts_length {old} {new} {n} {xs} p = rw p.bytes (laid_length old n (ended xs))

-- a short string ends within 65 bytes
pub puts_short : {old new : List ℕ} {n : ℕ} {xs : List ℕ} {r : Option ℕ} → Puts old new n xs r → length xs ≤ 64 → IfSome r (λ k. k ≤ n + 65)
puts_short {n = n} {xs = xs} p h = rw p.end (omega (arith, h, length-append xs (0 ∷ [])))

-- a string that was put told the place behind it
pub puts_end : {old new : List ℕ} {n k : ℕ} {xs : List ℕ} {r : Option ℕ} → Puts old new n xs r → r ≡ Some k → k ≡ n + length (ended xs)
puts_end p e = let z = sym e ∙ p.end in cc

-- a string that was put was put
pub puts_some : {old new : List ℕ} {n : ℕ} {xs : List ℕ} {r : Option ℕ} {A : Type 0} → Puts old new n xs r → r ≡ None → A
puts_some p e = clash (let z = sym e ∙ p.end in cc)

-- five strings, one behind the other
module _ (old : List ℕ) where
  -- one string behind those that were put before
  puts_more : (xs : List ℕ) {mid new : List ℕ} {n : ℕ} {ys : List ℕ} {r : Option ℕ} → mid ≡ laid old 0 xs → n ≡ length xs → Puts mid new n ys r → new ≡ laid old 0 (xs ++ ended ys)
  puts_more xs {mid} {new} {n} {ys} e f p = let z : n ≡ 0 + length xs = omega (arith, f) in p.bytes ∙ rw (e, z) (sym (laid_append old 0 xs (ended ys)))

  pub puts_all : {m1 m2 m3 m4 new : List ℕ} {k1 k2 k3 k4 : ℕ} {r1 r2 r3 r4 r5 : Option ℕ} {p a b c d : List ℕ} → Puts old m1 0 p r1 → k1 ≡ 0 + length (ended p) → Puts m1 m2 k1 a r2 → k2 ≡ k1 + length (ended a) → Puts m2 m3 k2 b r3 → k3 ≡ k2 + length (ended b) → Puts m3 m4 k3 c r4 → k4 ≡ k3 + length (ended c) → Puts m4 new k4 d r5
      → new ≡ laid old 0 (flat_map ended (p ∷ a ∷ b ∷ c ∷ d ∷ []))
  unfolding flat_map
  puts_all {p = p} {a = a} {b = b} {c = c} {d = d} h1 l1 h2 l2 h3 l3 h4 l4 h5 =
      let e1 = puts_more (ended p) h1.bytes (omega (arith, l1)) h2 in
      let e2 = puts_more (ended p ++ ended a) e1 (omega (arith, l1, l2, length-append (ended p) (ended a))) h3 in
      let e3 = puts_more ((ended p ++ ended a) ++ ended b) e2 (omega (arith, l1, l2, l3, length-append (ended p) (ended a), length-append (ended p ++ ended a) (ended b))) h4 in
      let e4 = puts_more (((ended p ++ ended a) ++ ended b) ++ ended c) e3 (omega (arith, l1, l2, l3, l4, length-append (ended p) (ended a), length-append (ended p ++ ended a) (ended b), length-append ((ended p ++ ended a) ++ ended b) (ended c))) h5 in
      e4 ∙ ap (laid old 0) (rw (append-nil (ended d), append_assoc (((ended p ++ ended a) ++ ended b)) (ended c) (ended d), append_assoc (ended p ++ ended a) (ended b) (ended c ++ ended d), append_assoc (ended p) (ended a) (ended b ++ (ended c ++ ended d))))

-- a grant by its parts
abbrev pub granted : (line path uid euid gid egid : ℕ) → Bool → Option ℤ → Option Span → Granted
granted line p u e g f auth t n = record { line = line; path = p; uid = u; euid = e; gid = g; egid = f; auth = auth; timeout = t; nargs = n }

-- what is told of the options is what they hold
span_told : (n : Option Span) → n ≡ count_told (option_map span_in n)
span_told None = refl
span_told (Some s) = refl

pub told_grant : (path : List ℕ) (o : Options) (line : ℕ) {e : StringEnds} {y : Bool} {t : Option ℤ} {n : Option Span} → e ≡ string_ends path o → y ≡ auth_or o.auth → t ≡ o.timeout → option_map span_in n ≡ o.nargs
    → granted line e.path e.uid e.euid e.gid e.egid y t n ≡ granted_by line path o
unfolding granted_by
told_grant path o line {e} {y} {t} {n} h g i j = rw (h, g, i, span_told n, j)
