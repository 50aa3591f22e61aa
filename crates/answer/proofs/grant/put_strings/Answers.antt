use mathlib.Core.Path.{◌≡◌, refl}
use mathlib.Core.List.{[], ◌∷◌}
use Prim.Native.Nat.{◌≤◌}
use native.Mathlib.Omega.{arith}
use lib.ListN.{length, length-append}
use Rattle.answer.specs.Meaning.{ended, strings}
use Rattle.answer.proofs.GrantLaws.{puts_length, puts_end, puts_some, puts_all}
use Rattle.answer.proofs.grant.put_strings.Goals as goal

pub returns-in_err-end : goal.returns-in_err-end
returns-in_err-end c = λ g k.
    puts_some (c.in_err-end.ensures (omega (arith, g, k))) refl

pub returns-in_err-uid : goal.returns-in_err-uid
returns-in_err-uid c = λ g k.
    let h1 = c.in_ok-end.ensures (omega (arith, g, k)) in
    let l1 = puts_length h1 in
    let e1 : c.in_ok-end.end ≡ length (ended c.args.path.now) = omega (arith, puts_end h1 refl) in
    let m1 : c.in_ok-end.end ≤ 1025 = omega (arith, e1, k, length-append c.args.path.now (0 ∷ [])) in
    puts_some (c.in_err-uid.ensures (omega (arith, g, m1, l1))).0 refl

pub returns-in_err-euid : goal.returns-in_err-euid
returns-in_err-euid c = λ g k.
    let h1 = c.in_ok-end.ensures (omega (arith, g, k)) in
    let l1 = puts_length h1 in
    let e1 : c.in_ok-end.end ≡ length (ended c.args.path.now) = omega (arith, puts_end h1 refl) in
    let m1 : c.in_ok-end.end ≤ 1025 = omega (arith, e1, k, length-append c.args.path.now (0 ∷ [])) in
    let h2 = c.in_ok-uid.ensures (omega (arith, g, m1, l1)) in
    let l2 = puts_length h2.0 in
    let e2 = puts_end h2.0 refl in
    let m2 = h2.1 in
    puts_some (c.in_err-euid.ensures (omega (arith, g, m1, m2, l1, l2))).0 refl

pub returns-in_err-gid : goal.returns-in_err-gid
returns-in_err-gid c = λ g k.
    let h1 = c.in_ok-end.ensures (omega (arith, g, k)) in
    let l1 = puts_length h1 in
    let e1 : c.in_ok-end.end ≡ length (ended c.args.path.now) = omega (arith, puts_end h1 refl) in
    let m1 : c.in_ok-end.end ≤ 1025 = omega (arith, e1, k, length-append c.args.path.now (0 ∷ [])) in
    let h2 = c.in_ok-uid.ensures (omega (arith, g, m1, l1)) in
    let l2 = puts_length h2.0 in
    let e2 = puts_end h2.0 refl in
    let m2 = h2.1 in
    let h3 = c.in_ok-euid.ensures (omega (arith, g, m1, m2, l1, l2)) in
    let l3 = puts_length h3.0 in
    let e3 = puts_end h3.0 refl in
    let m3 = h3.1 in
    puts_some (c.in_err-gid.ensures (omega (arith, g, m1, m2, m3, l1, l2, l3))).0 refl

pub returns-in_err-egid : goal.returns-in_err-egid
returns-in_err-egid c = λ g k.
    let h1 = c.in_ok-end.ensures (omega (arith, g, k)) in
    let l1 = puts_length h1 in
    let e1 : c.in_ok-end.end ≡ length (ended c.args.path.now) = omega (arith, puts_end h1 refl) in
    let m1 : c.in_ok-end.end ≤ 1025 = omega (arith, e1, k, length-append c.args.path.now (0 ∷ [])) in
    let h2 = c.in_ok-uid.ensures (omega (arith, g, m1, l1)) in
    let l2 = puts_length h2.0 in
    let e2 = puts_end h2.0 refl in
    let m2 = h2.1 in
    let h3 = c.in_ok-euid.ensures (omega (arith, g, m1, m2, l1, l2)) in
    let l3 = puts_length h3.0 in
    let e3 = puts_end h3.0 refl in
    let m3 = h3.1 in
    let h4 = c.in_ok-gid.ensures (omega (arith, g, m1, m2, m3, l1, l2, l3)) in
    let l4 = puts_length h4.0 in
    let e4 = puts_end h4.0 refl in
    let m4 = h4.1 in
    puts_some (c.in_err-egid.ensures (omega (arith, g, m1, m2, m3, m4, l1, l2, l3, l4))).0 refl

pub returns : goal.returns
unfolding strings
returns c = λ g k.
    let h1 = c.in_ok-end.ensures (omega (arith, g, k)) in
    let l1 = puts_length h1 in
    let e1 : c.in_ok-end.end ≡ length (ended c.args.path.now) = omega (arith, puts_end h1 refl) in
    let m1 : c.in_ok-end.end ≤ 1025 = omega (arith, e1, k, length-append c.args.path.now (0 ∷ [])) in
    let h2 = c.in_ok-uid.ensures (omega (arith, g, m1, l1)) in
    let l2 = puts_length h2.0 in
    let e2 = puts_end h2.0 refl in
    let m2 = h2.1 in
    let h3 = c.in_ok-euid.ensures (omega (arith, g, m1, m2, l1, l2)) in
    let l3 = puts_length h3.0 in
    let e3 = puts_end h3.0 refl in
    let m3 = h3.1 in
    let h4 = c.in_ok-gid.ensures (omega (arith, g, m1, m2, m3, l1, l2, l3)) in
    let l4 = puts_length h4.0 in
    let e4 = puts_end h4.0 refl in
    let m4 = h4.1 in
    let h5 = c.in_ok-egid.ensures (omega (arith, g, m1, m2, m3, m4, l1, l2, l3, l4)) in
    let l5 = puts_length h5.0 in
    let e5 = puts_end h5.0 refl in
    let m5 = h5.1 in
    record { bytes = puts_all _ h1 (puts_end h1 refl) h2.0 e2 h3.0 e3 h4.0 e4 h5.0; ends = rw (e5, e4, e3, e2, e1) }
