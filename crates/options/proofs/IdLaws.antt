-- Names in options, by value. Assumes nothing.
use mathlib.Core.Path.{◌≡◌}
use mathlib.Core.List.{List, ◌++◌}
use Prim.Native.Nat.{ℕ, ◌≤◌, min}
use native.Mathlib.Omega.{arith}
use lib.ListN.{length, take}
use lib.Seq.{length-take-le, take_all}
use Rattle.std.proofs.lemmas.List.{take-append-le}
use Rattle.text.proofs.Laws.{take_most}
use Rattle.options.specs.Read.{id_limit}
use Rattle.options.specs.Contract.{id_in}

-- the first bytes of a value, copied to the front of an array
pub copied : (front rest v : List ℕ) (size : ℕ) → size ≡ min (length v) id_limit → front ≡ take size v → id_in (record { bytes = front ++ rest; size = size }) ≡ take id_limit v
unfolding id_in
copied front rest v size e p =
    let l : size ≤ length v = omega arith in
    let k : length (take size v) ≡ size = length-take-le size v l in
    let h : size ≤ length (take size v) = omega arith in
    rw (p, take-append-le size (take size v) rest h, take_all size (take size v) (omega arith), e) (take_most id_limit v)
