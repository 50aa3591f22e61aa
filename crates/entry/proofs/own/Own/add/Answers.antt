use Rattle.std.specs.Prelude.{Ok, Some}
use mathlib.Core.Path.{◌≡◌}
use mathlib.Core.Bool.{false}
use mathlib.Core.List.{List}
use Prim.Native.Nat.{ℕ}
use Rattle.options.specs.Read.{option_of}
use Rattle.options.specs.Contract.{value_in, setting_in}
use Rattle.entry.proofs.VerdictLaws.{sums_more, sums_as}
use Rattle.entry.proofs.own.Own.add.Goals as goal

pub returns : goal.returns
returns c = λ ps ss l h.
    let t : List ℕ = c.args.text.now in
    let e : Some (Ok (setting_in (value_in t) c.in-Ok-Some.setting)) ≡ option_of false t = rw c.in-Ok-Some.field-0-is at c.in-Ok-Some.ensures in
    sums_as ss e (sums_more {r = record { options = c.add.result; failures = c.add-2.result }} t c.in-Ok-Some.setting l c.value_of-value.ensures h c.add.ensures c.add-2.ensures)
