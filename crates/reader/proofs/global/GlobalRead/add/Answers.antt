use Rattle.std.specs.Prelude.{Some}
use Rattle.std.proofs.Common.{arith}
use mathlib.Core.Path.{◌≡◌, refl}
use mathlib.Core.List.{List}
use Prim.Native.Nat.{ℕ}
use Rattle.options.specs.Contract.{value_in, setting_in}
use Rattle.reader.proofs.GlobalLaws.{sums_more, adds_as}
use Rattle.reader.proofs.global.GlobalRead.add.Goals as goal

pub returns : goal.returns
returns c =
    let t : List ℕ = c.args.text.now in
    let z : c.in_ok-read_option.field-0 ≡ Some c.in_ok-setting.setting = grind arith in
    record { adds_to = λ ps ss l h. adds_as (rw z at c.in_ok-read_option.ensures) (setting_in (value_in t) c.in_ok-setting.setting, refl, sums_more {r = record { options = c.add.result; failures = c.add-2.result; line = c.add-3.result }} t c.in_ok-setting.setting l c.value_of-value.ensures h c.add.ensures c.add-2.ensures c.add-3.ensures) }
