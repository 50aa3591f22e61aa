-- A line that is a `:define`: the variables behind it.
use Rattle.std.specs.Prelude.{Ok}
use mathlib.Core.Path.{◌≡◌, sym, ap, ◌∙◌}
use mathlib.Core.List.{List}
use Prim.Native.Nat.{ℕ, ◌≤◌, ◌<◌}
use native.Mathlib.Omega.{arith}
use lib.ListN.{length, take, length-take}
use Rattle.variables.specs.Scope.{definition}
use Rattle.variables.specs.Contract.{definitions_in, definitions_of, Stores}
use Rattle.variables.specs.declared.Variables.{Variables}
use Rattle.reader.specs.State.{State}
use Rattle.reader.specs.Colon.{define_line}
use Rattle.reader.specs.Contract.{scope_for, LineDefines}
use Rattle.reader.specs.declared.define.Definition.{Definition as Placed}
use Rattle.table_lines.specs.Contract.{Defined}

-- stored at its place
pub define_stored : (v : Variables) {user host : List ℕ} {fs : List (List ℕ)} {name text : List ℕ} {d : Placed} → LineDefines user host v.bytes v.sizes v.count fs name text (Ok d) → (s : State) → s.definitions ≡ definitions_of v → {v' : Variables} → (d.place < 64 → length (take d.name name) ≤ 64 → length (take d.text text) ≤ 256 → (v'.count ≡ d.names) × Stores v.bytes v.sizes d.place (definition (take d.name name) (take d.text text)) v'.bytes v'.sizes) → Defined s v' (define_line (scope_for user host s) s fs)
define_stored v {name = name} {text = text} {d = d} h s e {v'} w =
    let p = w h.defines.0 (omega (arith, length-take d.name name, h.defines.1)) (omega (arith, length-take d.text text, h.defines.2)) in
    let n = h.defines.5 s e v'.bytes v'.sizes p.1 in
    record { definition = definition (take d.name name) (take d.text text); gives = n.0; variables = n.1 ∙ ap (definitions_in v'.bytes v'.sizes) (sym p.0) }
