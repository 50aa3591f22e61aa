-- The definition that fields make: its name, its text, and that nothing stands behind it; and what its line does.
use Rattle.std.specs.Prelude.{Err, Ok, Result}
use mathlib.Core.Path.{◌≡◌, refl, sym}
use mathlib.Core.Bool.{not, ◌&&◌}
use mathlib.Core.List.{List, [], ◌∷◌}
use Prim.Native.Nat.{ℕ, ◌≤◌}
use native.Mathlib.Omega.{arith}
use lib.Dec.{leb}
use lib.ListN.{length, take}
use lib.Seq.{length-take-le}
use Rattle.fault.specs.Fault.{and_then}
use Rattle.fault.specs.declared.Cause.{Cause}
use Rattle.fault.specs.declared.Cause.TheVariants.{NameLength, TextLength, DefineName, TooManyNames, MissingPart}
use Rattle.fault.proofs.Readings.{same_value, and_then_law, required, never, then_fault, then_value, first_missing, first_fault, first_value}
use Rattle.variables.specs.Scope.{Scope, Definition, definition, define, is_name, built_in}
use Rattle.variables.specs.Define.{define_name, define_text, define_in}
use Rattle.variables.specs.Substitute.{field_text, field_as}
use Rattle.variables.specs.Contract.{definitions_in, scope_in, Goes}
use Rattle.variables.proofs.DefineLaws.{name_short, text_short}
use Rattle.reader.specs.State.{State, with_definition}
use Rattle.reader.specs.Colon.{surplus_field, last_read, text_read, named_read, definition_read, define_line}
use Rattle.reader.specs.Contract.{scope_for, LineDefines}
use Rattle.variables.specs.declared.DefinePlace.{DefinePlace}

-- ---- the parts of a definition, by what was read of each
module _ (sc : Scope) where
  -- what stands behind the text
  module _ (t : List ℕ) {fs : List (List ℕ)} where
    pub text_last : fs ≡ [] → Ok t ≡ last_read sc t fs
    text_last e = rw e

    pub text_before : {c : Cause} {f : List ℕ} {rest : List (List ℕ)} → fs ≡ f ∷ rest → surplus_field sc f ≡ Err c → Err c ≡ last_read sc t fs
    text_before e h = rw e (sym h)

  module _ {fs : List (List ℕ)} where
    pub name_missing : fs ≡ [] → Err MissingPart ≡ definition_read sc fs
    unfolding definition_read
    name_missing e = first_missing (field_as sc define_name) (named_read sc) e

    module _ {f : List ℕ} {rest : List (List ℕ)} (e : fs ≡ f ∷ rest) where
      pub name_fault : {c : Cause} → Err c ≡ field_as sc define_name f → Err c ≡ definition_read sc fs
      unfolding definition_read
      name_fault g = first_fault (field_as sc define_name) (named_read sc) e g

      -- the text behind the name has a fault, or is the definition's
      module _ {n : List ℕ} (g : Ok n ≡ field_as sc define_name f) where
        pub named_fault : {c : Cause} → Err c ≡ text_read sc rest → Err c ≡ definition_read sc fs
        unfolding definition_read
        named_fault h = first_value (field_as sc define_name) (named_read sc) e g (then_fault (λ t. Ok (definition n t)) h)

        pub named_text : {t : List ℕ} → Ok t ≡ text_read sc rest → Ok (definition n t) ≡ definition_read sc fs
        unfolding definition_read
        named_text h = first_value (field_as sc define_name) (named_read sc) e g (then_value (λ t. Ok (definition n t)) h refl)

-- ---- a definition that was read is good but for the number of names
-- a check hands on what it checked
name_kept : (t n : List ℕ) → define_name t ≡ Ok n → t ≡ n
unfolding define_name
name_kept t n e =
    let u = required (leb (length t) 64) NameLength _ n e in
    same_value (required (is_name t && not (built_in t)) DefineName _ n u.1).1

text_kept : (t u : List ℕ) → define_text t ≡ Ok u → t ≡ u
unfolding define_text
text_kept t u e = same_value (required (leb (length t) 256) TextLength _ u e).1

-- so that it passes again
name_again : (t n : List ℕ) → define_name t ≡ Ok n → define_name n ≡ Ok n
name_again t n e = rw (name_kept t n e) at e

text_again : (t u : List ℕ) → define_text t ≡ Ok u → define_text u ≡ Ok u
text_again t u e = rw (text_kept t u e) at e

-- its name and its text pass their checks
abbrev Passes : Definition → Type 0
Passes d = (define_name d.name ≡ Ok d.name) × (define_text d.text ≡ Ok d.text)

last_read_law : (sc : Scope) (t u : List ℕ) (fs : List (List ℕ)) → last_read sc t fs ≡ Ok u → t ≡ u
last_read_law sc t u [] h = same_value h
last_read_law sc t u (f ∷ fs) h = never (and_then_law (field_text sc f) _ u h).2

text_read_law : (sc : Scope) (u : List ℕ) (fs : List (List ℕ)) → text_read sc fs ≡ Ok u → define_text u ≡ Ok u
text_read_law sc u [] h = never h
text_read_law sc u (f ∷ fs) h =
    let v = and_then_law (field_as sc define_text f) (λ t. last_read sc t fs) u h in
    let w = and_then_law (field_text sc f) define_text v.0 v.1 in
    rw (← last_read_law sc v.0 u fs v.2) (text_again w.0 v.0 w.2)

definition_read_law : (sc : Scope) (d : Definition) (fs : List (List ℕ)) → definition_read sc fs ≡ Ok d → Passes d
unfolding definition_read
definition_read_law sc d [] h = never h
definition_read_law sc d (f ∷ fs) h =
    let v = and_then_law (field_as sc define_name f) (λ n. named_read sc n fs) d h in
    let w = and_then_law (field_text sc f) define_name v.0 v.1 in
    let t = and_then_law (text_read sc fs) (λ u. Ok (definition v.0 u)) d v.2 in
    rw (← same_value t.2) (name_again w.0 v.0 w.2, text_read_law sc t.0 fs t.1)

-- ---- what the line does, by its definition and the place of it
-- the variables behind a definition that is not one too many
defined_value : (d : Definition) (ds es : List Definition) → define_in d ds ≡ Ok es → define d ds ≡ es
unfolding define_in
defined_value d ds es h = same_value (required (leb (length (define d ds)) 64) TooManyNames _ es h).1

module _ (caller host bytes sizes : List ℕ) (names : ℕ) (fs : List (List ℕ)) (name text : List ℕ) where
  -- the definition's fault is the line's
  pub line_fault : {c : Cause} → Err c ≡ definition_read (scope_in caller host bytes sizes names) fs → LineDefines caller host bytes sizes names fs name text (Err c)
  unfolding define_line
  line_fault {c} e = record { defines = by }
    where
      by : (s : State) → s.definitions ≡ definitions_in bytes sizes names → define_line (scope_for caller host s) s fs ≡ Err c
      by s h =
          let g : Err c ≡ definition_read (scope_for caller host s) fs = rw h e in
          rw (← g)

  module _ (k m : ℕ) (e : Ok (definition (take k name) (take m text)) ≡ definition_read (scope_in caller host bytes sizes names) fs) where
    abbrev read : Definition
    read = definition (take k name) (take m text)

    -- only the number of names is left
    line_is : (s : State) → s.definitions ≡ definitions_in bytes sizes names → {o : Result (List Definition) Cause} → define_in read (definitions_in bytes sizes names) ≡ o → define_line (scope_for caller host s) s fs ≡ and_then o (λ ds. Ok (with_definition read s))
    unfolding define_line
    line_is s h {o} w =
        let g : Ok read ≡ definition_read (scope_for caller host s) fs = rw h e in
        let v : define_in read s.definitions ≡ o = rw h w in
        rw (← g, v)

    -- it has no place
    pub line_refused : {c : Cause} → Goes bytes sizes names (take k name) (Err c) → LineDefines caller host bytes sizes names fs name text (Err c)
    line_refused w = record { defines = λ s h. line_is s h (w.goes (take m text)) }

    -- stored at its place, it is the state's last change
    pub line_placed : {g : DefinePlace} → k ≤ length name → m ≤ length text → Goes bytes sizes names (take k name) (Ok g) → LineDefines caller host bytes sizes names fs name text (Ok (record { place = g.place; names = g.names; name = k; text = m }))
    line_placed p q w =
        let a : length (take k name) ≡ k = length-take-le k name p in
        let b : length (take m text) ≡ m = length-take-le m text q in
        let d = definition_read_law (scope_in caller host bytes sizes names) read fs (sym e) in
        record { defines = (w.goes.0, omega (arith, a, name_short (take k name) (sym d.0)), omega (arith, b, text_short (take m text) (sym d.1)), p, q, λ s h x y t. let v = w.goes.1 (take m text) x y t in (line_is s h v, rw h (defined_value read (definitions_in bytes sizes names) _ v))) }
