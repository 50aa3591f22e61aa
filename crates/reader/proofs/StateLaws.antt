-- What a `:global` makes of the state by value.
use Rattle.std.specs.Prelude.{Err, Ok, Result}
use mathlib.Core.Path.{◌≡◌, ◌∙◌}
use mathlib.Core.Bool.{Bool, false, ◌||◌}
use mathlib.Core.List.{List}
use Prim.Native.Nat.{ℕ}
use lib.ListN.{get_or}
use Rattle.fault.specs.Fault.{and_then}
use Rattle.fault.specs.declared.Cause.{Cause}
use Rattle.variables.specs.Contract.{definitions_in, scope_in}
use Rattle.options.specs.Options.{Options, over}
use Rattle.options.specs.Read.{Setting, has_shell}
use Rattle.options.specs.Contract.{options_in, line_of}
use Rattle.options.specs.declared.set.OptionSet.{OptionSet}
use Rattle.options.specs.declared.line.LineOptions.{LineOptions}
use Rattle.options.proofs.LineLaws.{line_shell}
use Rattle.reader.specs.State.{State, with_settings}
use Rattle.reader.specs.Colon.{global_read, global_line}
use Rattle.reader.specs.Contract.{scope_for, Reads, Keeps, Changes}
use Rattle.reader.specs.declared.global.GlobalRead.{GlobalRead}
use Rattle.reader.specs.declared.state.Reader.{Reader}

-- what is kept of the settings is what they mean
over_both : {a b x y : Options} → a ≡ b → x ≡ y → over a x ≡ over b y
over_both e f = rw (e, f)

either_both : {a b x y : Bool} → a ≡ b → x ≡ y → a || x ≡ b || y
either_both e f = rw (e, f)

line_tells_law : {l : LineOptions} (ss : List Setting) → l ≡ line_of ss → get_or l.stands 7 false ≡ has_shell ss
line_tells_law ss e = rw e (line_shell ss)

module _ (caller host : List ℕ) (fs : List (List ℕ)) {args : List (List ℕ)} (bytes sizes : List ℕ) (names : ℕ) {self : Reader} {s : State} (k : Keeps args self s) (v : s.definitions ≡ definitions_in bytes sizes names) where
  -- the line by what was read of its settings
  line_of_law : {o : Result (List Setting) Cause} → global_read (scope_in caller host bytes sizes names) fs ≡ o → global_line (scope_for caller host s) s fs ≡ and_then o (λ ss. Ok (with_settings ss s))
  unfolding global_line
  line_of_law e = rw (v, e)

  pub global_fault : {c : Cause} → Reads s.arguments args (global_read (scope_in caller host bytes sizes names) fs) (Err c) → Changes args (global_line (scope_for caller host s) s fs) (Err c)
  global_fault w = record { changes = line_of_law w.reads }

  -- the settings over those in force, the line's patterns behind them
  pub global_good : {g : GlobalRead} {set : OptionSet} {own shell : Bool} → Reads s.arguments args (global_read (scope_in caller host bytes sizes names) fs) (Ok g) → options_in set ≡ over (options_in g.options) (options_in self.options) → own ≡ get_or g.line.stands 7 false → shell ≡ self.shell || own → Changes args (global_line (scope_for caller host s) s fs) (Ok (record { options = set; failures = g.failures; shell = shell }))
  unfolding with_settings
  global_good w p q t =
      let u = w.reads in
      let sums = u.2 in
      record { changes = (with_settings u.0 s, line_of_law u.1, record { options = p ∙ over_both sums.options k.options; failures = sums.failures; shell = t ∙ either_both k.shell (q ∙ line_tells_law u.0 sums.line) }) }
