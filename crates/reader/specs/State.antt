-- What is kept from line to line: variables, options and argument patterns in force, whether `patterns=shell` was read, and the decision once made.
use Rattle.std.specs.Option.{option_map, option_or}
use Rattle.std.specs.Prelude.{ℕ, Bool, false, ◌||◌, List, [], ◌++◌, None, Option}
use Rattle.question.specs.Question.{Question}
use Rattle.variables.specs.Scope.{Scope, Definition, define}
use Rattle.options.specs.Options.{Options, no_options, over}
use Rattle.options.specs.Arguments.{ArgumentPattern}
use Rattle.options.specs.Read.{Setting, options_of, arguments_of, has_shell}
use Rattle.entry.specs.Field.{Entry}
use Rattle.entry.specs.Verdict.{Verdict, verdict_of}

-- the deciding line's number, and its entry's verdict
pub record Decision : Type 0 where
  pub line : ℕ
  pub verdict : Verdict

-- a verdict at the line with this number
abbrev pub decided_at : ℕ → Verdict → Decision
decided_at line v = record { line = line; verdict = v }

-- the state between two lines
pub record State : Type 0 where
  pub definitions : List Definition
  pub options : Options
  pub arguments : List ArgumentPattern
  pub shell : Bool
  pub decision : Option Decision

-- before the first line
unfoldable pub start : State
start = record { definitions = []; options = no_options; arguments = []; shell = false; decision = None }

-- CALLER and HOST come from the question
abbrev pub scope_of : Question → State → Scope
scope_of q s = record { caller = q.user; host = q.host; definitions = s.definitions }

-- `:define`
unfoldable pub with_definition : Definition → State → State
with_definition d s = record { definitions = define d s.definitions; options = s.options; arguments = s.arguments; shell = s.shell; decision = s.decision }

-- `:global`: in force from the next line; later settings over earlier ones, argument patterns add up
unfoldable pub with_settings : List Setting → State → State
with_settings ss s = record {
  definitions = s.definitions;
  options = over (options_of ss) s.options;
  arguments = s.arguments ++ arguments_of ss;
  shell = s.shell || has_shell ss;
  decision = s.decision;
}

-- the first entry that accepts decides
unfoldable pub with_entry : Question → ℕ → Entry → State → State
with_entry q line e s = record {
  definitions = s.definitions;
  options = s.options;
  arguments = s.arguments;
  shell = s.shell;
  decision = option_or s.decision (option_map (decided_at line) (verdict_of q s.options s.arguments e));
}
