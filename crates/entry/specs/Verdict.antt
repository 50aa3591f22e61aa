-- What the deciding entry answers: nargs, argument patterns, path length, password, in that order (01, "Options").
use Rattle.std.specs.Prelude.{ℕ, not, cond, List, ltb, length, None, Option, Some}
use Rattle.question.specs.Question.{Question}
use Rattle.question.specs.Password.{password_needed}
use Rattle.options.specs.Options.{Options, over, auth_or, timeout_or, nargs_allow}
use Rattle.options.specs.Arguments.{ArgumentPattern, in_force, arguments_pass}
use Rattle.options.specs.Read.{options_of, arguments_of}
use Rattle.entry.specs.Field.{Entry}
use Rattle.entry.specs.Entry.{conditions_accept}
use Rattle.entry.specs.Path.{path_limit, path_for}

-- what the deciding entry answers; 0 and 1 with the path and the effective options
pub data Verdict : Type 0 where
  permit : List ℕ → Options → Verdict
  password : List ℕ → Options → Verdict
  stopped_by_nargs : Verdict
  stopped_by_argument : Verdict
  stopped_by_path : Verdict

-- "The deciding entry is tried for nargs, argument patterns, path length, password, in that order"
unfoldable pub verdict_on : Question → Options → List ArgumentPattern → List ℕ → Verdict
verdict_on q o ps path =
    cond (not (nargs_allow o.nargs (length q.args))) stopped_by_nargs
    (cond (not (arguments_pass ps q.args)) stopped_by_argument
    (cond (ltb path_limit (length path)) stopped_by_path
    (cond (password_needed (auth_or o.auth) (timeout_or o.timeout) q.age) (password path o)
    (permit path o))))

-- "Local overrides global"; argument patterns in force globally and the entry's own add up
abbrev pub verdict_if : Question → Options → List ArgumentPattern → Entry → Option (List ℕ) → Option Verdict
verdict_if q o ps e None = None
verdict_if q o ps e (Some path) =
    cond (conditions_accept q.user e)
    (Some (verdict_on q (over (options_of e.settings) o) (in_force ps (arguments_of e.settings)) path))
    None

-- the entry's verdict where its command, users and times all accept; options and argument patterns in force go before
unfoldable pub verdict_of : Question → Options → List ArgumentPattern → Entry → Option Verdict
verdict_of q o ps e = verdict_if q o ps e (path_for q.command e.pairs)
