-- An id in force has at most 64 bytes, and a path that is granted at most 1,024. Assumes nothing.
use Rattle.std.specs.Option.{option_map, option_or}
use Rattle.std.specs.Prelude.{None, Ok, Option, Some}
use mathlib.Core.Path.{◌≡◌, refl}
use mathlib.Core.Bool.{Bool, true, false, not, cond}
use mathlib.Core.List.{List}
use Prim.Native.Nat.{ℕ, ◌≤◌}
use borrow.Author.Tests.{ltb-false}
use lib.Dec.{ltb}
use lib.ListN.{length}
use Rattle.text.proofs.Laws.{pick_of}
use Rattle.fault.proofs.Readings.{gives_all}
use Rattle.line.specs.Line.{Line}
use Rattle.question.specs.Question.{Question}
use Rattle.question.specs.Password.{password_needed}
use Rattle.options.specs.Options.{Options, no_options, over, auth_or, timeout_or, nargs_allow}
use Rattle.options.specs.Arguments.{ArgumentPattern, arguments_pass, in_force}
use Rattle.options.specs.Read.{options_of, arguments_of}
use Rattle.entry.specs.Field.{Entry}
use Rattle.entry.specs.Entry.{conditions_accept}
use Rattle.entry.specs.Path.{path_for}
use Rattle.entry.specs.Verdict.{Verdict, permit, password, stopped_by_nargs, stopped_by_argument, stopped_by_path, verdict_on, verdict_if, verdict_of}
use Rattle.reader.specs.State.{State, Decision, decided_at, start, scope_of, with_definition, with_settings, with_entry}
use Rattle.reader.specs.Colon.{global_field}
use Rattle.reader.specs.Read.{judge_for, line_read}
use Rattle.reader.proofs.ReadLaws.{Change, stays, defines, sets, enters, line_change}
use Rattle.reader.proofs.ShortSettings.{ShortSetting, ShortIds, short_global, short_over, short_none, short_options}
use Rattle.reader.proofs.ShortEntries.{ShortEntry, short_entry}

-- what is granted
abbrev pub ShortVerdict : Verdict → Type 0
ShortVerdict (permit p o) = (length p ≤ 1024) × ShortIds o
ShortVerdict (password p o) = (length p ≤ 1024) × ShortIds o
ShortVerdict stopped_by_nargs = Unit {0}
ShortVerdict stopped_by_argument = Unit {0}
ShortVerdict stopped_by_path = Unit {0}

short_on : (q : Question) (o : Options) (ps : List ArgumentPattern) (path : List ℕ) → ShortIds o → ShortVerdict (verdict_on q o ps path)
unfolding verdict_on
short_on q o ps path h =
    pick_of ShortVerdict (not (nargs_allow o.nargs (length q.args))) tt
    (pick_of ShortVerdict (not (arguments_pass ps q.args)) tt
    (by (ltb 1024 (length path)) refl))
  where
    by : (x : Bool) → ltb 1024 (length path) ≡ x → ShortVerdict (cond x stopped_by_path (cond (password_needed (auth_or o.auth) (timeout_or o.timeout) q.age) (password path o) (permit path o)))
    by true e = tt
    by false e = pick_of ShortVerdict (password_needed (auth_or o.auth) (timeout_or o.timeout) q.age) (ltb-false 1024 (length path) e, h) (ltb-false 1024 (length path) e, h)

abbrev ShortOwn : Option Verdict → Type 0
ShortOwn None = Unit {0}
ShortOwn (Some v) = ShortVerdict v

short_verdict : (q : Question) (o : Options) (ps : List ArgumentPattern) (e : Entry) → ShortIds o → ShortEntry e → ShortOwn (verdict_of q o ps e)
unfolding verdict_of
short_verdict q o ps e h k = by (path_for q.command e.pairs)
  where
    by : (p : Option (List ℕ)) → ShortOwn (verdict_if q o ps e p)
    by None = tt
    by (Some path) =
        pick_of ShortOwn (conditions_accept q.user e)
        (short_on q (over (options_of e.settings) o) (in_force ps (arguments_of e.settings)) path (short_over (options_of e.settings) o (short_options e.settings k) h))
        tt

abbrev pub ShortDecision : Option Decision → Type 0
ShortDecision None = Unit {0}
ShortDecision (Some d) = ShortVerdict d.verdict

short_or : (line : ℕ) (o : Option Decision) (v : Option Verdict) → ShortDecision o → ShortOwn v → ShortDecision (option_or o (option_map (decided_at line) v))
short_or line None None h k = tt
short_or line None (Some v) h k = k
short_or line (Some d) v h k = h

pub record ShortState (s : State) : Type 0 where
  pub options : ShortIds s.options
  pub decision : ShortDecision s.decision

pub short_start : ShortState start
unfolding start no_options
short_start = record { options = short_none None None None; decision = tt }

pub short_keeps : (q : Question) (s t : State) (l : Line) → ShortState s → line_read q s l ≡ Ok t → ShortState t
unfolding with_definition with_settings with_entry
short_keeps q s t l h e = by (line_change q s t l e)
  where
    by : Change q l.number s t → ShortState t
    by (stays x) = rw (← x) h
    by (defines d x) = rw (← x) (record { options = h.options; decision = h.decision })
    by (sets fs ss r x) = rw (← x) (record { options = short_over (options_of ss) s.options (short_options ss (gives_all ShortSetting (global_field (scope_of q s)) (short_global (scope_of q s)) fs ss r)) h.options; decision = h.decision })
    by (enters fs c r x) = rw (← x) (record { options = h.options; decision = short_or l.number s.decision (verdict_of q s.options s.arguments c) h.decision (short_verdict q s.options s.arguments c h.options (short_entry (judge_for q) (scope_of q s) fs c r)) })
