-- The worked table of 01 and its cases, "Proved together (P)": one statement, computed. Assumes nothing.
use Rattle.std.specs.Prelude.{None, Option, Some}
use Rattle.question.specs.declared.Age.{Age}
use mathlib.Core.Path.{◌≡◌, refl}
use mathlib.Core.Bool.{true, false}
use mathlib.Core.List.{List, [], ◌∷◌, ◌++◌, map}
use Prim.Native.Nat.{ℕ, ◌+◌}
use lib.IntN.{ℤ, pos, negsuc}
use lib.ListN.{length, take, drop, replicate}
use Rattle.text.specs.Bytes.{bytes}
use Rattle.answer.specs.Answer.{Outcome, Beside, Told, told, granted, at_line, at_place, told_by}
use Rattle.answer.specs.Meaning.{Asked, answer_of}

table : List ℕ
table =
    bytes ":global patterns=shell\n"
    ++ bytes ":define Crew ann,bo\n"
    ++ bytes "setclock /sbin/setclock $(Crew),t* !tmp auth=y timeout=15\n"
    ++ bytes "batlog /opt/batlog ann@van* time~{>=17:30/mon,<=8/tues} !time~0-1/tues\n"
    ++ bytes "cal/* /opt/*/run group~bench nargs=0-2\n"

buffer : List ℕ
buffer = replicate 2048 255

-- what is told, and what the buffer then holds
pub record Seen : Type 0 where
  pub told : Told
  pub buffer : List ℕ

pub record Case : Type 0 where
  pub cut : ℕ
  pub asked : Asked
  pub expected : Seen

-- without groups and arguments
asks : List ℕ → List ℕ → List ℕ → ℕ → (Option Age) → Asked
asks command user host minute age = record { command = command; user = user; groups = []; host = host; minute = record { 0 = minute }; age = age; args = [] }

ago : ℤ → (Option Age)
ago minutes = Some (record { 0 = minutes })

-- the path and four empty strings, each ended by a zero byte; later bytes stay
filled : List ℕ → List ℕ
unfolding buffer
filled path = path ++ 0 ∷ 0 ∷ 0 ∷ 0 ∷ 0 ∷ drop (length path + 5) buffer

-- an answer that leaves the buffer
plain : ℕ → Beside → Seen
unfolding buffer
plain number beside = record { told = told number beside; buffer = buffer }

nothing : Seen
unfolding plain buffer
nothing = plain 2 (at_line 0)

clock : (Option Age) → Asked
unfolding asks
clock age = asks (bytes "setclock") (bytes "ann") (bytes "van2") 1049 age

clock_set : ℕ → Seen
unfolding filled buffer
clock_set number = record { told = told number (granted record { line = 3; path = bytes "/sbin/setclock"; uid = []; euid = []; gid = []; egid = []; auth = true; timeout = Some (pos 15); nargs = None; written = 19 }); buffer = filled (bytes "/sbin/setclock") }

log : List ℕ → List ℕ → ℕ → Asked
unfolding asks
log user host minute = asks (bytes "batlog") user host minute None

logged : Seen
unfolding filled buffer
logged = record { told = told 0 (granted record { line = 4; path = bytes "/opt/batlog"; uid = []; euid = []; gid = []; egid = []; auth = false; timeout = None; nargs = None; written = 16 }); buffer = filled (bytes "/opt/batlog") }

whole : Asked → Seen → Case
unfolding table
whole a o = record { cut = length table; asked = a; expected = o }

cut_at : ℕ → Asked → Seen → Case
cut_at n a o = record { cut = n; asked = a; expected = o }

pub cases : List Case
unfolding table buffer asks ago filled plain nothing clock clock_set log logged whole cut_at
cases =
    whole (clock (ago (pos 15))) (clock_set 0)
    ∷ whole (clock (ago (pos 16))) (clock_set 1)
    ∷ whole (clock (ago (negsuc 0))) (clock_set 1)
    ∷ whole (asks (bytes "setclock") (bytes "tmp") (bytes "van2") 1049 (ago (pos 15))) nothing
    ∷ whole (log (bytes "ann") (bytes "van2") 1049) nothing
    ∷ whole (log (bytes "ann") (bytes "van2") 1050) logged
    ∷ whole (log (bytes "ann") (bytes "van2") 1500) nothing
    ∷ whole (log (bytes "ann") (bytes "van2") 1501) logged
    ∷ whole (log (bytes "ann") (bytes "van2") 1920) logged
    ∷ whole (log (bytes "ann") (bytes "van2") 1921) nothing
    ∷ whole (log (bytes "root") (bytes "van2") 1050) logged
    ∷ whole (log (bytes "root") (bytes "shop") 1050) logged
    ∷ cut_at 100 (clock (ago (pos 15))) (plain 13 (at_place 43))
    ∷ cut_at 101 (clock (ago (pos 15))) (clock_set 0)
    ∷ cut_at 101 (clock (ago (pos 16))) (clock_set 1)
    ∷ cut_at 101 (clock (ago (negsuc 0))) (clock_set 1)
    ∷ cut_at 101 (asks (bytes "setclock") (bytes "tmp") (bytes "van2") 1049 (ago (pos 15))) nothing
    ∷ cut_at 0 (clock (ago (pos 15))) nothing
    ∷ []

seen : Outcome → Seen
seen o = record { told = told_by o; buffer = o.buffer }

pub given : Case → Seen
unfolding table buffer seen
given c = seen (answer_of (take c.cut table) c.asked buffer)

-- the line below names every definition that the cases compute with
pub worked : map given cases ≡ map (λ c. c.expected) cases
unfolding table buffer asks ago filled plain nothing clock clock_set log logged whole cut_at cases seen given mathlib.Core.List.flat_map Rattle.text.specs.Buffer.laid Rattle.text.specs.Case.lower_of Rattle.text.specs.Class.blank Rattle.text.specs.Class.letter Rattle.text.specs.Class.digit Rattle.text.specs.Class.word_byte Rattle.text.specs.Class.name_byte Rattle.text.specs.Class.printable Rattle.text.specs.Class.command_byte Rattle.text.specs.Class.class_of Rattle.text.specs.Lists.count Rattle.text.specs.Lists.has Rattle.text.specs.Lists.split_at Rattle.text.specs.Number.digits Rattle.text.specs.Number.decimal_of Rattle.text.specs.Parts.part_at Rattle.text.specs.Parts.part_at_pair Rattle.text.specs.Quote.quoting_after Rattle.text.specs.Slice.head_is Rattle.text.specs.Slice.find_pair Rattle.fault.specs.Fault.number_of Rattle.fault.specs.Fault.read_all Rattle.glob.specs.Match.sign_of Rattle.glob.specs.Match.tokens Rattle.glob.specs.Match.escaped_tokens Rattle.glob.specs.Match.set_tokens Rattle.glob.specs.Match.tails Rattle.glob.specs.Match.match_tokens Rattle.glob.specs.Match.matches Rattle.glob.specs.Set.ranges Rattle.glob.specs.Set.members Rattle.glob.specs.Set.good_set Rattle.glob.specs.Set.covered Rattle.glob.specs.Set.in_set Rattle.pattern.specs.Tree.depth Rattle.pattern.specs.Tree.number Rattle.pattern.specs.Tree.combined Rattle.pattern.specs.Tree.expansions Rattle.pattern.specs.Tree.fits Rattle.pattern.specs.Tree.role_of Rattle.pattern.specs.Tree.first_piece Rattle.pattern.specs.Tree.read_pattern Rattle.pattern.specs.Tree.read_list Rattle.pattern.specs.Tree.pattern_of Rattle.pattern.specs.Tree.list_of Rattle.pattern.specs.Tree.tree_of Rattle.pattern.specs.Tree.expanded Rattle.pattern.specs.Whole.expansions_of Rattle.matching.specs.Alternative.context_after Rattle.matching.specs.Alternative.parts_at Rattle.matching.specs.Alternative.parts_of Rattle.matching.specs.Alternative.good_part Rattle.matching.specs.Alternative.alternative_of Rattle.matching.specs.Whole.matches_some Rattle.matching.specs.Whole.field_expansions Rattle.matching.specs.Whole.matches_pattern Rattle.question.specs.Password.fresh Rattle.question.specs.Password.password_needed Rattle.question.specs.Question.good_component Rattle.question.specs.Question.good_command Rattle.question.specs.Question.good_name Rattle.question.specs.Question.good_argument Rattle.question.specs.Question.good_strings Rattle.question.specs.Question.good_question Rattle.question.specs.Question.question_of Rattle.question.specs.Strings.strings_of Rattle.times.specs.Clock.hour_of Rattle.times.specs.Clock.minute_of Rattle.times.specs.Clock.clock_of Rattle.times.specs.Day.day_names Rattle.times.specs.Day.shortens Rattle.times.specs.Day.day_among Rattle.times.specs.Day.day_of Rattle.times.specs.Item.compared Rattle.times.specs.Item.clock_range Rattle.times.specs.Item.period_of Rattle.times.specs.Item.item_of Rattle.times.specs.Item.on_day Rattle.times.specs.Item.in_period Rattle.times.specs.Item.item_matches Rattle.line.specs.Fold.run Rattle.line.specs.Fold.outcome Rattle.line.specs.Joined.leading Rattle.line.specs.Joined.parts_fields Rattle.line.specs.Joined.mode_after Rattle.line.specs.Joined.join_blank Rattle.line.specs.Joined.mode_joined Rattle.line.specs.Joined.joined_from Rattle.line.specs.Joined.joined_line Rattle.line.specs.Joined.indented Rattle.line.specs.Kind.kind_of_line Rattle.line.specs.Line.ended_lines Rattle.line.specs.Line.last_ends Rattle.line.specs.Line.cut_short Rattle.line.specs.Line.placed Rattle.line.specs.Line.cut_place Rattle.line.specs.Line.ends_at Rattle.line.specs.Line.end_of_line Rattle.line.specs.Refused.accepted Rattle.line.specs.Refused.refused_from Rattle.line.specs.Refused.refused_byte Rattle.line.specs.Scan.stretches Rattle.line.specs.Scan.non_empty Rattle.line.specs.Scan.fields_of Rattle.line.specs.Scan.quoting_at_end Rattle.line.specs.Scan.checked Rattle.line.specs.Scan.scanned Rattle.variables.specs.Define.define_name Rattle.variables.specs.Define.define_text Rattle.variables.specs.Define.define_in Rattle.variables.specs.Scope.lookup Rattle.variables.specs.Scope.define Rattle.variables.specs.Scope.is_name Rattle.variables.specs.Scope.built_in Rattle.variables.specs.Scope.name_text Rattle.variables.specs.Substitute.stays Rattle.variables.specs.Substitute.refers Rattle.variables.specs.Substitute.word Rattle.variables.specs.Substitute.bracketed Rattle.variables.specs.Substitute.reference Rattle.variables.specs.Substitute.substituted Rattle.variables.specs.Substitute.field_text Rattle.options.specs.Arguments.passes Rattle.options.specs.Arguments.arguments_from Rattle.options.specs.Arguments.arguments_pass Rattle.options.specs.Arguments.in_force Rattle.options.specs.Options.no_options Rattle.options.specs.Options.over Rattle.options.specs.Options.nargs_allow Rattle.options.specs.Read.number_range Rattle.options.specs.Read.is_id Rattle.options.specs.Read.id_of Rattle.options.specs.Read.auth_of Rattle.options.specs.Read.timeout_of Rattle.options.specs.Read.argument_of Rattle.options.specs.Read.option_named Rattle.options.specs.Read.option_of Rattle.options.specs.Read.options_of Rattle.options.specs.Read.arguments_of Rattle.options.specs.Read.has_shell Rattle.options.specs.Read.twice Rattle.condition.specs.Condition.prefixed Rattle.condition.specs.Condition.judge_of Rattle.condition.specs.Condition.alternative_read Rattle.condition.specs.Condition.alternatives_of Rattle.condition.specs.Condition.condition_behind Rattle.condition.specs.Condition.condition_of Rattle.condition.specs.Rightmost.rightmost Rattle.condition.specs.Times.times_accept Rattle.condition.specs.Users.user_applies Rattle.condition.specs.Users.group_applies Rattle.condition.specs.Users.users_accept Rattle.entry.specs.Entry.fields_from Rattle.entry.specs.Entry.completed Rattle.entry.specs.Entry.entry_of Rattle.entry.specs.Entry.conditions_accept Rattle.entry.specs.Field.no_field Rattle.entry.specs.Field.followed Rattle.entry.specs.Field.full_path Rattle.entry.specs.Field.has_pair Rattle.entry.specs.Field.pair_of Rattle.entry.specs.Field.command_of Rattle.entry.specs.Field.path_field Rattle.entry.specs.Field.other_of Rattle.entry.specs.Field.field_of Rattle.entry.specs.Path.starred Rattle.entry.specs.Path.path_for Rattle.entry.specs.Verdict.verdict_on Rattle.entry.specs.Verdict.verdict_of Rattle.reader.specs.Colon.define_line Rattle.reader.specs.Colon.global_line Rattle.reader.specs.Colon.operator_of Rattle.reader.specs.Colon.if_line Rattle.reader.specs.Read.entry_line Rattle.reader.specs.Read.fields_read Rattle.reader.specs.Read.line_read Rattle.reader.specs.State.start Rattle.reader.specs.State.with_definition Rattle.reader.specs.State.with_settings Rattle.reader.specs.State.with_entry Rattle.answer.specs.Answer.grant_in Rattle.answer.specs.Answer.told_of Rattle.answer.specs.Answer.is_decision Rattle.answer.specs.Answer.deciding_line Rattle.answer.specs.Cut.nothing_yet Rattle.answer.specs.Cut.cut_answer Rattle.answer.specs.Meaning.strings Rattle.answer.specs.Meaning.granted_by Rattle.answer.specs.Meaning.answer_of Rattle.reader.specs.Colon.definition_read Rattle.reader.specs.Colon.global_read Rattle.reader.specs.Colon.comparison Rattle.reader.specs.Colon.word_of
worked = refl
