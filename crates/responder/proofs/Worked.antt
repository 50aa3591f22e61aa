-- What a log gets for the question lines of 01's worked table: one statement, computed. Assumes nothing.
use mathlib.Core.Path.{◌≡◌, refl}
use mathlib.Core.List.{[], ◌∷◌, flat_map}
use Rattle.console.specs.Console.{logged}
use Rattle.console.proofs.WorkedLines.{table, questions}

-- a permit by line 3 with auth; no entry; a permit by line 3 after password, never given; one stopped by line 5; a permit by line 5; and nothing for the answer 10
worked_log : flat_map (logged table) questions ≡
    32 ∷ 0 ∷ 3 ∷ 16 ∷ 102 ∷ 0 ∷ 0 ∷ 15
    ∷ 34 ∷ 0 ∷ 0 ∷ 16 ∷ 100 ∷ 0 ∷ 0 ∷ 15
    ∷ 33 ∷ 0 ∷ 3 ∷ 16 ∷ 103 ∷ 0 ∷ 0 ∷ 0
    ∷ 35 ∷ 0 ∷ 5 ∷ 0 ∷ 1 ∷ 0 ∷ 0 ∷ 0
    ∷ 32 ∷ 0 ∷ 5 ∷ 0 ∷ 1 ∷ 0 ∷ 0 ∷ 0
    ∷ []
unfolding mathlib.Core.List.flat_map Rattle.text.specs.Buffer.laid Rattle.text.specs.Case.lower_of Rattle.text.specs.Class.blank Rattle.text.specs.Class.letter Rattle.text.specs.Class.digit Rattle.text.specs.Class.word_byte Rattle.text.specs.Class.name_byte Rattle.text.specs.Class.printable Rattle.text.specs.Class.command_byte Rattle.text.specs.Class.class_of Rattle.text.specs.Lists.count Rattle.text.specs.Lists.has Rattle.text.specs.Lists.split_at Rattle.text.specs.Number.digits Rattle.text.specs.Number.decimal_of Rattle.text.specs.Parts.part_at Rattle.text.specs.Parts.part_at_pair Rattle.text.specs.Quote.quoting_after Rattle.text.specs.Slice.head_is Rattle.text.specs.Slice.find_pair Rattle.fault.specs.Fault.number_of Rattle.fault.specs.Fault.read_all Rattle.glob.specs.Match.sign_of Rattle.glob.specs.Match.tails Rattle.glob.specs.Match.match_tokens Rattle.glob.specs.Match.matches Rattle.glob.specs.Set.ranges Rattle.glob.specs.Set.members Rattle.glob.specs.Set.good_set Rattle.glob.specs.Set.covered Rattle.glob.specs.Set.in_set Rattle.pattern.specs.Tree.depth Rattle.pattern.specs.Tree.number Rattle.pattern.specs.Tree.combined Rattle.pattern.specs.Tree.expansions Rattle.pattern.specs.Tree.fits Rattle.pattern.specs.Tree.role_of Rattle.pattern.specs.Tree.first_piece Rattle.pattern.specs.Tree.pattern_of Rattle.pattern.specs.Tree.list_of Rattle.pattern.specs.Tree.tree_of Rattle.pattern.specs.Tree.expanded Rattle.pattern.specs.Whole.expansions_of Rattle.matching.specs.Alternative.context_after Rattle.matching.specs.Alternative.parts_at Rattle.matching.specs.Alternative.parts_of Rattle.matching.specs.Alternative.good_part Rattle.matching.specs.Alternative.alternative_of Rattle.matching.specs.Whole.matches_some Rattle.matching.specs.Whole.field_expansions Rattle.matching.specs.Whole.matches_pattern Rattle.question.specs.Password.fresh Rattle.question.specs.Password.password_needed Rattle.question.specs.Question.good_component Rattle.question.specs.Question.good_command Rattle.question.specs.Question.good_name Rattle.question.specs.Question.good_argument Rattle.question.specs.Question.good_strings Rattle.question.specs.Question.good_question Rattle.question.specs.Question.question_of Rattle.question.specs.Strings.strings_of Rattle.times.specs.Clock.hour_of Rattle.times.specs.Clock.minute_of Rattle.times.specs.Clock.clock_of Rattle.times.specs.Day.day_names Rattle.times.specs.Day.shortens Rattle.times.specs.Day.day_among Rattle.times.specs.Day.day_of Rattle.times.specs.Item.compared Rattle.times.specs.Item.clock_range Rattle.times.specs.Item.period_of Rattle.times.specs.Item.item_of Rattle.times.specs.Item.on_day Rattle.times.specs.Item.in_period Rattle.times.specs.Item.item_matches Rattle.line.specs.Fold.run Rattle.line.specs.Fold.outcome Rattle.line.specs.Joined.leading Rattle.line.specs.Joined.parts_fields Rattle.line.specs.Joined.mode_after Rattle.line.specs.Joined.join_blank Rattle.line.specs.Joined.mode_joined Rattle.line.specs.Joined.joined_from Rattle.line.specs.Joined.joined_line Rattle.line.specs.Joined.indented Rattle.line.specs.Kind.kind_of_line Rattle.line.specs.Line.ended_lines Rattle.line.specs.Line.last_ends Rattle.line.specs.Line.cut_short Rattle.line.specs.Line.placed Rattle.line.specs.Line.cut_place Rattle.line.specs.Line.ends_at Rattle.line.specs.Line.end_of_line Rattle.line.specs.Refused.accepted Rattle.line.specs.Refused.refused_from Rattle.line.specs.Refused.refused_byte Rattle.line.specs.Scan.stretches Rattle.line.specs.Scan.non_empty Rattle.line.specs.Scan.fields_of Rattle.line.specs.Scan.quoting_at_end Rattle.line.specs.Scan.checked Rattle.line.specs.Scan.scanned Rattle.variables.specs.Define.define_name Rattle.variables.specs.Define.define_text Rattle.variables.specs.Define.define_in Rattle.variables.specs.Scope.lookup Rattle.variables.specs.Scope.define Rattle.variables.specs.Scope.is_name Rattle.variables.specs.Scope.built_in Rattle.variables.specs.Scope.name_text Rattle.variables.specs.Substitute.stays Rattle.variables.specs.Substitute.refers Rattle.variables.specs.Substitute.word Rattle.variables.specs.Substitute.bracketed Rattle.variables.specs.Substitute.reference Rattle.variables.specs.Substitute.substituted Rattle.variables.specs.Substitute.field_text Rattle.options.specs.Arguments.passes Rattle.options.specs.Arguments.arguments_from Rattle.options.specs.Arguments.arguments_pass Rattle.options.specs.Arguments.in_force Rattle.options.specs.Options.no_options Rattle.options.specs.Options.over Rattle.options.specs.Options.nargs_allow Rattle.options.specs.Read.number_range Rattle.options.specs.Read.is_id Rattle.options.specs.Read.id_of Rattle.options.specs.Read.auth_of Rattle.options.specs.Read.timeout_of Rattle.options.specs.Read.argument_of Rattle.options.specs.Read.option_named Rattle.options.specs.Read.option_of Rattle.options.specs.Read.options_of Rattle.options.specs.Read.arguments_of Rattle.options.specs.Read.has_shell Rattle.options.specs.Read.twice Rattle.condition.specs.Condition.prefixed Rattle.condition.specs.Condition.judge_of Rattle.condition.specs.Condition.alternative_read Rattle.condition.specs.Condition.alternatives_of Rattle.condition.specs.Condition.condition_behind Rattle.condition.specs.Condition.condition_of Rattle.condition.specs.Rightmost.rightmost Rattle.condition.specs.Times.times_accept Rattle.condition.specs.Users.user_applies Rattle.condition.specs.Users.group_applies Rattle.condition.specs.Users.users_accept Rattle.entry.specs.Entry.fields_from Rattle.entry.specs.Entry.completed Rattle.entry.specs.Entry.entry_of Rattle.entry.specs.Entry.conditions_accept Rattle.entry.specs.Field.no_field Rattle.entry.specs.Field.followed Rattle.entry.specs.Field.full_path Rattle.entry.specs.Field.has_pair Rattle.entry.specs.Field.pair_of Rattle.entry.specs.Field.command_of Rattle.entry.specs.Field.path_field Rattle.entry.specs.Field.other_of Rattle.entry.specs.Field.field_of Rattle.entry.specs.Path.starred Rattle.entry.specs.Path.path_for Rattle.entry.specs.Verdict.verdict_on Rattle.entry.specs.Verdict.verdict_of Rattle.reader.specs.Colon.define_line Rattle.reader.specs.Colon.global_line Rattle.reader.specs.Colon.operator_of Rattle.reader.specs.Colon.if_line Rattle.reader.specs.Read.entry_line Rattle.reader.specs.Read.fields_read Rattle.reader.specs.Read.line_read Rattle.reader.specs.State.start Rattle.reader.specs.State.with_definition Rattle.reader.specs.State.with_settings Rattle.reader.specs.State.with_entry Rattle.answer.specs.Answer.grant_in Rattle.answer.specs.Answer.told_of Rattle.answer.specs.Answer.is_decision Rattle.answer.specs.Answer.deciding_line Rattle.answer.specs.Cut.nothing_yet Rattle.answer.specs.Cut.cut_answer Rattle.answer.specs.Meaning.strings Rattle.answer.specs.Meaning.granted_by Rattle.answer.specs.Meaning.answer_of Rattle.record.specs.Decision.fields_by Rattle.record.specs.Decision.recorded_of Rattle.record.specs.Decision.bytes_recorded Rattle.record.specs.Decision.record_bytes Rattle.record.specs.Decision.recorded_number Rattle.record.specs.Layout.packed_bits Rattle.record.specs.Layout.unpacked_bits Rattle.record.specs.Layout.bytes_of Rattle.record.specs.Layout.number_from Rattle.record.specs.Layout.is_below Rattle.record.specs.Layout.size_of Rattle.record.specs.Layout.age_from Rattle.record.specs.Layout.bits_of Rattle.record.specs.Layout.fields_of Rattle.record.specs.Layout.packed Rattle.record.specs.Read.read_bits Rattle.record.specs.Read.record_in Rattle.record.specs.Read.record_told Rattle.record.specs.Stored.known Rattle.record.specs.Stored.keeps_auth Rattle.record.specs.Stored.keeps_line Rattle.record.specs.Stored.stored_age Rattle.record.specs.Stored.stored_of Rattle.record.specs.Write.written_of Rattle.record.specs.Write.bytes_after Rattle.record.specs.Write.written_number Rattle.console.specs.Console.logged Rattle.console.specs.QuestionLine.number_in Rattle.console.specs.QuestionLine.minute_in Rattle.console.specs.QuestionLine.age_in Rattle.console.specs.QuestionLine.groups_in Rattle.console.specs.QuestionLine.arguments_in Rattle.console.specs.QuestionLine.asked_from Rattle.console.specs.QuestionLine.good_line Rattle.console.specs.QuestionLine.asked_in Rattle.console.proofs.WorkedLines.table Rattle.console.proofs.WorkedLines.questions Rattle.reader.specs.Colon.definition_read Rattle.reader.specs.Colon.global_read Rattle.reader.specs.Colon.comparison Rattle.reader.specs.Colon.word_of
worked_log = refl
