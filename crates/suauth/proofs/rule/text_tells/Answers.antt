use Rattle.std.proofs.Common.{rules, tests, ◌≡◌, ℕ, List, Bor, false, Err, sym, ap, ◌∙◌}
use Rattle.std.specs.List.{slice_split}
use Rattle.std.proofs.lemmas.Iterator.{YieldsList}
use Rattle.std.proofs.lemmas.Iterator.Consumers.{YieldsList-from_first}
use Rattle.text.specs.Bytes.{is}
use Rattle.text.specs.Lists.{null}
use Rattle.text.specs.Slice.{head_is}
use Rattle.text.specs.Split.{parts_left}
use Rattle.suauth.specs.Rule.{malformed, rule_of, parts_rule, text_rule}
use Rattle.suauth.specs.Contract.{question_in, line_tells}
use Rattle.suauth.proofs.RuleLaws.{text_skipped, text_parts, no_part, one_part, two_parts, three_parts, four_parts}
use Rattle.suauth.proofs.rule.text_tells.Goals as goal
use Rattle.suauth.proofs.rule.text_tells.Goals.{then-is_empty-via-then-is_empty, then-is_empty-via-else-is_empty+then-head_is}

pub returns-then-is_empty : goal.returns-then-is_empty
returns-then-is_empty c =
    let a = c.args in
    text_skipped (question_in a.target.now a.user.now a.groups.now) a.text.now (search rules)

pub returns-in_default : goal.returns-in_default
unfolding line_tells
returns-in_default c =
    let a = c.args in
    let w = c.in_default in
    rw (text_parts a.text.now (search rules) (search rules), four_parts _ _ c.new-parts.result c.next.new.self c.next-2.new.self (YieldsList-from_first (λ x. x.now) parts_left (slice_split (is ":") a.text.now) c.new-parts.ensures) w.field-0-0 w.ensures.steps w.field-0-1 w.ensures'.steps c.next-3.new.self w.field-0-2 w.ensures''.steps c.next-4.new.self w.field-0-3 w.ensures'''.steps)

pub returns-in_default-2 : goal.returns-in_default-2
unfolding line_tells
returns-in_default-2 c =
    let a = c.args in
    let w = c.in_default in
    rw (text_parts a.text.now (search rules) (search rules), two_parts _ _ c.new-parts.result c.next.new.self c.next-2.new.self (YieldsList-from_first (λ x. x.now) parts_left (slice_split (is ":") a.text.now) c.new-parts.ensures) w.field-0-0 w.ensures.steps w.field-0-1 w.ensures'.steps c.next-3.new.self w.ensures''.steps)

pub returns-in_default-3 : goal.returns-in_default-3
unfolding line_tells
returns-in_default-3 c =
    let a = c.args in
    let w = c.in_default in
    rw (text_parts a.text.now (search rules) (search rules), one_part _ _ c.new-parts.result c.next.new.self c.next-2.new.self (YieldsList-from_first (λ x. x.now) parts_left (slice_split (is ":") a.text.now) c.new-parts.ensures) w.field-0-0 w.ensures.steps w.ensures'.steps)

pub returns-in_default-4 : goal.returns-in_default-4
unfolding line_tells
returns-in_default-4 c =
    let a = c.args in
    rw (text_parts a.text.now (search rules) (search rules), no_part _ _ c.new-parts.result c.next.new.self (YieldsList-from_first (λ (x : Bor (List ℕ)). x.now) parts_left (slice_split (is ":") a.text.now) c.new-parts.ensures) c.in_default.ensures.steps)

pub returns : goal.returns
returns c =
    let a = c.args in
    let w = c.in-Some-Some-Some-None in
    rw (text_parts a.text.now (search rules) (search rules), three_parts _ _ c.new-parts.result c.next.new.self c.next-2.new.self (YieldsList-from_first (λ x. x.now) parts_left (slice_split (is ":") a.text.now) c.new-parts.ensures) w.to w.ensures.steps w.from w.ensures'.steps c.next-3.new.self w.action w.ensures''.steps c.next-4.new.self w.ensures'''.steps) c.rule_tells.ensures
