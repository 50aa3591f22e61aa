use Rattle.std.proofs.Common.{rules, arith, ◌≡◌, ◌∙◌, sym, ap}
use Rattle.std.specs.Option.{option_map, option_or}
use Rattle.suauth.specs.Contract.{question_in}
use Rattle.suauth.proofs.LineLaws.{decision_at, so_start, so_end, so_cut, so_bad, so_on}
use Rattle.suauth.proofs.lines.read_lines.Goals as goal

pub loop-from-init : goal.loop-from-init
loop-from-init c = record { inside = omega arith; few = omega arith; so_far = so_start _ _ }

pub returns-in_default : goal.returns-in_default
returns-in_default c = let a = c.args in so_cut (question_in a.target.now a.user.now a.groups.now) a.file.now c.loop-from.invariant.so_far c.loop-from-test.true (c.in_default.ensures c.loop-from.number)

pub returns-in_default-line_tells : goal.returns-in_default-line_tells
returns-in_default-line_tells c = let a = c.args in so_bad (question_in a.target.now a.user.now a.groups.now) a.file.now c.loop-from.invariant.so_far c.in-Some.ensures c.in_default-line_tells.field-0 c.in_default-line_tells.ensures

pub loop-from-preserved : goal.loop-from-preserved
loop-from-preserved c =
    let a = c.args in
    let l = c.in-Some.ensures in
    let told : c.map.result ≡ option_map (decision_at c.loop-from.number) c.in-Ok.told = search rules in
    record {
      inside = l.high;
      few = omega (arith, l.few, c.loop-from.invariant.few);
      so_far = so_on (question_in a.target.now a.user.now a.groups.now) a.file.now c.loop-from.invariant.so_far l c.in-Ok.told c.in-Ok.ensures (c.or-decided.ensures ∙ ap (option_or c.loop-from.decided) told);
    }

pub returns : goal.returns
returns c = let a = c.args in so_end (question_in a.target.now a.user.now a.groups.now) a.file.now c.loop-from.invariant.so_far c.loop-from-test.false c.answer_by.ensures
