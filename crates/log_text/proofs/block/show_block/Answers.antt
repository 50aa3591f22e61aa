use Rattle.std.proofs.Common.{refl, sym, ap, ◌∙◌, rules, arith, length, length-drop}
use Rattle.log_text.proofs.LogLaws.{some_of, shows_none, shows_on, part_at}
use Rattle.log_text.proofs.block.show_block.Goals as goal

pub loop-bytes-init : goal.loop-bytes-init
loop-bytes-init c = record { size = search rules; rest = search rules; reached = omega arith; within = search rules; same = refl; fresh = λ e. refl; shows = shows_none _ _ }

pub loop-bytes-preserved : goal.loop-bytes-preserved
loop-bytes-preserved c =
    let l = c.loop-bytes in
    let i = l.invariant in
    let g = c.in-Some.ensures.steps in
    let p = part_at c.args.block.now c.in-Some.bytes.now _ l.at (sym i.rest ∙ g.1.0) (g.1.1 ∙ i.size) in
    let a = c.add_line-waiting.ensures in
    record {
      size = g.0 ∙ i.size;
      rest = p.rest;
      reached = p.within;
      within = a.within;
      same = search rules;
      fresh = λ e. absurd (omega arith);
      shows = shows_on c.args.block.now _ {at = l.at} {waiting = l.waiting} {out = l.out} p.within p.part i.shows a;
    }

pub returns-then-out-waiting-lt-LINE : goal.returns-then-out-waiting-lt-LINE
returns-then-out-waiting-lt-LINE c =
    let i = c.loop-bytes.invariant in
    let g = c.if-out-waiting-lt-LINE.true in
    record { reached = record { within = i.within; stops = λ h. omega (arith, g); moves = λ h k. some_of c.loop-bytes.at (λ e. absurd (omega (arith, g, i.fresh e))) }; shows = i.shows }

pub returns : goal.returns
returns c =
    let l = c.loop-bytes in
    let i = l.invariant in
    let g = c.in-None.ensures.steps in
    let z = ap length i.rest in
    let d = length-drop l.at c.args.block.now in
    record { reached = record { within = i.within; stops = λ h. absurd (omega (arith, g.1.0, i.size, z, d)); moves = λ h k. omega (arith, g.1.0, i.size, z, d) }; shows = i.shows }
