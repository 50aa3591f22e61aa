use mathlib.Core.Path.{◌∙◌}
use native.Mathlib.Omega.{arith}
use Rattle.text.proofs.Buffers.{wrote_length}
use Rattle.console.proofs.PartLaws.{put_first, put_second, put_order, put_within}
use Rattle.console.proofs.PieceLaws.{ends_order, no_minute, no_age, all_pieces, groups_fit, groups_within, arguments_fit}
use Rattle.console.proofs.question_line.read_pieces.Goals as goal

pub returns-in_err-minute : goal.returns-in_err-minute
returns-in_err-minute c = let p = c.requires in rw c.from_residual.ensures (record { size = p.1; asks = no_minute _ _ p.2 p.3 c.in_err-minute.ensures; placed = tt })

pub returns-in_err-last : goal.returns-in_err-last
returns-in_err-last c = let p = c.requires in rw c.from_residual-in_err-last.ensures (record { size = p.1; asks = no_age _ _ p.2 p.3 _ c.in_ok-minute.ensures c.in_err-last.ensures; placed = tt })

pub returns-in_err-groups : goal.returns-in_err-groups
returns-in_err-groups c = let p = c.requires in absurd (groups_fit _ _ p.2 p.3 p.0 p.1 c.put_groups.ensures c.in_err-groups.was)

pub put_arguments-requires : goal.put_arguments-requires
put_arguments-requires c = let p = c.requires in groups_within _ _ p.2 p.3 p.0 p.1 c.put_groups.ensures c.in_ok-groups.was

pub returns-in_err-args : goal.returns-in_err-args
returns-in_err-args c = let p = c.requires in absurd (arguments_fit _ _ p.2 p.3 p.0 p.1 c.put_groups.ensures c.in_ok-groups.was c.put_arguments.ensures c.in_err-args.was)

pub returns : goal.returns
returns c = let p = c.requires in
    let g = c.put_groups.ensures in
    let x = c.put_arguments.ensures in
    let i = c.in_ok-groups.was in
    let j = c.in_ok-args.was in
    let o = ends_order _ _ p.2 p.3 in
    let k = put_within g i x j in
    record {
      size = wrote_length x ∙ wrote_length g ∙ p.1;
      asks = all_pieces _ _ p.2 p.3 _ c.in_ok-minute.ensures _ _ _ c.in_ok-last.ensures (put_first g i x j) (put_second g i x j);
      placed = (o.0, o.1, o.2, omega (arith, o.3), put_order g i x j, omega (arith, k));
    }
