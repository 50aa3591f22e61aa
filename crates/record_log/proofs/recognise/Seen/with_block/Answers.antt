use Rattle.std.specs.List.{list_all}
use Rattle.std.proofs.Common.{rules, ◌≡◌, ◌&&◌, eqb, length}
use Rattle.line.specs.Refused.{accepted}
use Rattle.figures.specs.Figures.{records_of}
use Rattle.record_log.specs.Recognised.{is_record}
use Rattle.record_log.proofs.RecogniseLaws.{seen_with}
use Rattle.record_log.proofs.recognise.Seen.with_block.Goals as goal

pub returns : goal.returns
returns c =
    let k = c.args.self in
    let s = c.args.block.now in
    let a : c.if-self.result ≡ (k.empty && eqb (length s) 0) = search rules in
    let b : c.if-self-2.result ≡ (k.textual && list_all accepted s) = search rules in
    let d : c.if-self-3.result ≡ (k.readable && list_all is_record (records_of s)) = search rules in
    λ bytes w e. rw (a, b, d) (seen_with bytes s w e)
