use Rattle.std.specs.Str.{bytes_eq}
use mathlib.Core.Path.{◌≡◌}
use borrow.Author.Rules.{rules}
use Rattle.text.specs.Bytes.{bytes}
use Rattle.entry.proofs.FinishLaws.{unmatched, users_refuse, times_refuse, accepted}
use Rattle.entry.proofs.entry.Entry.accepts.Goals as goal
use Rattle.entry.proofs.entry.Entry.accepts.Goals.{then-not-says-via-then-not-says, then-not-says-via-else-not-says+then-not-times_accept}

pub returns-in_err-path : goal.returns-in_err-path
returns-in_err-path c = λ k t p e h. rw c.from_residual.ensures (unmatched h.keeps _ c.in_err-path.was)

pub returns-then-not-says : goal.returns-then-not-says
returns-then-not-says c = λ k t p e h.
    let q : c.eq.result ≡ bytes_eq c.args.user.now (bytes "root") = search rules in
    elim c.then-not-says.branch [
      | then-not-says-via-then-not-says w ↦ users_refuse h.keeps _ c.in_ok-path.was q c.says.ensures w.if-not-says.true
      | then-not-says-via-else-not-says+then-not-times_accept w ↦ times_refuse h.keeps _ c.in_ok-path.was w.times_accept.ensures w.if-not-times_accept.true
    ]

pub returns : goal.returns
returns c = λ k t p e h.
    let q : c.eq.result ≡ bytes_eq c.args.user.now (bytes "root") = search rules in
    accepted h.keeps _ c.in_ok-path.was q c.says.ensures c.if-not-says.false c.times_accept.ensures c.if-not-times_accept.false
