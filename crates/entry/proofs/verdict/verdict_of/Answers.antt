use mathlib.Core.Path.{ap, ◌∙◌}
use mathlib.Core.Bool.{not}
use Rattle.entry.proofs.VerdictLaws.{allowed, some_fails, password_by, by_nargs, by_argument, by_path, by_password, by_none}
use Rattle.entry.proofs.verdict.verdict_of.Goals as goal

pub returns-then-not-nargs_allow : goal.returns-then-not-nargs_allow
returns-then-not-nargs_allow c = λ q ps p few n a f w. by_nargs q _ ps p few (allowed c.nargs_allow.ensures c.nargs.ensures n c.if-not-nargs_allow.true)

pub returns-then-some : goal.returns-then-some
returns-then-some c = λ q ps p few n a f w. by_argument q _ ps p few (allowed c.nargs_allow.ensures c.nargs.ensures n c.if-not-nargs_allow.false) (some_fails c.some.ensures f c.if-some.true)

pub returns-then-is_none : goal.returns-then-is_none
returns-then-is_none c = λ q ps p few n a f w. by_path q _ ps p few (allowed c.nargs_allow.ensures c.nargs.ensures n c.if-not-nargs_allow.false) (some_fails c.some.ensures f c.if-some.false) w (c.is_none.ensures ∙ ap not c.if-is_none.true)

pub returns-then-needs_password : goal.returns-then-needs_password
returns-then-needs_password c = λ q ps p few n a f w. by_password q _ ps p few (allowed c.nargs_allow.ensures c.nargs.ensures n c.if-not-nargs_allow.false) (some_fails c.some.ensures f c.if-some.false) w (c.is_none.ensures ∙ ap not c.if-is_none.false) (password_by _ _ c.needs_password.ensures a c.if-needs_password.true)

pub returns : goal.returns
returns c = λ q ps p few n a f w. by_none q _ ps p few (allowed c.nargs_allow.ensures c.nargs.ensures n c.if-not-nargs_allow.false) (some_fails c.some.ensures f c.if-some.false) w (c.is_none.ensures ∙ ap not c.if-is_none.false) (password_by _ _ c.needs_password.ensures a c.if-needs_password.false)
