use mathlib.Core.Path.{sym, ◌∙◌}
use native.Mathlib.Omega.{arith}
use Rattle.text.proofs.Slices.{pair_at_law}
use Rattle.entry.proofs.KindLaws.{pair_found}
use Rattle.entry.proofs.AddLaws.{pair_here, command_here, path_here, other_here, long_refused}
use Rattle.entry.proofs.entry.Entry.add.Goals as goal

pub returns-then-text-gt-BYTES : goal.returns-then-text-gt-BYTES
returns-then-text-gt-BYTES c = λ t p e te h. long_refused c.args.text.now _ c.if-text-gt-BYTES.true

pub add_pair-requires : goal.add_pair-requires
add_pair-requires c = let h = pair_at_law 58 58 _ _ (pair_found c.args.self.position _ (sym c.kind.ensures ∙ c.in-Pair.is)) in (c.if-text-gt-BYTES.false, omega (arith, h.0))

pub returns-in-Pair : goal.returns-in-Pair
returns-in-Pair c = λ t p e te h. pair_here _ _ _ h c.if-text-gt-BYTES.false _ (sym c.kind.ensures ∙ c.in-Pair.is) (λ q n. c.add_pair.ensures t e te q n)

pub returns-in-Command : goal.returns-in-Command
returns-in-Command c = λ t p e te h. command_here _ _ _ h c.if-text-gt-BYTES.false (sym c.kind.ensures ∙ c.in-Command.is) (λ q n. c.add_command.ensures t e q n)

pub returns-in-Path : goal.returns-in-Path
returns-in-Path c = λ t p e te h. path_here _ _ _ h c.if-text-gt-BYTES.false (sym c.kind.ensures ∙ c.in-Path.is) (λ es q n w. c.add_path.ensures _ _ t e es te q n w)

pub returns-in-Other : goal.returns-in-Other
returns-in-Other c = λ t p e te h. other_here _ _ _ h c.if-text-gt-BYTES.false (sym c.kind.ensures ∙ c.in-Other.is) (λ q. c.add_other.ensures _ _ t e q)
